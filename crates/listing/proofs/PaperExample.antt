-- The example of document 01, "The listing", byte for byte.
use mathlib.Core.Path.{◌≡◌, refl}
use mathlib.Core.List.{List, [], ◌∷◌, ◌++◌}
use Prim.Native.Nat.{ℕ}
use lib.ListN.{replicate}
use Rattle.parity.specs.Parity.{step, parity_of}
use Rattle.rows.specs.Runs.Questions.{◌then◌, unless}
use Rattle.rows.specs.Runs.Verdict.{allowed}
use Rattle.report.specs.Runs.Reading.{outer_of}
use Rattle.line.specs.Lines.{all_digits, is_line, paired, frame_of_line, line_reading}
use Rattle.lent.specs.Numbers.{decimal, figures}
use Rattle.listing.specs.Rows.{row_text, heading_text}
use Rattle.listing.specs.Listing.{onto, lines_of, line_row, limit, rows_from, listing}

abbrev pub zeros : ℕ → List ℕ
zeros n = replicate n 48

-- "four input lines (63 zeros; `53` and 61 zeros; `53` alone; 62 zeros and `1`)"
abbrev pub four_lines : List ℕ
four_lines = zeros 63 ++ (10 ∷ 53 ∷ 51 ∷ zeros 61 ++ (10 ∷ 53 ∷ 51 ∷ 10 ∷ zeros 62 ++ (49 ∷ 10 ∷ [])))

-- " - - -", one dash more for the value, and the end of a row
abbrev pub dashes : List ℕ
dashes = 32 ∷ 45 ∷ 32 ∷ 45 ∷ 32 ∷ 45 ∷ 32 ∷ 45 ∷ 10 ∷ []

-- "1 3", "2 4", "3 17", "4 2", each with four dashes
pub four_lines_are_listed_so : listing four_lines ≡ heading_text ++ (49 ∷ 32 ∷ 51 ∷ dashes ++ (50 ∷ 32 ∷ 52 ∷ dashes ++ (51 ∷ 32 ∷ 49 ∷ 55 ∷ dashes ++ (52 ∷ 32 ∷ 50 ∷ dashes))))
unfolding listing lines_of onto rows_from limit line_row row_text decimal figures line_reading is_line all_digits allowed frame_of_line paired outer_of parity_of step
four_lines_are_listed_so = refl
