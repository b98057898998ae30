-- What is listed of frames that are refused with 8: the value found, be it 0, and of fields that go together that of the one at the place.
use Rattle.std.specs.Prelude.{None, Some}
use mathlib.Core.Path.{◌≡◌, ◌∙◌, ap, refl}
use native.Mathlib.Omega.{arith}
use mathlib.Core.List.{List, [], ◌∷◌, ◌++◌}
use Prim.Native.Nat.{ℕ}
use Rattle.parity.specs.Parity.{step, parity_of}
use Rattle.rows.specs.Runs.Questions.{◌then◌, unless}
use Rattle.rows.specs.Runs.Verdict.{allowed, empty, judge, later, slots_verdict, verdict, walk}
use Rattle.rows.specs.Values.{values_of}
use Rattle.report.specs.Categories.{body_from}
use Rattle.report.specs.Runs.Reading.{outer_of}
use Rattle.line.specs.Lines.{all_digits, is_line, paired, frame_of_line, line_reading}
use Rattle.lent.specs.Numbers.{decimal, figures}
use Rattle.lent.proofs.Decimals.{decimal_by, decimal_one}
use Rattle.listing.specs.Rows.{row_of, row_text, heading_text}
use Rattle.listing.specs.Listing.{onto, lines_of, line_row, limit, rows_from, listing}

-- reports of document 004 with other numbers: magnitude 102, magnitude 0, page 5 of 4, hour 31 without minute 63, minute 63 without hour 31, and
-- in a volcano report day 0 and minute 63 beside an hour
abbrev pub refused_lines : List ℕ
refused_lines =
    53 ∷ 51 ∷ 65 ∷ 70 ∷ 57 ∷ 49 ∷ 65 ∷ 67 ∷ 56 ∷ 50 ∷ 56 ∷ 48 ∷ 48 ∷ 51 ∷ 56 ∷ 56 ∷ 48 ∷ 48 ∷ 48 ∷ 48 ∷ 53 ∷ 57 ∷ 48 ∷ 53 ∷ 49 ∷ 52 ∷ 54 ∷ 54 ∷ 67 ∷ 53 ∷ 67 ∷ 56 ∷ 50 ∷ 65 ∷ 48 ∷ 49 ∷ 48 ∷ 56 ∷ 51 ∷ 48 ∷ 48 ∷ 48 ∷ 48 ∷ 48 ∷ 48 ∷ 48 ∷ 48 ∷ 48 ∷ 48 ∷ 48 ∷ 48 ∷ 48 ∷ 48 ∷ 48 ∷ 49 ∷ 48 ∷ 51 ∷ 54 ∷ 48 ∷ 68 ∷ 55 ∷ 50 ∷ 48
    ∷ 10
    ∷ 53 ∷ 51 ∷ 65 ∷ 70 ∷ 57 ∷ 49 ∷ 65 ∷ 67 ∷ 56 ∷ 50 ∷ 56 ∷ 48 ∷ 48 ∷ 51 ∷ 56 ∷ 56 ∷ 48 ∷ 48 ∷ 48 ∷ 48 ∷ 53 ∷ 57 ∷ 48 ∷ 53 ∷ 49 ∷ 52 ∷ 48 ∷ 48 ∷ 67 ∷ 53 ∷ 67 ∷ 56 ∷ 50 ∷ 65 ∷ 48 ∷ 49 ∷ 48 ∷ 56 ∷ 51 ∷ 48 ∷ 48 ∷ 48 ∷ 48 ∷ 48 ∷ 48 ∷ 48 ∷ 48 ∷ 48 ∷ 48 ∷ 48 ∷ 48 ∷ 48 ∷ 48 ∷ 48 ∷ 49 ∷ 48 ∷ 49 ∷ 56 ∷ 65 ∷ 68 ∷ 67 ∷ 55 ∷ 56
    ∷ 10
    ∷ 53 ∷ 51 ∷ 65 ∷ 70 ∷ 65 ∷ 49 ∷ 65 ∷ 67 ∷ 57 ∷ 49 ∷ 56 ∷ 48 ∷ 48 ∷ 50 ∷ 70 ∷ 50 ∷ 67 ∷ 54 ∷ 67 ∷ 66 ∷ 70 ∷ 51 ∷ 53 ∷ 65 ∷ 68 ∷ 66 ∷ 70 ∷ 49 ∷ 67 ∷ 49 ∷ 67 ∷ 52 ∷ 55 ∷ 49 ∷ 67 ∷ 49 ∷ 68 ∷ 52 ∷ 70 ∷ 49 ∷ 67 ∷ 49 ∷ 67 ∷ 65 ∷ 70 ∷ 51 ∷ 53 ∷ 57 ∷ 53 ∷ 70 ∷ 56 ∷ 65 ∷ 50 ∷ 48 ∷ 49 ∷ 48 ∷ 51 ∷ 56 ∷ 56 ∷ 51 ∷ 65 ∷ 48 ∷ 52
    ∷ 10
    ∷ 53 ∷ 51 ∷ 65 ∷ 70 ∷ 65 ∷ 57 ∷ 65 ∷ 67 ∷ 56 ∷ 50 ∷ 56 ∷ 48 ∷ 48 ∷ 49 ∷ 69 ∷ 56 ∷ 70 ∷ 54 ∷ 55 ∷ 67 ∷ 51 ∷ 55 ∷ 67 ∷ 53 ∷ 51 ∷ 57 ∷ 54 ∷ 48 ∷ 52 ∷ 49 ∷ 52 ∷ 69 ∷ 54 ∷ 50 ∷ 49 ∷ 48 ∷ 53 ∷ 51 ∷ 66 ∷ 69 ∷ 48 ∷ 48 ∷ 48 ∷ 48 ∷ 48 ∷ 48 ∷ 48 ∷ 48 ∷ 48 ∷ 48 ∷ 48 ∷ 48 ∷ 48 ∷ 48 ∷ 49 ∷ 48 ∷ 51 ∷ 65 ∷ 65 ∷ 65 ∷ 65 ∷ 48 ∷ 56
    ∷ 10
    ∷ 53 ∷ 51 ∷ 65 ∷ 70 ∷ 65 ∷ 57 ∷ 65 ∷ 67 ∷ 56 ∷ 50 ∷ 56 ∷ 48 ∷ 48 ∷ 49 ∷ 69 ∷ 56 ∷ 70 ∷ 54 ∷ 55 ∷ 67 ∷ 51 ∷ 49 ∷ 51 ∷ 70 ∷ 51 ∷ 57 ∷ 54 ∷ 48 ∷ 52 ∷ 49 ∷ 52 ∷ 69 ∷ 54 ∷ 50 ∷ 49 ∷ 48 ∷ 53 ∷ 51 ∷ 66 ∷ 69 ∷ 48 ∷ 48 ∷ 48 ∷ 48 ∷ 48 ∷ 48 ∷ 48 ∷ 48 ∷ 48 ∷ 48 ∷ 48 ∷ 48 ∷ 48 ∷ 48 ∷ 49 ∷ 48 ∷ 49 ∷ 55 ∷ 56 ∷ 56 ∷ 52 ∷ 50 ∷ 56
    ∷ 10
    ∷ 53 ∷ 51 ∷ 65 ∷ 70 ∷ 67 ∷ 49 ∷ 65 ∷ 67 ∷ 65 ∷ 53 ∷ 48 ∷ 48 ∷ 48 ∷ 48 ∷ 48 ∷ 66 ∷ 70 ∷ 66 ∷ 52 ∷ 49 ∷ 70 ∷ 55 ∷ 56 ∷ 51 ∷ 69 ∷ 48 ∷ 70 ∷ 49 ∷ 48 ∷ 57 ∷ 49 ∷ 48 ∷ 52 ∷ 50 ∷ 49 ∷ 50 ∷ 51 ∷ 48 ∷ 50 ∷ 48 ∷ 48 ∷ 48 ∷ 48 ∷ 48 ∷ 48 ∷ 48 ∷ 48 ∷ 48 ∷ 48 ∷ 48 ∷ 48 ∷ 48 ∷ 48 ∷ 48 ∷ 49 ∷ 48 ∷ 49 ∷ 65 ∷ 66 ∷ 48 ∷ 68 ∷ 66 ∷ 67
    ∷ 10 ∷ []

-- "1 8 105 - - 102", "2 8 105 - - 0", "3 8 207 - - 4", "4 8 85 - - 31", "5 8 90 - - 63", "6 8 53 - - 0"
abbrev pub rows_with_values : List ℕ
rows_with_values =
    49 ∷ 32 ∷ 56 ∷ 32 ∷ 49 ∷ 48 ∷ 53 ∷ 32 ∷ 45 ∷ 32 ∷ 45 ∷ 32 ∷ 49 ∷ 48 ∷ 50
    ∷ 10
    ∷ 50 ∷ 32 ∷ 56 ∷ 32 ∷ 49 ∷ 48 ∷ 53 ∷ 32 ∷ 45 ∷ 32 ∷ 45 ∷ 32 ∷ 48
    ∷ 10
    ∷ 51 ∷ 32 ∷ 56 ∷ 32 ∷ 50 ∷ 48 ∷ 55 ∷ 32 ∷ 45 ∷ 32 ∷ 45 ∷ 32 ∷ 52
    ∷ 10
    ∷ 52 ∷ 32 ∷ 56 ∷ 32 ∷ 56 ∷ 53 ∷ 32 ∷ 45 ∷ 32 ∷ 45 ∷ 32 ∷ 51 ∷ 49
    ∷ 10
    ∷ 53 ∷ 32 ∷ 56 ∷ 32 ∷ 57 ∷ 48 ∷ 32 ∷ 45 ∷ 32 ∷ 45 ∷ 32 ∷ 54 ∷ 51
    ∷ 10
    ∷ 54 ∷ 32 ∷ 56 ∷ 32 ∷ 53 ∷ 51 ∷ 32 ∷ 45 ∷ 32 ∷ 45 ∷ 32 ∷ 48
    ∷ 10 ∷ []

pub refused_values_are_listed_so : listing refused_lines ≡ heading_text ++ rows_with_values
unfolding listing lines_of onto rows_from limit line_row row_text decimal figures line_reading is_line all_digits allowed frame_of_line paired outer_of parity_of step body_from verdict values_of walk judge slots_verdict later empty
refused_values_are_listed_so = refl

-- the first flood report of document 004 with a region of forty ones
abbrev pub widest_line : List ℕ
widest_line = 53 ∷ 51 ∷ 65 ∷ 70 ∷ 68 ∷ 57 ∷ 65 ∷ 67 ∷ 66 ∷ 49 ∷ 56 ∷ 48 ∷ 48 ∷ 49 ∷ 55 ∷ 70 ∷ 70 ∷ 70 ∷ 70 ∷ 70 ∷ 70 ∷ 70 ∷ 70 ∷ 70 ∷ 56 ∷ 48 ∷ 48 ∷ 48 ∷ 48 ∷ 48 ∷ 48 ∷ 48 ∷ 48 ∷ 48 ∷ 48 ∷ 48 ∷ 48 ∷ 48 ∷ 48 ∷ 48 ∷ 48 ∷ 48 ∷ 48 ∷ 48 ∷ 48 ∷ 48 ∷ 48 ∷ 48 ∷ 48 ∷ 48 ∷ 48 ∷ 48 ∷ 48 ∷ 48 ∷ 49 ∷ 48 ∷ 49 ∷ 51 ∷ 70 ∷ 68 ∷ 50 ∷ 56 ∷ 67 ∷ []

-- "Flood region codes .. need more than 32 bits", and so does the value of an 8 ..
pub forty_ones_are_told : row_of (line_reading widest_line) ≡ record { answer = 8; place = Some 57; category = None; slots = None; value = Some 1099511627775 }
unfolding line_reading is_line all_digits allowed frame_of_line paired outer_of parity_of step body_from verdict values_of walk judge slots_verdict later empty
forty_ones_are_told = refl

-- .. which is listed with all of its digits: "1 8 57 - - 1099511627775"
pub forty_ones_are_listed_so : line_row 1 widest_line ≡ 49 ∷ 32 ∷ 56 ∷ 32 ∷ 53 ∷ 55 ∷ 32 ∷ 45 ∷ 32 ∷ 45 ∷ 32 ∷ 49 ∷ 48 ∷ 57 ∷ 57 ∷ 53 ∷ 49 ∷ 49 ∷ 54 ∷ 50 ∷ 55 ∷ 55 ∷ 55 ∷ 53 ∷ 10 ∷ []
unfolding line_row row_text figures
forty_ones_are_listed_so =
    ap (row_text 1) forty_ones_are_told
    ∙ simp (decimal_by 12 1099511627775 (omega arith), decimal_by 1 57 (omega arith), decimal_one 1 (omega arith), decimal_one 8 (omega arith))
