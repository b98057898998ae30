-- Sentences of document 004's first report, character for character, and what reading answers.
use mathlib.Core.Path.{◌≡◌, refl}
use mathlib.Core.List.{List, [], ◌∷◌, ◌++◌, map}
use Prim.Native.Nat.{ℕ}
use lib.ListN.{set}
use Rattle.parity.specs.Parity.{step, parity_of}
use Rattle.rows.specs.Refusals.{answers}
use Rattle.rows.specs.Runs.Verdict.{allowed, empty, judge, later, slots_verdict, verdict, walk}
use Rattle.rows.specs.Values.{values_of}
use Rattle.report.specs.Categories.{body_from}
use Rattle.report.specs.Runs.Reading.{outer_of}
use Rattle.line.specs.Lines.{all_digits, is_line, paired, frame_of_line, line_reading}
use Rattle.sentence.specs.Sentences.{checksum, begins, satellite_in, told_in, has_form, around_answer, sentence_reading}

-- the digits of the report, and the same with small letters
abbrev pub first_digits : List ℕ
first_digits = 0x35 ∷ 0x33 ∷ 0x41 ∷ 0x46 ∷ 0x39 ∷ 0x31 ∷ 0x41 ∷ 0x43 ∷ 0x38 ∷ 0x32 ∷ 0x38 ∷ 0x30 ∷ 0x30 ∷ 0x33 ∷ 0x38 ∷ 0x38 ∷ 0x30 ∷ 0x30 ∷ 0x30 ∷ 0x30 ∷ 0x35 ∷ 0x39 ∷ 0x30 ∷ 0x35 ∷ 0x31 ∷ 0x34 ∷ 0x34 ∷ 0x30 ∷ 0x43 ∷ 0x35 ∷ 0x43 ∷ 0x38 ∷ 0x32 ∷ 0x41 ∷ 0x30 ∷ 0x31 ∷ 0x30 ∷ 0x38 ∷ 0x33 ∷ 0x30 ∷ 0x30 ∷ 0x30 ∷ 0x30 ∷ 0x30 ∷ 0x30 ∷ 0x30 ∷ 0x30 ∷ 0x30 ∷ 0x30 ∷ 0x30 ∷ 0x30 ∷ 0x30 ∷ 0x30 ∷ 0x30 ∷ 0x31 ∷ 0x30 ∷ 0x33 ∷ 0x30 ∷ 0x39 ∷ 0x33 ∷ 0x30 ∷ 0x45 ∷ 0x34 ∷ []

abbrev pub small_digits : List ℕ
small_digits = 0x35 ∷ 0x33 ∷ 0x61 ∷ 0x66 ∷ 0x39 ∷ 0x31 ∷ 0x61 ∷ 0x63 ∷ 0x38 ∷ 0x32 ∷ 0x38 ∷ 0x30 ∷ 0x30 ∷ 0x33 ∷ 0x38 ∷ 0x38 ∷ 0x30 ∷ 0x30 ∷ 0x30 ∷ 0x30 ∷ 0x35 ∷ 0x39 ∷ 0x30 ∷ 0x35 ∷ 0x31 ∷ 0x34 ∷ 0x34 ∷ 0x30 ∷ 0x63 ∷ 0x35 ∷ 0x63 ∷ 0x38 ∷ 0x32 ∷ 0x61 ∷ 0x30 ∷ 0x31 ∷ 0x30 ∷ 0x38 ∷ 0x33 ∷ 0x30 ∷ 0x30 ∷ 0x30 ∷ 0x30 ∷ 0x30 ∷ 0x30 ∷ 0x30 ∷ 0x30 ∷ 0x30 ∷ 0x30 ∷ 0x30 ∷ 0x30 ∷ 0x30 ∷ 0x30 ∷ 0x30 ∷ 0x31 ∷ 0x30 ∷ 0x33 ∷ 0x30 ∷ 0x39 ∷ 0x33 ∷ 0x30 ∷ 0x65 ∷ 0x34 ∷ []

-- header, satellite, digits, checksum, end of the line
abbrev text : List ℕ → List ℕ → List ℕ → List ℕ → List ℕ → List ℕ
text header satellite digits sum end = header ++ (0x2C ∷ satellite ++ (0x2C ∷ digits ++ (0x2A ∷ sum ++ end)))

abbrev ours : List ℕ
ours = 0x24 ∷ 0x51 ∷ 0x5A ∷ 0x51 ∷ 0x53 ∷ 0x4D ∷ []

abbrev return_and_feed : List ℕ
return_and_feed = 0x0D ∷ 0x0A ∷ []

-- satellite and number of the answer
abbrev pub said : List ℕ → List ℕ
said s = (sentence_reading s).satellite ∷ (answers (sentence_reading s).reading.answer).number ∷ []

abbrev pub examples : List (List ℕ)
examples =
    text ours (0x35 ∷ 0x35 ∷ []) first_digits (0x37 ∷ 0x42 ∷ []) return_and_feed  -- satellite 55
    ∷ text ours (0x36 ∷ 0x31 ∷ []) small_digits (0x37 ∷ 0x63 ∷ []) return_and_feed  -- satellite 61, all letters small
    ∷ text ours (0x35 ∷ 0x35 ∷ []) first_digits (0x37 ∷ 0x42 ∷ []) (0x0A ∷ [])  -- a line feed alone
    ∷ text (0x24 ∷ 0x51 ∷ 0x5A ∷ 0x51 ∷ 0x53 ∷ 0x4E ∷ []) (0x35 ∷ 0x35 ∷ []) first_digits (0x37 ∷ 0x38 ∷ []) return_and_feed  -- another head, with its own checksum
    ∷ text ours (0x35 ∷ 0x35 ∷ []) first_digits (0x35 ∷ 0x46 ∷ []) return_and_feed  -- a checksum with the dollar
    ∷ text ours (0x35 ∷ 0x35 ∷ []) first_digits (0x35 ∷ 0x31 ∷ []) return_and_feed  -- a checksum over the star
    ∷ text ours (0x35 ∷ 0x39 ∷ []) first_digits (0x37 ∷ 0x37 ∷ []) return_and_feed  -- satellite 59
    ∷ text ours (0x35 ∷ 0x39 ∷ []) first_digits (0x37 ∷ 0x42 ∷ []) return_and_feed  -- satellite 59 and a wrong checksum
    ∷ text ours (0x35 ∷ 0x3A ∷ []) first_digits (0x37 ∷ 0x34 ∷ []) return_and_feed  -- characters that are no number
    ∷ text ours (0x35 ∷ 0x35 ∷ []) (set first_digits 20 0x2C) (0x36 ∷ 0x32 ∷ []) return_and_feed  -- a comma among the digits
    ∷ []

pub the_examples_are_answered_so : map said examples ≡ (55 ∷ 0 ∷ []) ∷ (61 ∷ 0 ∷ []) ∷ (0 ∷ 18 ∷ []) ∷ (0 ∷ 18 ∷ []) ∷ (0 ∷ 19 ∷ []) ∷ (0 ∷ 19 ∷ []) ∷ (0 ∷ 20 ∷ []) ∷ (0 ∷ 19 ∷ []) ∷ (0 ∷ 20 ∷ []) ∷ (0 ∷ 17 ∷ []) ∷ []
unfolding sentence_reading around_answer has_form begins checksum told_in satellite_in line_reading is_line all_digits allowed frame_of_line paired outer_of parity_of step body_from verdict values_of walk judge slots_verdict later empty
the_examples_are_answered_so = refl
