-- A frame as text (document 01, "The frame on the wire"): "As text it is 63 hexadecimal digits, one frame a line; the last two
-- bits of the last digit are padding." 63 digits are 252 bits: the last four bits of the 32 bytes have no digit.
use Rattle.std.specs.Prelude.{ℕ, ◌+◌, ◌-◌, ◌*◌, ◌/◌, ◌%◌, Bool, true, ◌&&◌, cond, List, [], ◌∷◌, ◌++◌, map, length, take, drop, replicate, eqb, ltb, leb, Ok, Err, Option, None, Some}
use Rattle.bits.specs.Frame.{field_of}
use Rattle.rows.specs.declared.refusal.Refusal.TheVariants.{Length, Padding, Short, Line}
use Rattle.rows.specs.declared.refusal.Said.{Said}
use Rattle.rows.specs.Refusals.{answers, Verdict}
use Rattle.rows.specs.Runs.Questions.{◌then◌, unless}
use Rattle.rows.specs.Layout.{Span, ◌to◌}
use Rattle.rows.specs.Runs.Verdict.{allowed}
use Rattle.report.specs.Records.{zeros}
use Rattle.report.specs.Runs.Reading.{read_answer, reading, read_of, Reading}

-- ---- one digit

-- "hexadecimal digits, either case": 0 to 9, A to F, a to f
abbrev pub digits : List Span
digits = 0x30 to 0x39 ∷ 0x41 to 0x46 ∷ 0x61 to 0x66 ∷ []

-- the number that a digit stands for
abbrev pub worth : ℕ → ℕ
worth b = cond (ltb b 0x3A) (b - 0x30) (cond (ltb b 0x47) (b - 0x37) (b - 0x57))

-- the same of any byte, where it is a digit
abbrev pub digit_of : ℕ → Option ℕ
digit_of b = cond (allowed digits b) (Some (worth b)) None

-- the digit of a number below 16, a capital letter from ten on
abbrev pub capital : ℕ → ℕ
capital n = cond (ltb n 10) (0x30 + n) (0x37 + n)

-- the same digit as a capital
abbrev pub upper : ℕ → ℕ
upper b = cond (allowed (0x61 to 0x66 ∷ []) b) (b - 0x20) b

abbrev pub capitals : List ℕ → List ℕ
capitals = map upper

-- ---- from a line to a frame

unfoldable pub all_digits : List ℕ → Bool
all_digits [] = true
all_digits (b ∷ l) = allowed digits b && all_digits l

-- "17: line not of 63 hexadecimal digits, either case"
unfoldable pub is_line : List ℕ → Bool
is_line l = eqb (length l) 63 && all_digits l

-- two numbers below 16 a byte, the first in the byte's high half; where the last one stands alone the low half is zero
unfoldable pub paired : List ℕ → List ℕ
paired [] = []
paired (a ∷ []) = a * 16 ∷ []
paired (a ∷ b ∷ r) = (a * 16 + b) ∷ paired r

unfoldable pub frame_of_line : List ℕ → List ℕ
frame_of_line l = paired (map worth l)

-- the frame of a line, where it is one
abbrev pub frame_in : List ℕ → Option (List ℕ)
frame_in l = cond (is_line l) (Some (frame_of_line l)) None

-- what a line comes to: what is found, and the frame
pub record Framing : Type 0 where
  pub answer : Verdict
  pub frame : List ℕ

abbrev pub no_line : Framing
no_line = record { answer = Err Line; frame = replicate 32 0 }

-- the frame of a line, or 17 and zeros
unfoldable pub framing : List ℕ → Framing
framing l = cond (is_line l) (record { answer = Ok tt; frame = frame_of_line l }) no_line

-- what that says, in the paper's numbers
abbrev pub framing_says : List ℕ → Said
framing_says l = answers (unless (is_line l) Line)

-- "A line: 17, then as its frame."
unfoldable pub line_reading : List ℕ → Reading
line_reading l = cond (is_line l) (read_of (frame_of_line l)) (reading (Err Line) zeros)

abbrev pub line_says : List ℕ → Said
line_says l = answers (unless (is_line l) Line then read_answer (frame_of_line l))

-- ---- from a frame to a line

-- the two halves of each byte
unfoldable pub halves : List ℕ → List ℕ
halves [] = []
halves (b ∷ s) = b / 16 ∷ b % 16 ∷ halves s

unfoldable pub line_of : List ℕ → List ℕ
line_of s = map capital (take 63 (halves s))

-- what writing a line answers: 1, 2, then 16
unfoldable pub line_answer : List ℕ → ℕ → Verdict
line_answer s room =
    unless (eqb (length s) 32) Length
    then unless (eqb (field_of s 250 6) 0) Padding
    then unless (leb 63 room) Short

abbrev pub line_write_says : List ℕ → ℕ → Said
line_write_says s room = answers (line_answer s room)

-- a refused writing leaves the buffer as it was, any other leaves the bytes behind the line
abbrev pub line_written : Verdict → List ℕ → List ℕ → List ℕ
line_written (Ok tt) s buffer = line_of s ++ drop 63 buffer
line_written (Err x) s buffer = buffer

abbrev pub line_into : List ℕ → List ℕ → List ℕ
line_into s buffer = line_written (line_answer s (length buffer)) s buffer
