-- What this crate claims of its definitions. Each is proved in the file that its last line names.
use Rattle.std.specs.Prelude.{Ok, Err}
use mathlib.Core.Path.{◌≡◌}
use mathlib.Core.Bool.{true, false}
use mathlib.Core.List.{List}
use mathlib.Core.Logic.{◌↔◌}
use Prim.Native.Nat.{ℕ, ◌*◌, ◌<◌}
use lib.ListN.{length, get_or}
use Rattle.bits.specs.Frame.{Bytes, bytes_of, field_of}
use Rattle.rows.specs.declared.refusal.Refusal.{Refusal}
use Rattle.rows.specs.declared.refusal.Refusal.TheVariants.{Line}
use Rattle.rows.specs.Faults.{Met}
use Rattle.report.specs.declared.record.Record.{Record}
use Rattle.report.specs.Records.{zeros}
use Rattle.report.specs.Runs.Reading.{read_of}
use Rattle.report.specs.Runs.Writing.{frame, Valid}
use Rattle.line.specs.Lines.{worth, capitals, is_line, frame_of_line, line_reading, line_of, line_answer}
use Rattle.line.specs.Reasons.{SixtyThreeDigits, WhyNotReadAsLine, print_questions, WhyNotPrinted}
use Rattle.report.proofs.Shaped.{Shaped}
use Rattle.line.proofs.ThereAndBack
use Rattle.line.proofs.DigitBits as Places
use Rattle.line.proofs.Pairs as Pairs
use Rattle.line.proofs.ReadLines as ReadLines
use Rattle.line.proofs.LineReasons as LineReasons

-- ---- "As text it is 63 hexadecimal digits"

-- Any 32 bytes have a line ..
pub a_frame_has_a_line : (s : List ℕ) → length s ≡ 32 → Bytes s → is_line (line_of s) ≡ true
a_frame_has_a_line = ThereAndBack.is_line_lem

-- .. whose digits are the frame's bits, four a digit, "most significant first".
pub digits_are_fields : (s : List ℕ) → length s ≡ 32 → Bytes s → (k : ℕ) → k < 63 → worth (get_or (line_of s) k 0) ≡ field_of s (4 * k) 4
digits_are_fields = Places.digit_field

pub a_line_has_a_frame : (l : List ℕ) → length l ≡ 63 → length (frame_of_line l) ≡ 32
a_line_has_a_frame = Pairs.frame-length

-- ---- there and back

-- The last four of the six bits of padding have no digit; the first two have: "the last two bits of the last digit are padding".
pub frame_to_line_to_frame : (s : List ℕ) → length s ≡ 32 → Bytes s → field_of s 252 4 ≡ 0 → frame_of_line (line_of s) ≡ s
frame_to_line_to_frame = ReadLines.frame_again

-- So every frame without padding can be told by a line.
pub no_padding_no_digit_lost : (s : List ℕ) → field_of s 250 6 ≡ 0 → field_of s 252 4 ≡ 0
no_padding_no_digit_lost = ReadLines.no_digit_lost

pub line_to_frame_to_line : (l : List ℕ) → is_line l ≡ true → line_of (frame_of_line l) ≡ capitals l
line_to_frame_to_line = ThereAndBack.line_back

-- ---- "A line: 17, then as its frame."

pub a_line_reads_as_its_frame : (l : List ℕ) → is_line l ≡ true → line_reading l ≡ read_of (frame_of_line l)
a_line_reads_as_its_frame = ReadLines.line_reads

pub no_line_is_17 : (l : List ℕ) → is_line l ≡ false → line_reading l ≡ record { answer = Err Line; «record» = zeros }
no_line_is_17 = ReadLines.no_line_reads

-- "A refusal is given only when its row's reason is there."
pub only_no_line_is_17 : (l : List ℕ) → (line_reading l).answer ≡ Err Line → is_line l ≡ false
only_no_line_is_17 = ReadLines.only_17

-- The test of a line asks just for that: 63 bytes, and each of them a digit.
pub a_line_is_63_digits : (l : List ℕ) → is_line l ≡ true ↔ SixtyThreeDigits l
a_line_is_63_digits = LineReasons.tested_exactly

-- So "17" is answered where that is not so, and there alone ..
pub seventeen_exactly_when_not_63_digits : (l : List ℕ) → (line_reading l).answer ≡ Err Line ↔ (SixtyThreeDigits l → ⊥)
seventeen_exactly_when_not_63_digits = LineReasons.refused_17

-- .. 63 digits are read as their frame ..
pub digits_read_as_their_frame : (l : List ℕ) → SixtyThreeDigits l → line_reading l ≡ read_of (frame_of_line l)
digits_read_as_their_frame = LineReasons.digits_read

-- .. and refused for the reasons of that frame.
pub line_refused_for_a_reason : (l : List ℕ) (x : Refusal) → (line_reading l).answer ≡ Err x → WhyNotReadAsLine l x
line_refused_for_a_reason = LineReasons.read_reason

-- "A refused reading gives a record of zeros."
pub a_refused_line_gives_zeros : (l : List ℕ) (x : Refusal) → (line_reading l).answer ≡ Err x → (line_reading l).«record» ≡ zeros
a_refused_line_gives_zeros = ReadLines.refused_zeros

-- "hexadecimal digits, either case": whatever the bytes, they are read as if their small letters were capitals.
pub either_case_reads_the_same : (l : List ℕ) → line_reading (capitals l) ≡ line_reading l
either_case_reads_the_same = ReadLines.capitals_read

-- What a valid record writes, as a line, is read as that record.
pub a_written_line_is_read_again : (r : Record) → Shaped r → Valid r → line_reading (line_of (bytes_of (frame r))) ≡ record { answer = Ok tt; «record» = r }
a_written_line_is_read_again = ReadLines.record_again

-- ---- a line written: 1 where "a lent frame is not 32 bytes long", 2 where there is padding, 16 where the buffer is too short

-- The condition of the number fails, and every earlier one holds ..
pub printing_refused_for_a_reason : (s : List ℕ) (room : ℕ) (x : Refusal) → line_answer s room ≡ Err x → WhyNotPrinted s room x
printing_refused_for_a_reason = LineReasons.print_reason

-- .. and "where no row tested by a call applies, the call succeeds", and there alone.
pub printed_exactly_when_nothing_is_wrong : (s : List ℕ) (room : ℕ) → line_answer s room ≡ (Ok tt) ↔ Met (print_questions s room)
printed_exactly_when_nothing_is_wrong = LineReasons.print_exactly
