-- What this crate claims of its definitions (document 02, "Receiver sentences in and out").
use Rattle.std.specs.Prelude.{Ok, Err}
use mathlib.Core.Path.{◌≡◌, refl, ap, ◌∙◌}
use mathlib.Core.Bool.{true, false}
use mathlib.Core.List.{List, [], ◌∷◌, ◌++◌, map}
use mathlib.Core.Logic.{◌↔◌, ◌⊎◌}
use Prim.Native.Nat.{ℕ, suc, ◌/◌, ◌%◌, ◌≤◌, ◌<◌}
use lib.ListN.{length, take, drop, get_or, set}
use Rattle.bits.specs.Frame.{Bytes}
use Rattle.rows.specs.declared.refusal.Refusal.{Refusal}
use Rattle.rows.specs.declared.refusal.Refusal.TheVariants.{Line, Sentence, Checksum}
use Rattle.rows.specs.Kept.{In}
use Rattle.rows.specs.Faults.{Met}
use Rattle.rows.specs.Runs.Verdict.{allowed}
use Rattle.report.specs.Conforms.{Conforms}
use Rattle.report.specs.Records.{zeros}
use Rattle.report.specs.Runs.Reading.{read_of}
use Rattle.line.specs.Lines.{capital, upper, capitals, frame_of_line}
use Rattle.line.specs.Reasons.{SixtyThreeDigits}
use Rattle.line.proofs.Claims.{frame_to_line_to_frame, no_padding_no_digit_lost}
use Rattle.line.proofs.LineReasons.{refused_17}
use Rattle.sentence.specs.Sentences.{satellites, checksum, part, between, digits_in, sentence_reading, sentence_answer, sentence_of, send_answer}
use Rattle.sentence.specs.Reasons.{sentence_questions, WhyNotReadAsSentence, WhyNotSent}
use Rattle.sentence.proofs.Asked as Asked
use Rattle.sentence.proofs.Changed as Changed
use Rattle.sentence.proofs.Checksums as Checksums
use Rattle.sentence.proofs.Examples.{examples, said, the_examples_are_answered_so}
use Rattle.sentence.proofs.Read as Read
use Rattle.sentence.proofs.Written as Written

-- ---- "A sentence we wrote is read back to the same satellite and frame."

-- Of a satellite that is listed and a frame that is read: what reading the frame gives, with the satellite beside it ..
pub a_written_sentence_is_read_again : (n : ℕ) (f : List ℕ) → In satellites n → Conforms f → Bytes f → sentence_reading (sentence_of n f) ≡ record { satellite = n; reading = read_of f }
a_written_sentence_is_read_again n f listed c bytes = Written.read_whole n f listed c.long bytes c

-- .. and its digits are those of the same frame.
pub a_written_sentence_has_its_frame : (n : ℕ) (f : List ℕ) → Conforms f → Bytes f → frame_of_line (digits_in (sentence_of n f)) ≡ f
a_written_sentence_has_its_frame n f c bytes =
    ap frame_of_line (Written.written-digits n f c.long) ∙ frame_to_line_to_frame f c.long bytes (no_padding_no_digit_lost f c.padding)

-- ---- a sentence that is read, beside the one that we would write

-- It can be written, with its satellite and its frame ..
pub what_is_read_can_be_written : (s : List ℕ) → sentence_answer s ≡ Ok tt → send_answer (sentence_reading s).satellite (frame_of_line (digits_in s)) 78 ≡ Ok tt
what_is_read_can_be_written = Read.may_be_sent

-- .. and has the characters of the satellite and, as capitals, the 63 digits of what would be written.
pub what_is_read_has_the_satellite_and_digits_of_what_we_write : (s : List ℕ) → sentence_answer s ≡ Ok tt
    → (part 7 2 (sentence_of (sentence_reading s).satellite (frame_of_line (digits_in s))) ≡ part 7 2 s)
    × (digits_in (sentence_of (sentence_reading s).satellite (frame_of_line (digits_in s))) ≡ capitals (digits_in s))
what_is_read_has_the_satellite_and_digits_of_what_we_write s e = (Read.same_satellite s e, Read.same_digits s e)

-- Its checksum digits, as capitals, are those of its own characters between `$` and `*` ..
pub the_checksum_is_that_of_its_own_characters : (s : List ℕ) → sentence_answer s ≡ Ok tt
    → (upper (get_or s 74 0) ≡ capital (checksum (between s) / 16)) × (upper (get_or s 75 0) ≡ capital (checksum (between s) % 16))
the_checksum_is_that_of_its_own_characters = Read.own_checksum

-- .. so where no digit of the frame is a small letter, it is what we would write but for the case of the checksum digits.
pub without_small_letters_it_is_what_we_write : (s : List ℕ) → sentence_answer s ≡ Ok tt → capitals (digits_in s) ≡ digits_in s
    → sentence_of (sentence_reading s).satellite (frame_of_line (digits_in s)) ≡ take 74 s ++ (upper (get_or s 74 0) ∷ upper (get_or s 75 0) ∷ drop 76 s)
without_small_letters_it_is_what_we_write = Read.would_write

-- ---- "18 .. ; 19 checksum; 20 satellite not listed; then 17, then the frame's own": the first question that is not met

pub sentence_refused_for_a_reason : (s : List ℕ) (x : Refusal) → sentence_answer s ≡ Err x → WhyNotReadAsSentence s x
sentence_refused_for_a_reason = Asked.read_why_not

-- "where no row tested by a call applies, the call succeeds", and there alone
pub sentence_read_exactly_when_nothing_is_wrong : (s : List ℕ) → sentence_answer s ≡ (Ok tt) ↔ (Met (sentence_questions s) × (SixtyThreeDigits (digits_in s) × Conforms (frame_of_line (digits_in s))))
sentence_read_exactly_when_nothing_is_wrong = Asked.read_exactly

-- what reading gives is answered so; "A refused reading gives a record of zeros", and satellite 0
pub reading_a_sentence_answers_so : (s : List ℕ) → (sentence_reading s).reading.answer ≡ sentence_answer s
reading_a_sentence_answers_so = Read.answered

pub a_refused_sentence_gives_nothing : (s : List ℕ) (x : Refusal) → sentence_answer s ≡ Err x → ((sentence_reading s).satellite ≡ 0) × ((sentence_reading s).reading.«record» ≡ zeros)
a_refused_sentence_gives_nothing = Read.refused_nothing

-- A comma or a star among the digits is no matter for 18: what is no digit there is 17, once 18, 19 and 20 are passed.
pub what_is_no_digit_is_17 : (s : List ℕ) → Met (sentence_questions s) → (SixtyThreeDigits (digits_in s) → ⊥) → sentence_answer s ≡ Err Line
what_is_no_digit_is_17 s m n = Asked.digits_decide s m ∙ (refused_17 (digits_in s)).1 n

-- "Writing tests 20, then all that reading the frame refuses, then 16"
pub sending_refused_for_a_reason : (n : ℕ) (f : List ℕ) (room : ℕ) (x : Refusal) → send_answer n f room ≡ Err x → WhyNotSent n f room x
sending_refused_for_a_reason = Asked.send_why_not

pub sent_exactly_when_nothing_is_wrong : (n : ℕ) (f : List ℕ) (room : ℕ) → send_answer n f room ≡ (Ok tt) ↔ (In satellites n × (Conforms f × (78 ≤ room)))
sent_exactly_when_nothing_is_wrong = Asked.sent_exactly

-- ---- the checksum

-- It differs when any one of the characters is changed to another ..
pub one_changed_character_changes_the_checksum : (l : List ℕ) (i b : ℕ) → i < length l → (b ≡ get_or l i 0 → ⊥) → checksum (set l i b) ≡ checksum l → ⊥
one_changed_character_changes_the_checksum l i b h other e = other (Checksums.sum_changed l i b h e)

-- .. so a sentence that is read is refused with 18 or 19 once a character between `$` and `*`, which stand at 0 and 73, is another.
pub a_changed_sentence_is_18_or_19 : (s : List ℕ) (i b : ℕ) → sentence_answer s ≡ Ok tt → i < 72 → (b ≡ get_or s (suc i) 0 → ⊥)
    → (sentence_answer (set s (suc i) b) ≡ Err Sentence) ⊎ (sentence_answer (set s (suc i) b) ≡ Err Checksum)
a_changed_sentence_is_18_or_19 s i b e h other = let m = ((Asked.read_exactly s).0 e).0 in Changed.changed_refused s i b h other m.0.long m.1.0

-- ---- satellites

-- "Satellite numbers are those which section 4.3 lists": 55, 56, 57, 58 and 61
pub five_satellites_are_listed : (allowed satellites 54 ≡ false) × (allowed satellites 55 ≡ true) × (allowed satellites 56 ≡ true) × (allowed satellites 57 ≡ true) × (allowed satellites 58 ≡ true)
    × (allowed satellites 59 ≡ false) × (allowed satellites 60 ≡ false) × (allowed satellites 61 ≡ true) × (allowed satellites 62 ≡ false)
unfolding allowed
five_satellites_are_listed = (refl, refl, refl, refl, refl, refl, refl, refl, refl)

-- ---- a report of document 004 in sentences

-- read with satellite 55, and in small letters with 61; the others refused, each for the number behind the 0
pub ten_sentences_are_answered_so : map said examples
    ≡ (55 ∷ 0 ∷ []) ∷ (61 ∷ 0 ∷ []) ∷ (0 ∷ 18 ∷ []) ∷ (0 ∷ 18 ∷ []) ∷ (0 ∷ 19 ∷ []) ∷ (0 ∷ 19 ∷ []) ∷ (0 ∷ 20 ∷ []) ∷ (0 ∷ 19 ∷ []) ∷ (0 ∷ 20 ∷ []) ∷ (0 ∷ 17 ∷ []) ∷ []
ten_sentences_are_answered_so = the_examples_are_answered_so
