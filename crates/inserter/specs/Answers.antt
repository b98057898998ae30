-- What the functions for C and Rust answer, and what they leave in a lent buffer.
use Rattle.bulletin.specs.declared.take.Took.TheVariants.{New, Same, Disputed}
use Rattle.nankai.specs.declared.PageNumbers.{PageNumbers}
use Rattle.std.specs.Prelude.{ℕ, ◌+◌, ◌-◌, ◌*◌, ◌/◌, ◌%◌, ◌^◌, ◌≤◌, ◌<◌, Bool, ◌&&◌, cond, List, [], ◌∷◌, length, eqb, Result, Ok, Err, Option, None, Some}
use Rattle.parity.specs.Parity.{parity_of}
use Rattle.rows.specs.declared.refusal.Refusal.{Refusal}
use Rattle.rows.specs.declared.refusal.Said.{Said}
use Rattle.report.specs.declared.record.Record.{Record}
use Rattle.rows.specs.Refusals.{plain, says, answers, Verdict}
use Rattle.report.specs.Runs.Reading.{read_of, read_says, Reading}
use Rattle.report.specs.Runs.Writing.{write_answer, write_of, write_says}
use Rattle.line.specs.Lines.{line_reading, line_answer, line_into, line_says}
use Rattle.sentence.specs.Sentences.{sentence_reading, sentence_says, send_answer, send_says, sent_into, Received}
use Rattle.pages.specs.Names.{name_says}
use Rattle.bulletin.specs.declared.count.Count.{Count}
use Rattle.bulletin.specs.declared.store.Store.{Store}
use Rattle.bulletin.specs.Stores.{open_of}
use Rattle.bulletin.specs.Takings.{take_of, take_says, Taken, Taking}
use Rattle.bulletin.specs.Merges.{merge_of, Merging}
use Rattle.bulletin.specs.Counts.{count_of, Counted}
use Rattle.bulletin.specs.Text.{text_answer, text_buffer}
use Rattle.record_bytes.specs.Packed.{packed}
use Rattle.record_bytes.specs.Unpacked.{record_from}
use Rattle.store_bytes.specs.Stores.{store_bytes, store_into, name_from, store_or_zeros}

-- a parity has 24 bits; above them stands the number of the refusal, which is 1 where the slice is not 32 bytes long
unfoldable pub parity_answer : List ℕ → ℕ
parity_answer s = cond (eqb (length s) 32) (parity_of s) (1 * 2 ^ 24)

-- an answer as one word: the number of the refusal in the high byte, 0 where there is none, then place, page and mark. The value has
-- no room there and is asked for
abbrev pub answer_word : Said → ℕ
answer_word a = a.number * 2 ^ 24 + a.place * 2 ^ 16 + a.page * 2 ^ 8 + a.mark

-- the four bytes of a word, as a caller takes them out of it
abbrev pub word_bytes : ℕ → List ℕ
word_bytes w = w / 2 ^ 24 ∷ w / 2 ^ 16 % 256 ∷ w / 2 ^ 8 % 256 ∷ w % 256 ∷ []

-- place, page and mark, which are bytes in the code, have room there
pub record InBytes (s : Said) : Type 0 where
  pub place : s.place < 256
  pub page : s.page < 256
  pub mark : s.mark < 256

-- the first byte of a word is not zero
abbrev pub IsRefusal : ℕ → Type 0
IsRefusal word = 2 ^ 24 ≤ word

-- what is left of a call: its answer, and the lent buffer
pub record CallResult : Type 0 where
  pub answer : ℕ
  pub buffer : List ℕ

abbrev pub call_result : ℕ → List ℕ → CallResult
call_result a b = record { answer = a; buffer = b }

-- a name of another length, or a buffer of another length for an answer, is 255, and nothing is touched
abbrev pub if_lengths_fit : Bool → CallResult → List ℕ → CallResult
if_lengths_fit right l buffer = cond right l (call_result (answer_word (plain 255)) buffer)

-- what is handed over goes into the buffer; a refusal leaves the buffer as it was
abbrev pub handed_over : Verdict → List ℕ → List ℕ → CallResult
handed_over (Ok tt) bytes buffer = call_result (answer_word (plain 0)) bytes
handed_over (Err x) bytes buffer = call_result (answer_word (says x)) buffer

-- ---- reading

unfoldable pub reading_into : Reading → List ℕ → CallResult
reading_into r buffer = if_lengths_fit (eqb (length buffer) 251) (handed_over r.answer (packed r.«record») buffer) buffer

-- the same of a reading as code hands it back, with a record or without
unfoldable pub record_into : Result Record Refusal → List ℕ → CallResult
record_into (Ok r) buffer = if_lengths_fit (eqb (length buffer) 251) (call_result 0 (packed r)) buffer
record_into (Err x) buffer = if_lengths_fit (eqb (length buffer) 251) (call_result (answer_word (says x)) buffer) buffer

abbrev pub read_into : List ℕ → List ℕ → CallResult
read_into frame buffer = reading_into (read_of frame) buffer

abbrev pub read_line_into : List ℕ → List ℕ → CallResult
read_line_into line buffer = reading_into (line_reading line) buffer

-- a sentence that was read is answered with its satellite in place of 0
abbrev pub with_satellite : ℕ → CallResult → CallResult
with_satellite n c = call_result (cond (eqb c.answer 0) n c.answer) c.buffer

unfoldable pub received_into : Received → List ℕ → CallResult
received_into r buffer = with_satellite r.satellite (reading_into r.reading buffer)

abbrev pub read_sentence_into : List ℕ → List ℕ → CallResult
read_sentence_into sentence buffer = received_into (sentence_reading sentence) buffer

-- ---- writing: a refusal leaves the buffer as it was

unfoldable pub write_result : Record → List ℕ → CallResult
write_result r buffer = call_result (answer_word (answers (write_answer r (length buffer)))) (write_of r buffer)

abbrev pub write_into : List ℕ → List ℕ → CallResult
write_into bytes buffer = write_result (record_from bytes) buffer

abbrev pub write_line_into : List ℕ → List ℕ → CallResult
write_line_into frame buffer = call_result (answer_word (answers (line_answer frame (length buffer)))) (line_into frame buffer)

abbrev pub write_sentence_into : ℕ → List ℕ → List ℕ → CallResult
write_sentence_into satellite frame buffer = call_result (answer_word (answers (send_answer satellite frame (length buffer)))) (sent_into satellite frame buffer)

-- ---- the page store: a refusal leaves its bytes as they were. Bytes of another length are a store of zeros, which is not
-- sound, and a record of zeros.

unfoldable pub open_into : List ℕ → List ℕ → CallResult
open_into name buffer =
    let o = open_of (name_from name) in
    if_lengths_fit (eqb (length name) 8 && eqb (length buffer) 1205) (handed_over o.answer (store_bytes o.store) buffer) buffer

-- "new where it was absent, same where it was held with those 18 bytes, and disputed otherwise"
abbrev pub taken_word : Taken → ℕ
taken_word (Ok New) = 1
taken_word (Ok Same) = 2
taken_word (Ok Disputed) = 3
taken_word (Err x) = answer_word (says x)

abbrev pub take_result : Taking → List ℕ → CallResult
take_result t buffer = call_result (taken_word t.answer) (store_into t.store buffer)

-- how many pages stand before the one that a body brings, all 63 where it brings none: no other page than that is changed
unfoldable pub pages_before : Option PageNumbers → ℕ
pages_before None = 63
pages_before (Some p) = p.number - 1

abbrev pub take_into : List ℕ → List ℕ → CallResult
take_into buffer bytes = take_result (take_of (store_or_zeros buffer) (record_from bytes)) buffer

abbrev pub merge_result : Merging → List ℕ → CallResult
merge_result m buffer = call_result (answer_word (answers m.answer)) (store_into m.store buffer)

abbrev pub merge_into : List ℕ → List ℕ → CallResult
merge_into buffer other = merge_result (merge_of (store_or_zeros buffer) (store_or_zeros other)) buffer

-- held, disputed and lowest stand where a refusal has place, page and mark
abbrev pub report_word : Count → ℕ
report_word c = answer_word (record { number = 0; place = c.held; value = 0; page = c.disputed; mark = c.lowest })

abbrev pub count_word_by : Verdict → Counted → ℕ
count_word_by (Ok tt) c = answer_word (record { number = 0; place = c.held; value = 0; page = c.disputed; mark = c.lowest })
count_word_by (Err x) c = answer_word (says x)

abbrev pub count_word : Counted → ℕ
count_word c = count_word_by c.answer c

abbrev pub count_answer : List ℕ → ℕ
count_answer store = count_word (count_of (store_or_zeros store))

-- the length of the text, or the refusal
abbrev pub length_or_refusal : Verdict → ℕ → ℕ
length_or_refusal (Ok tt) n = n
length_or_refusal (Err x) n = answer_word (says x)

unfoldable pub text_result : Store → List ℕ → CallResult
text_result s buffer =
    let t = text_answer s (length buffer) in
    call_result (length_or_refusal t.answer t.length) (text_buffer s buffer)

abbrev pub text_into : List ℕ → List ℕ → CallResult
text_into store buffer = text_result (store_or_zeros store) buffer

-- ---- the value that each call refuses with 8; 0 where it refuses with another number, or not at all

abbrev pub read_value : List ℕ → ℕ
read_value frame = (read_says frame).value

abbrev pub read_line_value : List ℕ → ℕ
read_line_value line = (line_says line).value

abbrev pub read_sentence_value : List ℕ → ℕ
read_sentence_value sentence = (sentence_says sentence).value

-- 16, which comes last, has no value
abbrev pub write_sentence_value : ℕ → List ℕ → ℕ
write_sentence_value satellite frame = (send_says satellite frame 78).value

-- to a frame of so many bytes
abbrev pub write_value : List ℕ → ℕ → ℕ
write_value bytes size = (write_says (record_from bytes) size).value

-- bytes of another length are no name
unfoldable pub open_value : List ℕ → ℕ
open_value name = cond (eqb (length name) 8) (name_says (name_from name)).value 0

abbrev pub take_value : List ℕ → List ℕ → ℕ
take_value store bytes = (take_says (store_or_zeros store) (record_from bytes)).value
