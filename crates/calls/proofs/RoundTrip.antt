-- A frame through `lz_read` and `lz_write`, and a record's bytes through `lz_write` and `lz_read`.
use Rattle.std.specs.Prelude.{Ok, Err}
use mathlib.Core.Path.{◌≡◌, refl, sym, ap, ◌∙◌, subst}
use mathlib.Core.Bool.{Bool, true, false, cond}
use Prim.Native.Nat.{ℕ, ◌^◌, ◌≤◌}
use native.Mathlib.Omega.{arith}
use mathlib.Core.List.{List, ◌++◌, append-nil}
use lib.ListN.{length, drop_of_length-le}
use lib.Dec.{eqb}
use borrow.Author.Tests.{eq-eqb, eqb-true}
use Rattle.bits.specs.Frame.{Bytes}
use Rattle.rows.specs.Refusals.{says, answers, Verdict}
use Rattle.rows.specs.Runs.Verdict.{allowed}
use Rattle.rows.proofs.Rules.Outcomes.{false_not_true}
use Rattle.rows.proofs.Rules.Spans.{in_allowed}
use Rattle.report.specs.Categories.{preambles}
use Rattle.report.proofs.Shaped.{Shaped}
use Rattle.report.proofs.Writing.Validity.{answered}
use Rattle.report.specs.declared.record.Record.{Record}
use Rattle.report.specs.Records.{record_of, zeros}
use Rattle.report.specs.Runs.Reading.{read_of, Reading}
use Rattle.report.specs.Conforms.{Conforms}
use Rattle.line.specs.Lines.{line_answer, line_of, line_written}
use Rattle.line.proofs.Claims.{a_frame_has_a_line, a_line_reads_as_its_frame, frame_to_line_to_frame, no_padding_no_digit_lost, printed_exactly_when_nothing_is_wrong}
use Rattle.sentence.specs.Sentences.{sentence_reading, sentence_of, send_answer, sent, Received}
use Rattle.sentence.proofs.Claims.{a_written_sentence_is_read_again, sent_exactly_when_nothing_is_wrong}
use Rattle.report.specs.Runs.Writing.{write_answer, write_of, Valid}
use Rattle.report.proofs.Claims.{conforming_gives_its_record, read_again_is_the_record, read_records_are_shaped, written_again_is_the_frame}
use Rattle.report.proofs.RoundTrips.ReadThenWritten.{frame_valid, reads, record_read}
use Rattle.record_bytes.specs.Packed.{packed}
use Rattle.record_bytes.specs.Unpacked.{record_from, unpacked}
use Rattle.record_bytes.proofs.Claims.{accepted_bytes_are_given_back, packed_has_251_bytes, packed_then_unpacked, valid_records_fit_their_bytes}
use Rattle.record_bytes.proofs.Accepted.{unpacked-shaped}
use Rattle.inserter.specs.Answers.{answer_word, call_result, CallResult, reading_into, read_into, read_line_into, read_sentence_into, received_into, with_satellite, write_into, write_line_into, write_result, write_sentence_into}
use Rattle.report.specs.Meaning.{used_of}
use Rattle.inserter.specs.Meanings.{slots_answer}
use Rattle.inserter.proofs.HandedOver.{zero_tells}
use Rattle.inserter.proofs.Claims.{a_refusal_is_told_as_one, zero_is_told_of_success}

-- ---- a record's 251 bytes

record_whole : (l : List ℕ) → length l ≡ 251 → record_from l ≡ unpacked l
unfolding record_from
record_whole l e = rw (eq-eqb (length l) 251 e)

-- ---- what an answer of 0 tells of a reading and of a writing

pub read_zero : (got : Reading) (buffer : List ℕ) → (reading_into got buffer).answer ≡ 0 → (got.answer ≡ Ok tt) × ((reading_into got buffer).buffer ≡ packed got.«record»)
unfolding reading_into
read_zero got buffer e = zero_tells (eqb (length buffer) 251) got.answer (packed got.«record») buffer e

read_whole : (r : Record) (buffer : List ℕ) → length buffer ≡ 251 → reading_into (record { answer = Ok tt; «record» = r }) buffer ≡ call_result 0 (packed r)
unfolding reading_into
read_whole r buffer e = rw (eq-eqb (length buffer) 251 e)

write_zero : (r : Record) (buffer : List ℕ) → (write_result r buffer).answer ≡ 0 → write_answer r (length buffer) ≡ Ok tt
unfolding write_result
write_zero r buffer e = (zero_is_told_of_success (write_answer r (length buffer))).1 e

write_buffer : (r : Record) (buffer : List ℕ) → (write_result r buffer).buffer ≡ write_of r buffer
unfolding write_result
write_buffer r buffer = refl

write_whole : (r : Record) (buffer s : List ℕ) → write_answer r (length buffer) ≡ Ok tt → write_of r buffer ≡ s → write_result r buffer ≡ call_result 0 s
unfolding write_result
write_whole r buffer s e w = λ i. call_result (answer_word (answers (e i))) (w i)

-- ---- there and back

given_back : (r : Record) → Shaped r → Valid r → record_from (packed r) ≡ r
given_back r s v = record_whole (packed r) (packed_has_251_bytes r s.slots s.text) ∙ packed_then_unpacked r (valid_records_fit_their_bytes r s v)

pub read_then_written : (s bytes buffer : List ℕ) → Bytes s → length buffer ≡ 32 → (read_into s bytes).answer ≡ 0
    → write_into (read_into s bytes).buffer buffer ≡ call_result 0 s
read_then_written s bytes buffer b n e =
    let got = read_zero (read_of s) bytes e in
    let r = (read_of s).«record» in
    let same : r ≡ record_of s = record_read s got.0 in
    let shaped = subst Shaped (sym same) (read_records_are_shaped s) in
    let valid = subst Valid (sym same) (frame_valid s (reads s got.0)) in
    let again = written_again_is_the_frame s buffer b got.0 n in
    ap (λ (l : List ℕ). write_into l buffer) got.1
    ∙ ap (λ (q : Record). write_result q buffer) (given_back r shaped valid)
    ∙ write_whole r buffer s again.0 again.1

-- no record of zeros is written
zeros_refused : (n : ℕ) → write_answer zeros n ≡ Ok tt → ⊥
unfolding allowed zeros
zeros_refused n e = false_not_true (in_allowed preambles 0 ((answered zeros n).fine e).0.1.0)

accepted_long : (l : List ℕ) (n : ℕ) → write_answer (record_from l) n ≡ Ok tt → length l ≡ 251
unfolding record_from
accepted_long l n e = by (eqb (length l) 251) refl
  where
    by : (b : Bool) → eqb (length l) 251 ≡ b → length l ≡ 251
    by true h = eqb-true (length l) 251 h
    by false h = absurd (zeros_refused n (ap (λ (c : Bool). write_answer (cond c (unpacked l) zeros) n) (sym h) ∙ e))

pub written_then_read : (l buffer bytes : List ℕ) → Bytes l → length bytes ≡ 251 → (write_into l buffer).answer ≡ 0
    → read_into (write_into l buffer).buffer bytes ≡ call_result 0 l
written_then_read l buffer bytes b n e =
    let fine = write_zero (record_from l) buffer e in
    let long = accepted_long l (length buffer) fine in
    let whole = record_whole l long in
    let r = unpacked l in
    let fine-too : write_answer r (length buffer) ≡ (Ok tt) = ap (λ (q : Record). write_answer q (length buffer)) (sym whole) ∙ fine in
    let room : length buffer ≡ 32 = ((answered r (length buffer)).fine fine-too).0.0 in
    let valid : Valid r = ap (write_answer r) (sym room) ∙ fine-too in
    ap (λ (q : Record). read_into (write_result q buffer).buffer bytes) whole
    ∙ ap (λ (s : List ℕ). read_into s bytes) (write_buffer r buffer)
    ∙ ap (λ (g : Reading). reading_into g bytes) (read_again_is_the_record r buffer (unpacked-shaped l) valid room)
    ∙ read_whole r bytes n
    ∙ ap (call_result 0) (accepted_bytes_are_given_back l long b valid)

-- ---- a frame that is read

pub conforming_read : (s bytes : List ℕ) → Conforms s → length bytes ≡ 251 → read_into s bytes ≡ call_result 0 (packed (record_of s))
conforming_read s bytes c n = ap (λ (g : Reading). reading_into g bytes) (conforming_gives_its_record s c) ∙ read_whole (record_of s) bytes n

pub slots_told : (s bytes : List ℕ) → Conforms s → length bytes ≡ 251 → slots_answer (read_into s bytes).buffer ≡ used_of (record_of s)
slots_told s bytes c n =
    ap (λ (l : CallResult). slots_answer l.buffer) (conforming_read s bytes c n)
    ∙ ap used_of (given_back (record_of s) (read_records_are_shaped s) (frame_valid s c))

-- ---- a line

line_by : (v : Verdict) (s line : List ℕ) → length line ≡ 63 → answer_word (answers v) ≡ 0 → (v ≡ Ok tt) × (line_written v s line ≡ line_of s)
line_by (Ok tt) s line n e = (refl, ap (λ (l : List ℕ). line_of s ++ l) (drop_of_length-le line {i = 63} (omega (arith, n))) ∙ append-nil (line_of s))
line_by (Err x) s line n e = let high : 2 ^ 24 ≤ answer_word (says x) = a_refusal_is_told_as_one x in absurd (omega (arith, high, e))

pub printed_then_read : (s line bytes : List ℕ) → Bytes s → length line ≡ 63 → (write_line_into s line).answer ≡ 0
    → read_line_into (write_line_into s line).buffer bytes ≡ read_into s bytes
printed_then_read s line bytes b n e =
    let p = line_by (line_answer s (length line)) s line n e in
    let m = (printed_exactly_when_nothing_is_wrong s (length line)).0 p.0 in
    ap (λ (l : List ℕ). read_line_into l bytes) p.1
    ∙ ap (λ (g : Reading). reading_into g bytes)
    (a_line_reads_as_its_frame (line_of s) (a_frame_has_a_line s m.0 b)
    ∙ ap read_of (frame_to_line_to_frame s m.0 b (no_padding_no_digit_lost s m.1.0)))

-- ---- a sentence

sent_by : (v : Verdict) (n : ℕ) (s buffer : List ℕ) → length buffer ≡ 78 → answer_word (answers v) ≡ 0 → (v ≡ Ok tt) × (sent v n s buffer ≡ sentence_of n s)
sent_by (Ok tt) n s buffer l e = (refl, ap (λ (t : List ℕ). sentence_of n s ++ t) (drop_of_length-le buffer {i = 78} (omega (arith, l))) ∙ append-nil (sentence_of n s))
sent_by (Err x) n s buffer l e = let high : 2 ^ 24 ≤ answer_word (says x) = a_refusal_is_told_as_one x in absurd (omega (arith, high, e))

pub sent_then_read : (n : ℕ) (s buffer bytes : List ℕ) → Bytes s → length buffer ≡ 78 → length bytes ≡ 251 → (write_sentence_into n s buffer).answer ≡ 0
    → read_sentence_into (write_sentence_into n s buffer).buffer bytes ≡ call_result n (read_into s bytes).buffer
unfolding received_into
sent_then_read n s buffer bytes b l long e =
    let p = sent_by (send_answer n s (length buffer)) n s buffer l e in
    let m = (sent_exactly_when_nothing_is_wrong n s (length buffer)).0 p.0 in
    ap (λ (t : List ℕ). received_into (sentence_reading t) bytes) p.1
    ∙ ap (λ (r : Received). received_into r bytes) (a_written_sentence_is_read_again n s m.0 m.1.0 b)
    ∙ ap (with_satellite n) (conforming_read s bytes m.1.0 long)
    ∙ sym (ap (λ (c : CallResult). call_result n c.buffer) (conforming_read s bytes m.1.0 long))
