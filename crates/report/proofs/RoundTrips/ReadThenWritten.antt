-- What is read and then written is the frame.
use Rattle.std.specs.Prelude.{Ok, Err}
use Rattle.rows.specs.Refusals.{Verdict}
use mathlib.Core.Bool.{true}
use mathlib.Core.Path.{◌≡◌, refl, sym, ap, ◌∙◌, subst}
use Prim.Native.Nat.{ℕ, ◌+◌, ◌*◌, ◌/◌, ◌%◌, ◌^◌, ◌<◌}
use native.Mathlib.Nat.{mod-eq_of_lt}
use mathlib.Core.List.{List, ◌∷◌}
use lib.ListN.{length}
use lib.Pow.{shr_lt}
use Rattle.bits.specs.Layout.{encode}
use Rattle.bits.specs.Frame.{Bytes, number, bytes_of, field_of}
use Rattle.bits.proofs.Layouts.{encode-decode}
use Rattle.bits.proofs.Bytes.{bytes_of_number}
use Rattle.bits.proofs.Frames.{number_256}
use Rattle.parity.specs.Parity.{parity_of_front}
use Rattle.parity.proofs.Front.{parity_of_front_lem}
use Rattle.report.specs.declared.record.Record.{Record}
use Rattle.report.specs.Records.{body_of, record_as, record_of, values}
use Rattle.rows.specs.Values.{flat}
use Rattle.report.specs.Runs.Reading.{read_answer, reading, read_of}
use Rattle.report.specs.Conforms.{Conforms}
use Rattle.rows.specs.Kept.{Holds, In}
use Rattle.report.specs.Runs.Writing.{known, front_widths, front, frame, written, write_answer, write_of, Valid}
use Rattle.report.specs.Rules.{KeepsRules}
use Rattle.report.proofs.Reading.Agree.{Outer, agree}
use Rattle.report.proofs.Reading.Frames.{layout_of, frame_values, fine_conforming}
use Rattle.rows.proofs.Layouts.Rows.{values-flat}
use Rattle.report.proofs.Writing.Unused.{is_tidy, frame-tidy}
use Rattle.report.proofs.Writing.Validity.{is_known, keeps_valid, above}
use Rattle.report.proofs.Writing.Ends.{ended_again}
use Rattle.report.specs.Categories.{categories}
use Rattle.report.proofs.Shaped.{frame-shaped}
use Rattle.report.proofs.Tables.{front_fields, front-total}
use borrow.Author.Tests.{lt-ltb}
use lib.Dec.{ltb}
use Rattle.report.proofs.Categories.{suits}

-- ---- the values of the record are those of the frame

outer_of_lem : (s : List ℕ) → Conforms s → Outer s
outer_of_lem s c = record { message = c.message; version = c.version; category = c.category }

pub same_values : (s : List ℕ) → Conforms s → values (record_of s) ≡ frame_values s
same_values s c = agree s (outer_of_lem s c)

-- ---- so it is valid

frame-known : (s : List ℕ) → In categories (field_of s 17 4) → known (body_of s) ≡ true
frame-known s h = ap (ltb 0) (suits s (field_of s 17 4) h).code ∙ lt-ltb 0 (field_of s 17 4) (above categories (field_of s 17 4) refl h)

pub frame_keeps : (s : List ℕ) → Conforms s → KeepsRules (record_of s)
unfolding record_as
frame_keeps s c =
    record {
      preamble = c.preamble;
      category = is_known (body_of s) (frame-known s c.category);
      tidy = is_tidy (record_of s) (frame-tidy s (body_of s));
      rows = subst (Holds (layout_of s)) (sym (same_values s c)) c.rows;
    }

pub frame_valid : (s : List ℕ) → Conforms s → Valid (record_of s)
frame_valid s c = keeps_valid (record_of s) (frame-shaped s (body_of s)) (frame_keeps s c)

-- ---- and its frame is the frame

front_again : (s : List ℕ) → Conforms s → number s < 2 ^ 256 → front (record_of s) ≡ number s / 2 ^ 30
unfolding front record_as
front_again s c h =
    let ws = front_widths (layout_of s) in
    ap (λ (vs : List ℕ). encode ws (field_of s 0 8 ∷ vs)) (ap flat (same_values s c) ∙ values-flat s (layout_of s))
    ∙ ap (encode ws) (sym (front_fields s (body_of s)))
    ∙ encode-decode ws (number s / 2 ^ 30)
    ∙ ap (λ (n : ℕ). number s / 2 ^ 30 % 2 ^ n) (front-total (body_of s))
    ∙ mod-eq_of_lt (shr_lt 226 30 h)

pub frame_again : (s : List ℕ) → Bytes s → Conforms s → bytes_of (frame (record_of s)) ≡ s
unfolding frame
frame_again s b c =
    let f = front_again s c (number_256 s c.long b) in
    ap bytes_of
    (ap (λ (m : ℕ). (m * 2 ^ 24 + parity_of_front m) * 2 ^ 6) f
    ∙ ended_again (number s) (parity_of_front (number s / 2 ^ 30)) (sym (parity_of_front_lem s) ∙ c.parity) c.padding)
    ∙ bytes_of_number s c.long b

-- ---- in the words of reading and writing

answer_of : (v : Verdict) (r : Record) → (reading v r).answer ≡ Ok tt → v ≡ Ok tt
answer_of (Ok tt) r e = refl
answer_of (Err x) r e = e

-- a reading that is not refused
pub reads : (s : List ℕ) → (read_of s).answer ≡ Ok tt → Conforms s
reads s e = fine_conforming s (answer_of (read_answer s) (record_of s) e)

pub record_read : (s : List ℕ) → (read_of s).answer ≡ Ok tt → (read_of s).«record» ≡ record_of s
record_read s e = ap (λ (v : Verdict). (reading v (record_of s)).«record») (answer_of (read_answer s) (record_of s) e)

-- what a valid record writes
pub valid_answer : (r : Record) (buffer : List ℕ) → Valid r → length buffer ≡ 32 → write_answer r (length buffer) ≡ Ok tt
valid_answer r buffer v l = ap (write_answer r) l ∙ v

pub valid_written : (r : Record) (buffer : List ℕ) → Valid r → length buffer ≡ 32 → write_of r buffer ≡ bytes_of (frame r)
valid_written r buffer v l = ap (λ (x : Verdict). written x r buffer) (valid_answer r buffer v l)

-- the record that was read is written without refusal, and gives the frame
pub written_again : (s buffer : List ℕ) → Bytes s → (read_of s).answer ≡ Ok tt → length buffer ≡ 32
    → (write_answer (read_of s).«record» (length buffer) ≡ Ok tt) × (write_of (read_of s).«record» buffer ≡ s)
written_again s buffer b e l =
    let c = reads s e in
    let r = record_read s e in (
      ap (λ (r : Record). write_answer r (length buffer)) r ∙ valid_answer (record_of s) buffer (frame_valid s c) l,
      ap (λ (r : Record). write_of r buffer) r ∙ valid_written (record_of s) buffer (frame_valid s c) l ∙ frame_again s b c,
    )
