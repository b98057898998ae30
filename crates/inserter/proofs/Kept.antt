-- A refused call leaves every lent buffer as it was.
use Rattle.bulletin.specs.declared.take.Took.TheVariants.{New, Same, Disputed}
use Rattle.report.specs.Runs.Reading.{Reading}
use Rattle.std.specs.Prelude.{Ok, Err}
use mathlib.Core.Path.{◌≡◌, refl, ap, ◌∙◌}
use mathlib.Core.Bool.{Bool, true, false, ◌&&◌}
use Prim.Native.Nat.{ℕ, ◌≤◌}
use native.Mathlib.Omega.{arith}
use mathlib.Core.List.{List}
use lib.ListN.{length}
use lib.Dec.{eqb}
use borrow.Author.Tests.{eqb-true}
use Rattle.rows.specs.Refusals.{answers, Verdict}
use Rattle.report.specs.declared.record.Record.{Record}
use Rattle.report.specs.Runs.Writing.{written, write_answer}
use Rattle.line.specs.Lines.{line_answer, line_written}
use Rattle.bulletin.specs.declared.store.Store.{Store}
use Rattle.bulletin.specs.Stores.{open_of}
use Rattle.bulletin.specs.Takings.{take_of, Taken}
use Rattle.bulletin.specs.Merges.{merge_verdict, merging}
use Rattle.bulletin.specs.Text.{bytes_in_order, text_answer_by, text_buffer_by, text_length_of, text_verdict, with_room}
use Rattle.bulletin.proofs.Claims.{an_answered_refusal_leaves_the_store}
use Rattle.record_bytes.specs.Unpacked.{record_from}
use Rattle.store_bytes.specs.Stores.{store_bytes, store_into, store_or_zeros, name_from}
use Rattle.store_bytes.proofs.Claims.{bytes_to_store_and_back}
use Rattle.inserter.specs.Answers.{answer_word, length_or_refusal, IsRefusal, merge_into, open_into, reading_into, take_into, taken_word, text_into, text_result, write_into, write_line_into, write_result}
use Rattle.record_bytes.specs.Packed.{packed}
use Rattle.inserter.proofs.HandedOver.{kept}
use Rattle.inserter.proofs.StoreDoors.{text_is_small}

-- ---- records and frames

pub reading_leaves : (got : Reading) (buffer : List ℕ) → IsRefusal (reading_into got buffer).answer → (reading_into got buffer).buffer ≡ buffer
unfolding reading_into
reading_leaves got buffer h = kept (eqb (length buffer) 251) got.answer (packed got.«record») buffer h

writing_kept : (v : Verdict) (r : Record) (buffer : List ℕ) → IsRefusal (answer_word (answers v)) → written v r buffer ≡ buffer
writing_kept (Ok tt) r buffer h = absurd (omega (arith, h))
writing_kept (Err x) r buffer h = refl

pub writing_leaves : (bytes buffer : List ℕ) → IsRefusal (write_into bytes buffer).answer → (write_into bytes buffer).buffer ≡ buffer
unfolding write_result
writing_leaves bytes buffer h = writing_kept (write_answer (record_from bytes) (length buffer)) (record_from bytes) buffer h

line_kept : (v : Verdict) (s buffer : List ℕ) → IsRefusal (answer_word (answers v)) → line_written v s buffer ≡ buffer
line_kept (Ok tt) s buffer h = absurd (omega (arith, h))
line_kept (Err x) s buffer h = refl

pub line_leaves : (frame buffer : List ℕ) → IsRefusal (write_line_into frame buffer).answer → (write_line_into frame buffer).buffer ≡ buffer
line_leaves frame buffer h = line_kept (line_answer frame (length buffer)) frame buffer h

-- ---- stores

pub opening_leaves : (name buffer : List ℕ) → IsRefusal (open_into name buffer).answer → (open_into name buffer).buffer ≡ buffer
unfolding open_into
opening_leaves name buffer h = kept (eqb (length name) 8 && eqb (length buffer) 1205) (open_of (name_from name)).answer (store_bytes (open_of (name_from name)).store) buffer h

-- the store that a buffer holds is its bytes, whatever its length
pub same_bytes : (buffer : List ℕ) → store_into (store_or_zeros buffer) buffer ≡ buffer
unfolding store_into store_or_zeros
same_bytes buffer = by (eqb (length buffer) 1205) refl
  where
    by : (b : Bool) → eqb (length buffer) 1205 ≡ b → store_into (store_or_zeros buffer) buffer ≡ buffer
    by true e = simp e (bytes_to_store_and_back buffer (eqb-true (length buffer) 1205 e))
    by false e = rw e

pub taking_leaves : (buffer bytes : List ℕ) → IsRefusal (take_into buffer bytes).answer → (take_into buffer bytes).buffer ≡ buffer
taking_leaves buffer bytes h = by (take_of s r).answer refl h
  where
    s : Store
    s = store_or_zeros buffer

    r : Record
    r = record_from bytes

    by : (t : Taken) → (take_of s r).answer ≡ t → IsRefusal (taken_word t) → store_into (take_of s r).store buffer ≡ buffer
    by (Ok New) e g = absurd (omega (arith, g))
    by (Ok Same) e g = absurd (omega (arith, g))
    by (Ok Disputed) e g = absurd (omega (arith, g))
    by (Err x) e g = ap (λ (z : Store). store_into z buffer) (an_answered_refusal_leaves_the_store s r x e) ∙ same_bytes buffer

merging_kept : (v : Verdict) (s o : Store) (buffer : List ℕ) → s ≡ store_or_zeros buffer → IsRefusal (answer_word (answers (merging v s o).answer))
    → store_into (merging v s o).store buffer ≡ buffer
merging_kept (Ok tt) s o buffer e h = absurd (omega (arith, h))
merging_kept (Err x) s o buffer e h = ap (λ (z : Store). store_into z buffer) e ∙ same_bytes buffer

pub merging_leaves : (buffer other : List ℕ) → IsRefusal (merge_into buffer other).answer → (merge_into buffer other).buffer ≡ buffer
merging_leaves buffer other h = merging_kept (merge_verdict (store_or_zeros buffer) (store_or_zeros other)) (store_or_zeros buffer) (store_or_zeros other) buffer refl h

text_kept : (v : Verdict) (n : ℕ) (l buffer : List ℕ) → (text_answer_by v n).length ≤ 1134 → IsRefusal (length_or_refusal (text_answer_by v n).answer (text_answer_by v n).length)
    → text_buffer_by v n l buffer ≡ buffer
text_kept (Ok tt) n l buffer few h = absurd (omega (arith, few, h))
text_kept (Err x) n l buffer few h = refl

pub text_leaves : (store buffer : List ℕ) → IsRefusal (text_into store buffer).answer → (text_into store buffer).buffer ≡ buffer
unfolding text_result
text_leaves store buffer h =
    let s = store_or_zeros store in
    text_kept (with_room (text_verdict s) (text_length_of s) (length buffer)) (text_length_of s) (bytes_in_order s.pages) buffer (text_is_small s (length buffer)) h
