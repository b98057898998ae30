-- A damaged frame through `lz_read`.
use Rattle.std.specs.Prelude.{Ok, Err}
use mathlib.Core.Path.{◌≡◌, refl, sym, ap, ◌∙◌}
use mathlib.Core.Logic.{◌⊎◌, inl, inr, ⊎_elim}
use Prim.Native.Nat.{ℕ, ◌*◌, ◌^◌}
use mathlib.Core.List.{List}
use lib.ListN.{length}
use borrow.Author.Tests.{eq-eqb}
use native.Mathlib.Omega.{arith}
use Rattle.rows.specs.declared.refusal.Said.{Said}
use Rattle.rows.specs.Refusals.{answers, plain, Verdict}
use Rattle.report.specs.Records.{record_of}
use Rattle.report.specs.Runs.Reading.{read_answer, read_of, read_says}
use Rattle.report.proofs.Reading.ReadSteps.{answer_found}
use Rattle.record_bytes.specs.Packed.{packed}
use Rattle.inserter.specs.Answers.{answer_word, call_result, handed_over, reading_into, read_into}
use Rattle.damage.specs.Damage.{Damaged}
use Rattle.damage.proofs.Claims.{a_damaged_frame_is_refused_with_3_or_4}
use Rattle.calls.proofs.RoundTrip.{read_zero}

-- a refusal goes into the answer, and nothing into the buffer
handed_nothing : (v : Verdict) (bytes buffer : List ℕ) → ((answers v).number ≡ 0 → ⊥) → handed_over v bytes buffer ≡ call_result (answer_word (answers v)) buffer
handed_nothing (Ok tt) bytes buffer n = absurd (n refl)
handed_nothing (Err x) bytes buffer n = refl

read_nothing : (s buffer : List ℕ) (a : Said) → length buffer ≡ 251 → read_says s ≡ a → (a.number ≡ 0 → ⊥) → read_into s buffer ≡ call_result (answer_word a) buffer
unfolding reading_into
read_nothing s buffer a l e n =
    let told : answers (read_of s).answer ≡ a = ap answers (answer_found (read_answer s) (record_of s)) ∙ e in
    rw (eq-eqb (length buffer) 251 l)
    (handed_nothing (read_of s).answer (packed (read_of s).«record») buffer (λ z. n (sym (ap (λ (b : Said). b.number) told) ∙ z))
    ∙ ap (λ (b : Said). call_result (answer_word b) buffer) told)

pub damaged_read : (s t buffer : List ℕ) (k : ℕ) → length buffer ≡ 251 → (read_into s buffer).answer ≡ 0 → Damaged k s t
    → (read_into t buffer ≡ call_result (3 * 2 ^ 24) buffer) ⊎ (read_into t buffer ≡ call_result (4 * 2 ^ 24) buffer)
damaged_read s t buffer k l e d =
    let fine : read_says s ≡ plain 0 = ap answers (sym (answer_found (read_answer s) (record_of s)) ∙ (read_zero (read_of s) buffer e).0) in
    ⊎_elim (λ three. inl (read_nothing t buffer (plain 3) l three (λ z. omega arith))) (λ four. inr (read_nothing t buffer (plain 4) l four (λ z. omega arith)))
    (a_damaged_frame_is_refused_with_3_or_4 s t k fine d).0
