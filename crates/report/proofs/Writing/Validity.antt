-- What writing a record answers, and what the record is.
use Rattle.std.specs.Prelude.{Ok, Err}
use Rattle.rows.specs.Refusals.{Verdict}
use mathlib.Core.Path.{◌≡◌, refl, sym, ap, ◌∙◌}
use mathlib.Core.Bool.{true, Bool, ◌&&◌}
use Prim.Native.Nat.{ℕ, ◌<◌}
use lib.ListN.{length}
use lib.Dec.{eqb, ltb}
use borrow.Author.Tests.{eqb-true, eq-eqb, lt-ltb, ltb-true}
use Rattle.rows.specs.declared.refusal.Refusal.{Refusal}
use Rattle.rows.specs.declared.refusal.Refusal.TheVariants.{Length, Preamble, Category, Unused}
use Rattle.report.specs.declared.record.Record.{Record}
use Rattle.rows.specs.Layout.{Layout, Span, ◌to◌}
use Rattle.rows.specs.Values.{Values}
use Rattle.rows.specs.Runs.Verdict.{allowed, verdict}
use Rattle.report.specs.Records.{values}
use Rattle.rows.specs.Kept.{In}
use Rattle.rows.specs.Faults.{Met, Fault, Lowest}
use Rattle.report.specs.Rules.{Tidy, KeepsRules}
use Rattle.report.specs.Reasons.{write_questions, WhyNotWritten}
use Rattle.report.specs.Runs.Writing.{known, tidy, write_answer, Valid}
use Rattle.rows.proofs.Rules.Outcomes.{false_not_true, and_both}
use Rattle.rows.proofs.Rules.Spans.{allowed_in, in_allowed}
use Rattle.rows.proofs.Rules.JudgedFrames.{JudgesAll}
use Rattle.rows.proofs.Rules.Ordered.{Answers, unquestioned, question}
use Rattle.rows.proofs.Rules.LowestBit.{for_a_reason, faulty_refused, faultless_fine, fine_faultless}
use Rattle.report.proofs.Writing.Unused.{is_tidy, tidy_is}
use Rattle.report.specs.declared.body.Body.{Body}
use mathlib.Core.List.{List, [], ◌∷◌}
use Rattle.report.specs.declared.body.Body.TheVariants.{NoCategory}
use Rattle.report.proofs.Shaped.{Shaped}
use Rattle.report.specs.Categories.{categories, layout, preambles}
use Rattle.report.proofs.Tables.{judged-all, suited_slots}
use native.Mathlib.Nat.{lt_of_lt_of_le}
use Rattle.slots.proofs.Tables.{slots_counted}
use Rattle.report.proofs.Categories.{told_apart}
use mathlib.Core.Logic.{⊎_elim}

-- ---- 8, 10

-- the layout and the values of a record
abbrev pub record_layout : Record → Layout
record_layout r = layout r.body

abbrev pub record_values : Record → Values
record_values r = values r

abbrev pub inner_write : Record → Verdict
inner_write r = verdict (record_layout r) (record_values r)

pub judged_record : (r : Record) → length r.slots ≡ 16 → JudgesAll (record_layout r) (record_values r)
unfolding values
judged_record r n = judged-all r.body (record_values r) (slots_counted (layout r.body).slots (suited_slots r.body) r.slots n)

-- ---- 1, 3, 7, 11

pub is_known : (b : Body) → known b ≡ true → b ≡ NoCategory → ⊥
is_known b e n = false_not_true (sym (ap known n) ∙ e)

-- each span starts above n
abbrev pub all_above : ℕ → List Span → Bool
all_above n [] = true
all_above n ((lo to hi) ∷ ss) = ltb n lo && all_above n ss

-- the code of a category is not zero
pub above : (ss : List Span) (dc : ℕ) → all_above 0 ss ≡ true → In ss dc → 0 < dc
above [] dc t h = absurd h
above ((lo to hi) ∷ ss) dc t h =
    let q = and_both (ltb 0 lo) (all_above 0 ss) t in
    ⊎_elim (λ k. lt_of_lt_of_le (ltb-true 0 lo q.0) k.0) (above ss dc q.1) h

pub known_is : (b : Body) → (b ≡ NoCategory → ⊥) → known b ≡ true
known_is b h = ⊎_elim (λ e. absurd (h e)) (λ k. lt-ltb 0 (layout b).code (above categories (layout b).code refl k)) (told_apart b)

pub answered : (r : Record) (size : ℕ) → Answers (write_answer r size) (write_questions r size) (inner_write r)
unfolding write_answer
answered r size =
    question (eqb size 32) (size ≡ 32) Length (eqb-true size 32) (eq-eqb size 32)
    (question (allowed preambles r.preamble) (In preambles r.preamble) Preamble (allowed_in preambles r.preamble) (in_allowed preambles r.preamble)
    (question (known r.body) (r.body ≡ NoCategory → ⊥) Category (is_known r.body) (known_is r.body)
    (question (tidy r) (Tidy r) Unused (is_tidy r) (tidy_is r) (unquestioned (inner_write r)))))

-- ---- both ways

pub valid_keeps : (r : Record) → Shaped r → Valid r → KeepsRules r
valid_keeps r s e =
    let a = (answered r 32).fine e in
    let m = a.0 in
    record {
      preamble = m.1.0;
      category = m.1.1.0;
      tidy = m.1.1.1.0;
      rows = (judged_record r s.slots).passed a.1;
    }

pub met : (r : Record) → KeepsRules r → Met (write_questions r 32)
met r k = (refl, (k.preamble, (k.category, (k.tidy, tt))))

pub keeps_valid : (r : Record) → Shaped r → KeepsRules r → Valid r
keeps_valid r s k = (answered r 32).met (met r k) ∙ (judged_record r s.slots).passes k.rows

-- ---- reasons

module _ (r : Record) (size : ℕ) (s : Shaped r) where
  pub reason : (x : Refusal) → write_answer r size ≡ Err x → WhyNotWritten r size x
  reason = for_a_reason (write_answer r size) (write_questions r size) (record_layout r) (record_values r) (answered r size) (judged_record r s.slots)

  pub faulty : (y : Refusal) → Met (write_questions r size) → Fault (record_layout r) (record_values r) y
      → (x : Refusal) × (write_answer r size ≡ Err x) × Lowest (record_layout r) (record_values r) x
  faulty = faulty_refused (write_answer r size) (write_questions r size) (record_layout r) (record_values r) (answered r size) (judged_record r s.slots)

  pub faultless : Met (write_questions r size) → ((x : Refusal) → Fault (record_layout r) (record_values r) x → ⊥) → write_answer r size ≡ Ok tt
  faultless = faultless_fine (write_answer r size) (write_questions r size) (record_layout r) (record_values r) (answered r size) (judged_record r s.slots)

  pub fault_free : write_answer r size ≡ Ok tt → Met (write_questions r size) × ((x : Refusal) → Fault (record_layout r) (record_values r) x → ⊥)
  fault_free = fine_faultless (write_answer r size) (write_questions r size) (record_layout r) (record_values r) (answered r size) (judged_record r s.slots)
