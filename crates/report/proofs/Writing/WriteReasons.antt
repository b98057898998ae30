-- More of why writing refuses: the gap before a slot's fields, and Reserved.
use Rattle.std.specs.Prelude.{Ok, Err}
use mathlib.Core.Path.{◌≡◌, refl, sym, ap, ◌∙◌}
use mathlib.Core.Bool.{Bool, true, not, ◌&&◌}
use mathlib.Core.Logic.{⊎_elim}
use Prim.Native.Nat.{ℕ, ◌≤◌, ◌<◌}
use native.Mathlib.Omega.{arith}
use mathlib.Core.List.{List, [], ◌∷◌}
use lib.Dec.{eqb}
use borrow.Author.Tests.{le-leb, lt-leb, eqb-false, not-true}
use Rattle.rows.specs.declared.refusal.Refusal.{Refusal}
use Rattle.rows.specs.declared.refusal.Refusal.TheVariants.{Range, Gap}
use Rattle.report.specs.declared.record.Record.{Record}
use Rattle.rows.specs.Refusals.{says, Verdict}
use Rattle.rows.specs.Runs.Questions.{◌then◌}
use Rattle.rows.specs.Layout.{common, ending}
use Rattle.rows.specs.Runs.Verdict.{allowed, judge, walk, slots_verdict, verdict}
use Rattle.rows.specs.Values.{last_values}
use Rattle.report.specs.Records.{values}
use Rattle.rows.specs.Faults.{Question, ◌or◌, First, Fault}
use Rattle.report.specs.Reasons.{write_questions}
use Rattle.report.specs.Runs.Writing.{write_answer, Valid}
use Rattle.rows.proofs.Rules.Outcomes.{fine_both, and_both}
use Rattle.rows.proofs.Rules.Judged.{turn}
use Rattle.report.proofs.Writing.Validity.{record_layout, record_values, inner_write, judged_record, answered}
use Rattle.report.proofs.Shaped.{Shaped}
use Rattle.report.specs.Categories.{layout}

-- ---- the gap

-- no question has the number n
abbrev none_is : ℕ → List Question → Bool
none_is n [] = true
none_is n ((q or r) ∷ qs) = not (eqb (says r).number n) && none_is n qs

-- so a refusal with that number comes from the rest
from_rest : (qs : List Question) (x : Refusal) (rest : Type 0) → none_is (says x).number qs ≡ true → First qs x rest → rest
from_rest [] x rest b f = f
from_rest ((q or r) ∷ qs) x rest b f =
    let k = and_both (not (eqb (says r).number (says x).number)) (none_is (says x).number qs) b in
    ⊎_elim
    (λ u. absurd (eqb-false (says r).number (says x).number (not-true _ k.0) (ap (λ (y : Refusal). (says y).number) (sym u.1))))
    (λ u. from_rest qs x rest k.1 u.1)
    f

-- an 8 comes from the values
refused_by_values : (r : Record) (size p v : ℕ) → write_answer r size ≡ Err (Range p v) → inner_write r ≡ Err (Range p v)
refused_by_values r size p v e = from_rest (write_questions r size) (Range p v) (inner_write r ≡ Err (Range p v)) refl ((answered r size).refused (Range p v) _ e (λ i. i))

pub fault_of_8 : (r : Record) (size p v : ℕ) → Shaped r → write_answer r size ≡ Err (Range p v) → Fault (record_layout r) (record_values r) (Range p v)
fault_of_8 r size p v s e = (judged_record r s.slots).found (Range p v) (refused_by_values r size p v e)

pub no_gap : (r : Record) (size p v : ℕ) → Shaped r → write_answer r size ≡ Err (Range p v) → Fault (record_layout r) (record_values r) (Gap p) → ⊥
no_gap r size p v s e f = late ((judged_record r s.slots).earliest (Range p v) (Gap p) (refused_by_values r size p v e) f)
  where
    late : turn (Range p v) ≤ turn (Gap p) → ⊥
    late h = omega arith

-- ---- Reserved

-- the record with another Reserved
abbrev pub reserving : Record → ℕ → Record
reserving r n = record { preamble = r.preamble; reserved = n; common = r.common; body = r.body; slots = r.slots; text = r.text; spares = r.spares }

above : (n : ℕ) → 63 < n → walk [] ending (last_values n) ≡ Err (Range 220 n)
unfolding walk judge allowed
above n h = simp (le-leb 0 n (omega arith), lt-leb n 63 h)

behind_fine : (a b c d k z : Verdict) (x : Refusal) → a then b then c then d then k then z ≡ Ok tt → (e : Verdict) → e ≡ Err x → a then b then c then d then k then e ≡ Err x
behind_fine a b c d k z x f e g =
    let p = fine_both a (b then c then d then k then z) f in
    let q = fine_both b (c then d then k then z) p.1 in
    let t = fine_both c (d then k then z) q.1 in
    let u = fine_both d (k then z) t.1 in
    let v = fine_both k z u.1 in
    simp (p.0, q.0, t.0, u.0, v.0, g)

above_inner : (r : Record) (n : ℕ) → 63 < n → inner_write r ≡ Ok tt → inner_write (reserving r n) ≡ Err (Range 220 n)
unfolding verdict values
above_inner r n h e =
    let l = layout r.body in
    let v = values r in
    behind_fine (walk [] (common l) v.head) (walk [] l.front v.front) (slots_verdict l.slots v.slots) (walk [] l.text v.text) (walk [] l.behind v.behind) (walk [] ending v.last) (Range 220 n) e
    (walk [] ending (last_values n)) (above n h)

pub above_63 : (r : Record) (n : ℕ) → Valid r → 63 < n → write_answer (reserving r n) 32 ≡ Err (Range 220 n)
above_63 r n v h =
    let a = (answered r 32).fine v in
    let m = a.0 in
    let t = m.1.1.1.0 in
    (answered (reserving r n) 32).met (m.0, (m.1.0, (m.1.1.0, (record { slots = t.slots; others = t.others; spare = t.spare; text = t.text }, tt))))
    ∙ above_inner r n h a.1
