-- What a name in range tells, and one out of range.
use Rattle.std.specs.Prelude.{Ok, Err}
use Rattle.rows.specs.Refusals.{Verdict}
use mathlib.Core.List.{[]}
use mathlib.Core.Path.{◌≡◌, refl, ◌∙◌}
use mathlib.Core.Bool.{true}
use mathlib.Core.Logic.{◌⊎◌, inl, inr, ⊎_elim}
use native.Mathlib.Omega.{arith}
use Prim.Native.Nat.{◌≤◌}
use Rattle.rows.specs.declared.refusal.Refusal.{Refusal}
use Rattle.nankai.specs.Nankai.{nankai, number_values}
use Rattle.rows.specs.Kept.{Holds}
use Rattle.rows.specs.Faults.{Lowest}
use Rattle.rows.proofs.Rules.LowestBit.{lowest_bit}
use Rattle.rows.proofs.Rules.Outcomes.{false_not_true, fine_then, then_fine}
use Rattle.rows.proofs.Rules.JudgedFrames.{JudgesAll, judged}
use Rattle.pages.specs.declared.name.Name.{Name}
use Rattle.pages.specs.Names.{name_verdict, is_fine, name_values, page_one}
use Rattle.pages.proofs.Numbered.{Numbered, kept_numbered}
use Rattle.nankai.proofs.Walks.{any-text-passes}
use Rattle.rows.specs.Runs.Verdict.{body_verdict, verdict, allowed, judge, walk}
use lib.ListN.{replicate}
use Rattle.rows.specs.Values.{head_values, last_values, no_spares}
use Rattle.rows.specs.declared.fields.Spares.{Spares}
use Rattle.bits.proofs.Bytes.{zero_bytes}
use Rattle.rows.specs.Layout.{ending}

pub is_fine_lem : (v : Verdict) → is_fine v ≡ true → v ≡ Ok tt
is_fine_lem (Ok tt) e = refl
is_fine_lem (Err x) e = absurd (false_not_true e)

-- the verdict on a name is the one on the values of its first page
judges : (n : Name) → JudgesAll nankai (name_values n)
judges n = judged nankai (name_values n) refl refl

fine_holds : (n : Name) → name_verdict n ≡ Ok tt → Holds nankai (name_values n)
unfolding name_verdict
fine_holds n h = (judges n).passed h

-- its Rc is one of category 4, whatever other categories have
pub name_rc : (n : Name) → name_verdict n ≡ Ok tt → (n.common.rc ≡ 2) ⊎ (n.common.rc ≡ 7)
name_rc n h = ⊎_elim (λ k. inl (omega arith)) (λ q. ⊎_elim (λ k. inr (omega arith)) (λ z. absurd z) q) (fine_holds n h).head.1.0

-- and where it is not, no value that breaks its rule has a lower bit than the one that is named
pub first_bad_value : (n : Name) (x : Refusal) → name_verdict n ≡ Err x → Lowest nankai (name_values n) x
unfolding name_verdict
first_bad_value n x e = lowest_bit nankai (name_values n) (judges n) x e

-- what the code asks: the rest of that frame passes
last_passes : walk [] ending (last_values 0) ≡ Ok tt
unfolding walk judge allowed
last_passes = refl

pub name_found : (n : Name) (z : Spares) (v : Verdict) → z ≡ no_spares → v ≡ body_verdict nankai (head_values n.common 4) (number_values (page_one n) z) [] → v ≡ name_verdict n
unfolding name_verdict verdict body_verdict
name_found n z v q e = e ∙ simp (q, any-text-passes (replicate 18 0) (zero_bytes 18), last_passes, fine_then, then_fine)

-- its first page is page 1 of a total from 1 to 63
name_numbered : (n : Name) → name_verdict n ≡ Ok tt → Numbered (page_one n)
name_numbered n h = kept_numbered (page_one n) no_spares (fine_holds n h).behind

pub total-most : (n : Name) → name_verdict n ≡ Ok tt → n.total ≤ 63
total-most n h = (name_numbered n h).most
