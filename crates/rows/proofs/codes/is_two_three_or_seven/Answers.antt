-- `rows::codes::is_two_three_or_seven` meets its contract. The kit takes 2 and 3 together for a span.
use Prim.Native.Nat.{ℕ, ◌≤◌}
use mathlib.Core.Bool.{Bool, true, false}
use mathlib.Core.Logic.{inl, inr, ⊎_elim}
use mathlib.Core.Path.{◌≡◌, refl, sym}
use native.Mathlib.Omega.{arith}
use lib.Dec.{eqb}
use borrow.Author.Tests.{eqb-true, eqb-false}
use Rattle.rows.proofs.Rules.Spans.{in_allowed, not_allowed}
use Rattle.rows.specs.Kept.{In}
use Rattle.rows.specs.Layout.{two_three_or_seven}
use Rattle.rows.proofs.codes.is_two_three_or_seven.Goals as goal

between : (v : ℕ) → 2 ≤ v → v ≤ 3 → In two_three_or_seven v
between v low high = by (eqb v 2) refl
  where
    by : (b : Bool) → eqb v 2 ≡ b → In two_three_or_seven v
    by true e = let same = eqb-true v 2 e in inl (omega arith, omega arith)
    by false e = let other = eqb-false v 2 e in inr (inl (above other, high))
      where
        above : (v ≡ 2 → ⊥) → 3 ≤ v
        above n = omega arith

none : (v : ℕ) → (v ≡ 7 → ⊥) → ((2 ≤ v) × (v ≤ 3) → ⊥) → In two_three_or_seven v → ⊥
none v n m h = ⊎_elim (λ k. m (k.0, omega arith)) (λ h. ⊎_elim (λ k. m (omega arith, k.1)) (λ h. ⊎_elim (λ k. n (omega arith)) (λ h. h) h) h) h

pub returns-in_default : goal.returns-in_default
returns-in_default c = sym (not_allowed two_three_or_seven _ (none _ c.in_default.in_default-own.rest.1 (λ k. omega arith)))

pub returns-in_default-2 : goal.returns-in_default-2
returns-in_default-2 c = sym (not_allowed two_three_or_seven _ (none _ c.in_default.in_default-own.rest.1 (λ k. omega arith)))

pub returns-in-2 : goal.returns-in-2
returns-in-2 c =
    let seven = c.in-2.is in
    sym (in_allowed two_three_or_seven _ (inr (inr (inl (omega arith, omega arith)))))

pub returns-in-2-2 : goal.returns-in-2-2
returns-in-2-2 c = sym (in_allowed two_three_or_seven _ (between _ (omega arith) (omega arith)))
