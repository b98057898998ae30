-- What an answer tells of its parts, and what a test tells.
use Rattle.std.specs.Prelude.{Result, Ok, Err}
use Rattle.rows.specs.Refusals.{Verdict, answers, outcome}
use mathlib.Core.Path.{◌≡◌, refl, sym, ap}
use mathlib.Core.Bool.{Bool, true, false, ◌&&◌, ◌||◌}
use mathlib.Core.Logic.{◌⊎◌, inl, inr}
use Prim.Native.Nat.{ℕ}
use native.Mathlib.Omega.{arith}
use Rattle.rows.specs.declared.refusal.Refusal.{Refusal}
use Rattle.rows.specs.Runs.Questions.{◌then◌, unless}

zero_not_one : ◌≡◌ {A = ℕ} 0 1 → ⊥
zero_not_one z = omega arith

pub false_not_true : false ≡ true → ⊥
false_not_true e = let z : ◌≡◌ {A = ℕ} 0 1 = cc in zero_not_one z

-- nothing is both fine and refused
pub not_both : (v : Verdict) (x : Refusal) → v ≡ Ok tt → v ≡ Err x → ⊥
not_both v x e f = let z : ◌≡◌ {A = ℕ} 0 1 = cc in zero_not_one z

pub same_refusal : (x y : Refusal) → ◌≡◌ {A = Verdict} (Err x) (Err y) → x ≡ y
same_refusal x y e = cc

-- ---- one question

pub unless_true : (b : Bool) (r : Refusal) → b ≡ true → unless b r ≡ Ok tt
unless_true b r e = rw e

pub unless_fine : (b : Bool) (r : Refusal) → unless b r ≡ Ok tt → b ≡ true
unless_fine true r e = refl
unless_fine false r e = absurd (not_both (Err r) r e refl)

pub unless_refused : (b : Bool) (r x : Refusal) → unless b r ≡ Err x → (b ≡ false) × (x ≡ r)
unless_refused true r x e = absurd (not_both (Ok tt) x refl e)
unless_refused false r x e = (refl, sym (same_refusal r x e))

-- ---- one after another

pub then_assoc : (a b c : Verdict) → (a then b) then c ≡ a then (b then c)
then_assoc (Ok tt) b c = refl
then_assoc (Err r) b c = refl

pub fine_then : (a : Verdict) → (Ok tt) then a ≡ a
fine_then a = refl

pub then_fine : (a : Verdict) → a then (Ok tt) ≡ a
then_fine (Ok tt) = refl
then_fine (Err r) = refl

-- a question that is met leaves the answer to those behind it
pub met_then : (b : Bool) (r : Refusal) (w : Verdict) → b ≡ true → unless b r then w ≡ w
met_then b r w e = rw e

pub both_fine : (a b : Verdict) → a ≡ Ok tt → b ≡ Ok tt → a then b ≡ Ok tt
both_fine a b e f = simp (e, f)

pub fine_both : (a b : Verdict) → a then b ≡ Ok tt → (a ≡ Ok tt) × (b ≡ Ok tt)
fine_both (Ok tt) b e = (refl, e)
fine_both (Err r) b e = absurd (not_both (Err r) r e refl)

-- the first one is refused, or it is fine and the second is refused
pub refused_one : (a b : Verdict) (x : Refusal) → a then b ≡ Err x → (a ≡ Err x) ⊎ ((a ≡ Ok tt) × (b ≡ Err x))
refused_one (Ok tt) b x e = inr (refl, e)
refused_one (Err r) b x e = inl e

-- ---- tests

pub not-true : (b : Bool) → (b ≡ true → ⊥) → b ≡ false
not-true true n = absurd (n refl)
not-true false n = refl

pub and-true : (b : Bool) → b && true ≡ b
and-true true = refl
and-true false = refl

pub and_both : (a b : Bool) → a && b ≡ true → (a ≡ true) × (b ≡ true)
and_both true b e = (refl, e)
and_both false b e = absurd (false_not_true e)

pub both_and : (a b : Bool) → a ≡ true → b ≡ true → a && b ≡ true
both_and a b e f = simp (e, f)

pub or_either : (a b : Bool) → a || b ≡ true → (a ≡ true) ⊎ (b ≡ true)
or_either true b e = inl refl
or_either false b e = inr e

pub left_or : (a b : Bool) → a ≡ true → a || b ≡ true
left_or a b e = rw e

pub right_or : (a b : Bool) → b ≡ true → a || b ≡ true
right_or true b e = refl
right_or false b e = e

pub or_none : (a b : Bool) → b ≡ false → a || b ≡ a
or_none true b e = refl
or_none false b e = e

-- ---- what is handed back

module _ {A : Type 0} where
  not_err : (x : A) (r : Refusal) → ◌≡◌ {A = Result A Refusal} (Ok x) (Err r) → ⊥
  not_err x r e = let z : ◌≡◌ {A = ℕ} 0 1 = cc in zero_not_one z

  same_err : (x y : Refusal) → ◌≡◌ {A = Result A Refusal} (Err x) (Err y) → x ≡ y
  same_err x y e = cc

  same_ok : (x y : A) → ◌≡◌ {A = Result A Refusal} (Ok x) (Ok y) → x ≡ y
  same_ok x y e = cc

  -- a refusal is what was found
  pub refused_outcome : (v : Verdict) (x : A) (r : Refusal) → outcome v x ≡ Err r → v ≡ Err r
  refused_outcome (Ok tt) x r e = absurd (not_err x r e)
  refused_outcome (Err y) x r e = ap Err (same_err y r e)

  -- where something is handed back nothing was found, and it is what was made
  pub made_outcome : (v : Verdict) (x y : A) → outcome v x ≡ Ok y → (v ≡ Ok tt) × (y ≡ x)
  made_outcome (Ok tt) x y e = (refl, sym (same_ok x y e))
  made_outcome (Err r) x y e = absurd (not_err y r (sym e))

  -- what is said of it does not depend on what was made
  pub said_outcome : (v : Verdict) (x : A) → answers (outcome v x) ≡ answers v
  said_outcome (Ok tt) x = refl
  said_outcome (Err r) x = refl
