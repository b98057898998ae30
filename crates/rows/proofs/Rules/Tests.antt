-- What is tested is so or is not: numbers compared, and lists byte by byte.
use mathlib.Core.Path.{◌≡◌, refl, sym, ap, ◌∙◌}
use mathlib.Core.Bool.{Bool, true, false, ◌&&◌}
use mathlib.Core.List.{List, [], ◌∷◌}
use mathlib.Core.Logic.{◌⊎◌, inl, inr, ⊎_elim}
use Prim.Native.Nat.{ℕ, ◌/◌, ◌^◌, ◌<◌, ◌≤◌}
use native.Mathlib.Nat.{div-eq_of_lt, div-lt_iff_lt-mul, lt_of_lt_of_le, one-mul, pow-le-pow_right}
use native.Mathlib.Omega.{arith}
use lib.Dec.{eqb, ltb}
use lib.Pointwise.{pointwise}
use lib.Pow.{pow_pos}
use borrow.Author.Tests.{eqb-true, eq-eqb, le-ltb, lt-ltb, ltb-true, ltb-false, ne_eqb}
use Rattle.rows.proofs.Rules.Outcomes.{and_both, false_not_true}
use Rattle.rows.specs.Values.{same_bytes}

pub below? : (k n : ℕ) → (k < n) ⊎ (n ≤ k)
below? k n = go (ltb k n) refl
  where
    go : (b : Bool) → ltb k n ≡ b → (k < n) ⊎ (n ≤ k)
    go true e = inl (ltb-true k n e)
    go false e = inr (ltb-false k n e)

-- ---- a value fits so many bits

pub nothing_above : (v w : ℕ) → eqb (v / 2 ^ w) 0 ≡ ltb v (2 ^ w)
nothing_above v w = ⊎_elim (λ h. eq-eqb _ 0 (div-eq_of_lt h) ∙ sym (lt-ltb v (2 ^ w) h)) (λ h. ne_eqb _ 0 (something h) ∙ sym (le-ltb v (2 ^ w) h)) (below? v (2 ^ w))
  where
    below : v / 2 ^ w < 1 → v < 2 ^ w
    below k = rw one-mul at ((div-lt_iff_lt-mul (pow_pos w)).0 k)

    something : 2 ^ w ≤ v → v / 2 ^ w ≡ 0 → ⊥
    something h e = let k : v < 2 ^ w = below (omega (arith, e)) in omega arith

pub wide_enough : (v w : ℕ) → v < 2 ^ 64 → 63 < w → ltb v (2 ^ w) ≡ true
wide_enough v w h k = lt-ltb v (2 ^ w) (lt_of_lt_of_le h (pow-le-pow_right (omega arith) k))

-- ---- bytes

-- what `==` says of two slices
pub equal_bytes : (l m : List ℕ) → pointwise eqb l m ≡ same_bytes l m
unfolding same_bytes
equal_bytes [] [] = refl
equal_bytes [] (b ∷ m) = refl
equal_bytes (a ∷ l) [] = refl
equal_bytes (a ∷ l) (b ∷ m) = ap (λ (r : Bool). eqb a b && r) (equal_bytes l m)

pub same_refl : (l : List ℕ) → same_bytes l l ≡ true
unfolding same_bytes
same_refl [] = refl
same_refl (a ∷ l) = rw (eq-eqb a a refl) (same_refl l)

pub same_eq : (l m : List ℕ) → same_bytes l m ≡ true → l ≡ m
unfolding same_bytes
same_eq [] [] h = refl
same_eq [] (b ∷ m) h = absurd (false_not_true h)
same_eq (a ∷ l) [] h = absurd (false_not_true h)
same_eq (a ∷ l) (b ∷ m) h =
    let both = and_both (eqb a b) (same_bytes l m) h in
    let p : a ≡ b = eqb-true a b both.0 in
    let q : l ≡ m = same_eq l m both.1 in
    λ j. p j ∷ q j

pub eq_same : (l m : List ℕ) → l ≡ m → same_bytes l m ≡ true
eq_same l m e = rw e (same_refl m)

pub ne_same : (l m : List ℕ) → (l ≡ m → ⊥) → same_bytes l m ≡ false
ne_same l m n = go (same_bytes l m) refl
  where
    go : (t : Bool) → same_bytes l m ≡ t → same_bytes l m ≡ false
    go true e = absurd (n (same_eq l m e))
    go false e = e

pub same? : (t u : List ℕ) → (t ≡ u) ⊎ (t ≡ u → ⊥)
same? t u = go (same_bytes t u) refl
  where
    go : (b : Bool) → same_bytes t u ≡ b → (t ≡ u) ⊎ (t ≡ u → ⊥)
    go true e = inl (same_eq t u e)
    go false e = inr (λ q. false_not_true (sym e ∙ eq_same t u q))
