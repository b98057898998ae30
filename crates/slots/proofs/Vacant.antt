-- The loops that look for something where nothing may be.
use mathlib.Core.Bool.{Bool, ◌&&◌, cond, false, true}
use mathlib.Core.List.{List, [], ◌∷◌}
use Prim.Native.Nat.{◌*◌, ◌+◌, ◌<◌, ◌≤◌, ℕ}
use mathlib.Core.Path.{◌∙◌, ◌≡◌, ap, refl, sym}
use native.Mathlib.Numerals.{add-one}
use lib.ListN.{drop, drop_of_length-le, get_or, length, replicate}
use lib.Seq.{drop-cons}
use Rattle.rows.specs.Runs.Verdict.{empty}
use lib.Dec.{eqb}
use borrow.Author.Tests.{eqb-false, eqb-true}
use native.Mathlib.Omega.{arith}
use Rattle.rows.proofs.Rules.JudgedSlots.{empty_is, is_empty}
use Rattle.rows.proofs.Rules.Outcomes.{and_both, both_and, not-true}
use Rattle.slots.specs.Slots.{vacant}

-- ---- the fields of a slot

one_field : (ws vs : List ℕ) (i : ℕ) → i < length ws → i < length vs
    → vacant (drop i ws) (drop i vs) ≡ cond (eqb (get_or ws i 0) 0) (eqb (get_or vs i 0) 0) true && vacant (drop (i + 1) ws) (drop (i + 1) vs)
unfolding vacant
one_field ws vs i h k = rw (add-one i, drop-cons ws i 0 h, drop-cons vs i 0 k)

module _ (ws vs : List ℕ) (i : ℕ) (h : i < length ws) (k : i < length vs) where
  pub vacant_so_far : cond (eqb (get_or ws i 0) 0) (eqb (get_or vs i 0) 0) true ≡ true → vacant (drop i ws) (drop i vs) ≡ vacant (drop (i + 1) ws) (drop (i + 1) vs)
  vacant_so_far e = one_field ws vs i h k ∙ ap (λ (b : Bool). b && vacant (drop (i + 1) ws) (drop (i + 1) vs)) e

  pub not_vacant : cond (eqb (get_or ws i 0) 0) (eqb (get_or vs i 0) 0) true ≡ false → vacant (drop i ws) (drop i vs) ≡ false
  not_vacant e = one_field ws vs i h k ∙ ap (λ (b : Bool). b && vacant (drop (i + 1) ws) (drop (i + 1) vs)) e

pub all-vacant : (ws vs : List ℕ) (i : ℕ) → length ws ≤ i → vacant (drop i ws) vs ≡ true
unfolding vacant
all-vacant ws vs i h = ap (λ (l : List ℕ). vacant l vs) (drop_of_length-le ws h)

-- a slot without fields is vacant where it is empty
pub none_held : (vs : List ℕ) → vacant (replicate (length vs) 0) vs ≡ empty vs
unfolding vacant empty
none_held [] = refl
none_held (v ∷ vs) = ap (λ (b : Bool). eqb v 0 && b) (none_held vs)

-- an empty slot is vacant, whatever it has
pub empty-vacant : (ws vs : List ℕ) → empty vs ≡ true → vacant ws vs ≡ true
unfolding vacant empty
empty-vacant [] vs e = refl
empty-vacant (w ∷ ws) [] e = refl
empty-vacant (w ∷ ws) (v ∷ vs) e =
    let b = and_both (eqb v 0) (empty vs) e in
    both_and (cond (eqb w 0) (eqb v 0) true) (vacant ws vs) (either_way (eqb w 0) (eqb v 0) b.0) (empty-vacant ws vs b.1)
  where
    either_way : (a b : Bool) → b ≡ true → cond a b true ≡ true
    either_way true b e = e
    either_way false b e = refl

-- ---- four bytes as one number

module _ (d h m s : ℕ) where
  one_number : (b : Bool) → eqb (d + h * 0x100 + m * 0x10000 + s * 0x1000000) 0 ≡ b → b ≡ empty (d ∷ h ∷ m ∷ s ∷ 0 ∷ [])
  one_number true e =
      let n = eqb-true (d + h * 0x100 + m * 0x10000 + s * 0x1000000) 0 e in
      sym (is_empty (d ∷ h ∷ m ∷ s ∷ 0 ∷ []) (omega arith, (omega arith, (omega arith, (omega arith, (refl, tt))))))
  one_number false e =
      sym (not-true _ (λ z. let k = empty_is (d ∷ h ∷ m ∷ s ∷ 0 ∷ []) z in eqb-false (d + h * 0x100 + m * 0x10000 + s * 0x1000000) 0 e (omega (arith, k.0, k.1.0, k.1.1.0, k.1.1.1.0))))

  pub four_bytes : (p : ℕ) → p ≡ 0 → eqb (d + h * 0x100 + m * 0x10000 + s * 0x1000000) 0 ≡ empty (d ∷ h ∷ m ∷ s ∷ p ∷ [])
  four_bytes p z = one_number _ refl ∙ ap (λ (q : ℕ). empty (d ∷ h ∷ m ∷ s ∷ q ∷ [])) (sym z)

  pub fifth_held : (p : ℕ) → (p ≡ 0 → ⊥) → false ≡ empty (d ∷ h ∷ m ∷ s ∷ p ∷ [])
  fifth_held p z = sym (not-true _ (λ e. z (empty_is (d ∷ h ∷ m ∷ s ∷ p ∷ []) e).1.1.1.1.0))
