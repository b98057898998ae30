-- A number put from its last digit on.
use mathlib.Core.Path.{◌≡◌, refl, sym, ap, ◌∙◌}
use mathlib.Core.List.{List, [], ◌∷◌, ◌++◌}
use Prim.Native.Nat.{ℕ, suc, ◌+◌, ◌/◌, ◌%◌, ◌≤◌, ◌<◌}
use native.Mathlib.Omega.{arith}
use lib.ListN.{length, get_or, set, take, drop}
use lib.Seq.{sets, set_comm, drop-cons, get_or-take, take-take, length-take-le}
use Rattle.lent.specs.Numbers.{decimal}
use Rattle.lent.proofs.Decimals.{last_digit, front-digits}

-- a byte in front of those that are put
sets-front : (t l : List ℕ) (i j v : ℕ) → i < j → set (sets l j t) i v ≡ sets (set l i v) j t
sets-front [] l i j v h = refl
sets-front (w ∷ t) l i j v h =
    sets-front t (set l j w) i (suc j) v (omega arith)
    ∙ ap (λ (m : List ℕ). sets m (suc j) t) (set_comm l j i w v (λ e. omega arith))

-- bytes in front of those that are put
pub sets_before : (t p l : List ℕ) (at : ℕ) → sets (sets l (at + length t) p) at t ≡ sets l at (t ++ p)
sets_before [] p l at = ap (λ (j : ℕ). sets l j p) (omega arith)
sets_before (v ∷ t) p l at =
    ap (λ (m : List ℕ). sets m (suc at) t) (sets-front p l at (at + suc (length t)) v (omega arith) ∙ ap (λ (j : ℕ). sets (set l at v) j p) (omega arith))
    ∙ sets_before t p (set l at v) (suc at)

one_before : (t l : List ℕ) (at k : ℕ) → k < length t → set (sets l (at + suc k) (drop (suc k) t)) (at + k) (get_or t k 0) ≡ sets l (at + k) (drop k t)
one_before t l at k h =
    sets-front (drop (suc k) t) l (at + k) (at + suc k) (get_or t k 0) (omega arith)
    ∙ ap (λ (j : ℕ). sets (set l (at + k) (get_or t k 0)) j (drop (suc k) t)) (omega arith)
    ∙ ap (sets l (at + k)) (sym (drop-cons t k 0 h))

-- the first k digits of t are those of n, and the k-th is j digits behind the first
module _ (n : ℕ) (t : List ℕ) (k j : ℕ) (next : k ≡ suc j) (within : k ≤ length t) (front : decimal n ≡ take k t) where
  as_long : length (decimal n) ≡ suc j
  as_long = ap length front ∙ length-take-le k t within ∙ next

  last_of_them : get_or t j 0 ≡ 48 + n % 10
  last_of_them = sym (get_or-take k t j 0 (omega arith)) ∙ ap (λ (d : List ℕ). get_or d j 0) (sym front) ∙ last_digit n j as_long

  pub digit_put : (l o : List ℕ) (at : ℕ) → o ≡ sets l (at + k) (drop k t) → set o (at + j) (48 + n % 10) ≡ sets l (at + j) (drop j t)
  digit_put l o at w = rw (w, ← last_of_them, next) (one_before t l at j (omega arith))

  pub digits-left : 0 < j → decimal (n / 10) ≡ take j t
  digits-left h = sym (front-digits n j h as_long) ∙ ap (take j) front ∙ take-take j k t (omega arith)

pub all_digits : (t l o : List ℕ) (at k : ℕ) → k ≡ 0 → o ≡ sets l (at + k) (drop k t) → o ≡ sets l at t
all_digits t l o at k z w = rw z at w ∙ ap (λ (i : ℕ). sets l i t) (omega arith)
