-- A loop that fills an array from the front.
use mathlib.Core.Path.{◌≡◌, ap, ◌∙◌}
use Prim.Native.Nat.{ℕ, zero, suc, ◌+◌, ◌-◌, ◌<◌}
use native.Mathlib.Omega.{arith}
use mathlib.Core.List.{List, ◌∷◌, ◌++◌, append-nil}
use lib.ListN.{replicate, set}
use Rattle.rows.specs.Values.{each}

one_more : {A : Type 0} (k m : ℕ) (f : ℕ → A) (d v : A) → v ≡ f k → set (each k f ++ replicate (suc m) d) k v ≡ each (suc k) f ++ replicate m d
one_more zero m f d v e = ap (λ x. x ∷ replicate m d) e
one_more (suc k) m f d v e = ap (λ l. f 0 ∷ l) (one_more k m (λ i. f (suc i)) d v e)

-- n elements, the first k of them filled by f and the others d: with one more
pub fill : {A : Type 0} (n k : ℕ) (f : ℕ → A) (d v : A) (l : List A) → k < n → l ≡ each k f ++ replicate (n - k) d → v ≡ f k
    → set l k v ≡ each (k + 1) f ++ replicate (n - (k + 1)) d
fill n k f d v l h p e =
    let m : n - k ≡ suc (n - (k + 1)) = omega arith in
    ap (λ x. set x k v) p
    ∙ ap (λ j. set (each k f ++ replicate j d) k v) m
    ∙ one_more k (n - (k + 1)) f d v e
    ∙ ap (λ j. each j f ++ replicate (n - (k + 1)) d) (sym_add k)
  where
    sym_add : (k : ℕ) → suc k ≡ k + 1
    sym_add k = omega arith

pub filled : {A : Type 0} (n : ℕ) (f : ℕ → A) (d : A) (l : List A) → l ≡ each n f ++ replicate (n - n) d → l ≡ each n f
filled n f d l p = p ∙ ap (λ j. each n f ++ replicate j d) nothing ∙ append-nil (each n f)
  where
    nothing : n - n ≡ 0
    nothing = omega arith
