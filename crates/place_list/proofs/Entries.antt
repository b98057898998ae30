-- What a list has, and so what the table has.
use mathlib.Core.Path.{◌≡◌, refl, ap, subst}
use mathlib.Core.Bool.{Bool, true, false, ◌||◌, false≢true}
use mathlib.Core.List.{List, [], ◌∷◌, ◌++◌, map}
use Prim.Native.Nat.{ℕ, zero, suc, ◌<◌}
use native.Mathlib.Omega.{arith}
use lib.Dec.{eqb}
use lib.ListN.{length, get_or}
use borrow.Author.Tests.{eqb-true, eq-eqb}
use Rattle.std.proofs.lemmas.Bool.{or_right}
use Rattle.place_list.specs.Codes.{codes, code_at}
use Rattle.place_list.specs.Standing.{among, listed}
use Rattle.place_list.proofs.Halves.{Each}
use Rattle.place_list.proofs.Rules.{there_are_1792, inside}

-- ---- a list has a number exactly where one of its entries is that

record At (place : ℕ) (l : List ℕ) : Type 0 where
  index : ℕ
  within : index < length l
  here : get_or l index 0 ≡ place

among-at : (l : List ℕ) (k place : ℕ) → k < length l → get_or l k 0 ≡ place → among place l ≡ true
among-at [] k place h e = absurd (omega (arith, h))
among-at (x ∷ xs) zero place h e = ap (λ (b : Bool). b || among place xs) (eq-eqb x place e)
among-at (x ∷ xs) (suc k) place h e = or_right (eqb x place) (among place xs) (among-at xs k place (omega (arith, h)) e)

at-among : (l : List ℕ) (place : ℕ) → among place l ≡ true → At place l
at-among [] place e = absurd (false≢true e)
at-among (x ∷ xs) place e = by (eqb x place) refl e (at-among xs place)
  where
    by : (b : Bool) → eqb x place ≡ b → b || among place xs ≡ true → (among place xs ≡ true → At place xs) → At place (x ∷ xs)
    by true q e later = record { index = 0; within = omega arith; here = eqb-true x place q }
    by false q e later = let k = later e in record { index = suc k.index; within = omega (arith, k.within); here = k.here }

-- each entry of a list is among them
pub each-among : (l : List ℕ) → Each (λ k. among k l ≡ true) l
each-among l = by l l (λ k e. e)
  where
    by : (l m : List ℕ) → ((k : ℕ) → among k m ≡ true → among k l ≡ true) → Each (λ k. among k l ≡ true) m
    by l [] h = tt
    by l (x ∷ xs) h = (h x (among-at (x ∷ xs) 0 x (omega arith) refl), by l xs (λ k e. h k (or_right (eqb x k) (among k xs) e)))

-- ---- lists that are made of others

pub among-map : (f : ℕ → ℕ) (k : ℕ) (l : List ℕ) → among k l ≡ true → among (f k) (map f l) ≡ true
among-map f k [] e = absurd (false≢true e)
among-map f k (x ∷ xs) e = by (eqb x k) refl e (among-map f k xs)
  where
    by : (b : Bool) → eqb x k ≡ b → b || among k xs ≡ true → (among k xs ≡ true → among (f k) (map f xs) ≡ true) → among (f k) (f x ∷ map f xs) ≡ true
    by true q e later = ap (λ (b : Bool). b || among (f k) (map f xs)) (eq-eqb (f x) (f k) (ap f (eqb-true x k q)))
    by false q e later = or_right (eqb (f x) (f k)) (among (f k) (map f xs)) (later e)

pub among-front : (k : ℕ) (l m : List ℕ) → among k l ≡ true → among k (l ++ m) ≡ true
among-front k [] m e = absurd (false≢true e)
among-front k (x ∷ xs) m e = by (eqb x k) e (among-front k xs m)
  where
    by : (b : Bool) → b || among k xs ≡ true → (among k xs ≡ true → among k (xs ++ m) ≡ true) → b || among k (xs ++ m) ≡ true
    by true e later = refl
    by false e later = later e

pub among-behind : (k : ℕ) (l m : List ℕ) → among k m ≡ true → among k (l ++ m) ≡ true
among-behind k [] m e = e
among-behind k (x ∷ xs) m e = or_right (eqb x k) (among k (xs ++ m)) (among-behind k xs m e)

-- ---- the table

-- an entry of the table that is the place
pub record Entry (place : ℕ) : Type 0 where
  pub index : ℕ
  pub within : index < 1792
  pub here : code_at index ≡ place

pub entry_listed : (k : ℕ) → k < 1792 → listed (code_at k) ≡ true
unfolding listed code_at
entry_listed k h = among-at codes k (get_or codes k 0) (inside h) refl

pub listed_entry : (place : ℕ) → listed place ≡ true → Entry place
unfolding listed code_at
listed_entry place e =
    let a = at-among codes place e in
    record { index = a.index; within = subst (λ (n : ℕ). a.index < n) there_are_1792 a.within; here = a.here }
