-- Tests that are computed over a whole list, and the laws that turn each into a fact at every entry.
use mathlib.Core.Path.{◌≡◌}
use mathlib.Core.Bool.{Bool, true, ◌&&◌, cond}
use mathlib.Core.List.{List, [], ◌∷◌}
use Prim.Native.Nat.{ℕ, zero, suc, ◌+◌, ◌%◌, ◌<◌}
use native.Mathlib.Omega.{arith}
use lib.Dec.{ltb, eqb}
use lib.ListN.{length, get_or}
use borrow.Author.Tests.{ltb-true}
use Rattle.std.proofs.lemmas.Bool.{and_parts}

-- ---- numbers that rise: the first is above `low`, and each above the one before it

abbrev pub rises : ℕ → List ℕ → Bool
rises low [] = true
rises low (x ∷ xs) = ltb low x && rises x xs

above : (low : ℕ) (l : List ℕ) → rises low l ≡ true → (k : ℕ) → k < length l → low < get_or l k 0
above low [] e k h = absurd (omega (arith, h))
above low (x ∷ xs) e zero h = ltb-true low x (and_parts (ltb low x) (rises x xs) e).0
above low (x ∷ xs) e (suc k) h =
    omega (arith, ltb-true low x (and_parts (ltb low x) (rises x xs) e).0, above x xs (and_parts (ltb low x) (rises x xs) e).1 k (omega (arith, h)))

pub rises-at : (low : ℕ) (l : List ℕ) → rises low l ≡ true → (i j : ℕ) → i < j → j < length l → get_or l i 0 < get_or l j 0
rises-at low [] e i j h m = absurd (omega (arith, m))
rises-at low (x ∷ xs) e i zero h m = absurd (omega (arith, h))
rises-at low (x ∷ xs) e zero (suc j) h m = above x xs (and_parts (ltb low x) (rises x xs) e).1 j (omega (arith, m))
rises-at low (x ∷ xs) e (suc i) (suc j) h m = rises-at x xs (and_parts (ltb low x) (rises x xs) e).1 i j (omega (arith, h)) (omega (arith, m))

-- ---- numbers each of which passes a test

abbrev pub every : (ℕ → Bool) → List ℕ → Bool
every test [] = true
every test (x ∷ xs) = test x && every test xs

pub every-at : (test : ℕ → Bool) (l : List ℕ) → every test l ≡ true → (k : ℕ) → k < length l → test (get_or l k 0) ≡ true
every-at test [] e k h = absurd (omega (arith, h))
every-at test (x ∷ xs) e zero h = (and_parts (test x) (every test xs) e).0
every-at test (x ∷ xs) e (suc k) h = every-at test xs (and_parts (test x) (every test xs) e).1 k (omega (arith, h))

-- ---- what is counted: how many numbers end in 99999, and what they add up to

abbrev pub endings : List ℕ → ℕ
endings [] = 0
endings (x ∷ xs) = cond (eqb (x % 100000) 99999) 1 0 + endings xs

abbrev pub added : List ℕ → ℕ
added [] = 0
added (x ∷ xs) = x + added xs
