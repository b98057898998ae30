-- The loops that look for something where nothing may be.
use mathlib.Core.Path.{◌≡◌, ap, ◌∙◌, refl, sym}
use mathlib.Core.Bool.{Bool, true, false, ◌&&◌, not}
use Prim.Native.Nat.{ℕ, ◌+◌, ◌≤◌, ◌<◌, suc, zero}
use native.Mathlib.Numerals.{add-one}
use mathlib.Core.List.{List}
use lib.ListN.{length, get_or, drop, drop_of_length-le}
use lib.Seq.{drop-cons}
use lib.Dec.{eqb, ltb}
use borrow.Author.Tests.{eq-eqb, ne_eqb, lt-ltb}
use Rattle.rows.specs.Runs.Verdict.{empty}
use native.Mathlib.Omega.{arith}
use native.Mathlib.Nat.{suc-ne-zero}

one_byte : (l : List ℕ) (i : ℕ) → i < length l → empty (drop i l) ≡ eqb (get_or l i 0) 0 && empty (drop (i + 1) l)
unfolding empty
one_byte l i h = rw (add-one i, drop-cons l i 0 h)

pub blank_so_far : (l : List ℕ) (i : ℕ) → i < length l → get_or l i 0 ≡ 0 → empty (drop i l) ≡ empty (drop (i + 1) l)
blank_so_far l i h z = one_byte l i h ∙ ap (λ (b : Bool). b && empty (drop (i + 1) l)) (eq-eqb (get_or l i 0) 0 z)

pub not_blank : (l : List ℕ) (i : ℕ) → i < length l → (get_or l i 0 ≡ 0 → ⊥) → empty (drop i l) ≡ false
not_blank l i h z = one_byte l i h ∙ ap (λ (b : Bool). b && empty (drop (i + 1) l)) (ne_eqb (get_or l i 0) 0 z)

pub all_blank : (l : List ℕ) (i : ℕ) → length l ≤ i → empty (drop i l) ≡ true
unfolding empty
all_blank l i h = ap empty (drop_of_length-le l h)

-- a code that is not zero
pub nonzero : (n : ℕ) → not (eqb n 0) ≡ ltb 0 n
nonzero zero = refl
nonzero (suc n) = ap not (ne_eqb (suc n) 0 (suc-ne-zero n)) ∙ sym (lt-ltb 0 (suc n) (omega arith))
