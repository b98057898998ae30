-- A text in bytes that reach so far, and in bytes that do not.
use mathlib.Core.Path.{◌≡◌, refl, ap, sym, ◌∙◌}
use mathlib.Core.Bool.{Bool, true, false}
use Prim.Native.Nat.{ℕ, ◌+◌, ◌-◌, ◌≤◌}
use native.Mathlib.Omega.{arith}
use mathlib.Core.List.{List}
use lib.ListN.{drop, length, length-drop, replicate, take}
use lib.Seq.{get_or-drop}
use lib.Dec.{leb}
use borrow.Author.Tests.{leb-true, leb-false, le-leb, lt-leb}
use Rattle.record_bytes.specs.Text.{text_at, text_or_zeros}
use Rattle.record_bytes.proofs.FromBytes.Places.{each_same, first-bytes}

pub text-found : (l : List ℕ) (k : ℕ) → k + 18 ≤ length l → text_or_zeros l k ≡ text_at l k
unfolding text_or_zeros
text-found l k h = rw (le-leb (k + 18) (length l) h)

pub text_not_there : (l : List ℕ) (k : ℕ) → leb (k + 18) (length l) ≡ false → replicate 18 0 ≡ text_or_zeros l k
unfolding text_or_zeros
text_not_there l k e = rw e

-- the bytes of a text, as a slice
pub text_taken : (l : List ℕ) (k n : ℕ) → n ≡ 18 → k + 18 ≤ length l → take n (drop k l) ≡ text_or_zeros l k
text_taken l k n e h =
    ap (λ (m : ℕ). take m (drop k l)) e
    ∙ sym (first-bytes 18 (drop k l) (rw (length-drop k l) (omega arith)))
    ∙ each_same 18 _ _ (λ i. get_or-drop k l i 0)
    ∙ sym (text-found l k h)

-- ---- told by the size without a sum, which might not fit

pub room : (size at : ℕ) → 18 ≤ size → leb at (size - 18) ≡ leb (at + 18) size
room size at h = by_test (leb at (size - 18)) refl
  where
    by_test : (b : Bool) → leb at (size - 18) ≡ b → b ≡ leb (at + 18) size
    by_test true e = sym (le-leb (at + 18) size (omega (arith, leb-true at (size - 18) e)))
    by_test false e = sym (lt-leb (at + 18) size (omega (arith, leb-false at (size - 18) e)))
