-- Bytes pushed one behind the other.
use mathlib.Core.Path.{◌≡◌, sym, ap, ap₂, ◌∙◌}
use Prim.Native.Nat.{ℕ, suc, ◌+◌, ◌-◌, ◌<◌}
use native.Mathlib.Numerals.{add-one}
use native.Mathlib.Omega.{arith}
use mathlib.Core.List.{List}
use lib.ListN.{length, get_or, drop, replicate}
use lib.Seq.{drop-cons}
use Rattle.bits.specs.declared.words.Words.{Words}
use Rattle.bits.specs.Words.{pushed, pushed_all}

-- what is left from byte k on, with one byte more
pub byte_more : (x : Words) (t : List ℕ) (n k : ℕ) → k < n → k < length t
    → pushed_all (pushed x 8 (get_or t k 0)) (replicate (n - (k + 1)) 8) (drop (k + 1) t) ≡ pushed_all x (replicate (n - k) 8) (drop k t)
byte_more x t n k h l =
    let e : n - k ≡ suc (n - (k + 1)) = omega arith in
    ap (λ (j : ℕ). pushed_all (pushed x 8 (get_or t k 0)) (replicate (n - (k + 1)) 8) (drop j t)) (add-one k)
    ∙ sym (ap₂ (λ (m : ℕ) (r : List ℕ). pushed_all x (replicate m 8) r) e (drop-cons t k 0 l))
