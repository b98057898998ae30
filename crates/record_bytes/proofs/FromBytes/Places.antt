-- A byte behind others is a byte of what stands behind them.
use mathlib.Core.Path.{◌≡◌, refl, sym, ap, ◌∙◌}
use Prim.Native.Nat.{ℕ, zero, suc, ◌+◌, ◌≤◌}
use native.Mathlib.Omega.{arith}
use mathlib.Core.List.{List, [], ◌∷◌}
use lib.ListN.{length, get_or, drop, take}
use lib.Seq.{get_or-drop, drop-drop}
use Rattle.rows.specs.Values.{each}
use Rattle.bits.specs.Frame.{number}
use Rattle.record_bytes.specs.Unpacked.{number_at}

pub each_same : {A : Type 0} (n : ℕ) (f g : ℕ → A) → ((i : ℕ) → f i ≡ g i) → each n f ≡ each n g
each_same zero f g h = refl
each_same (suc n) f g h = λ j. h 0 j ∷ each_same n (λ i. f (suc i)) (λ i. g (suc i)) (λ i. h (suc i)) j

pub byte_behind : (n : ℕ) (l : List ℕ) (j k : ℕ) → j ≡ n + k → get_or l j 0 ≡ get_or (drop n l) k 0
byte_behind n l j k e = ap (λ (x : ℕ). get_or l x 0) e ∙ sym (get_or-drop n l k 0)

pub number_behind : (n : ℕ) (l : List ℕ) (j k m : ℕ) → j ≡ n + k → number_at l j m ≡ number_at (drop n l) k m
number_behind n l j k m e = ap (λ (x : ℕ). number_at l x m) e ∙ ap (λ (s : List ℕ). number (take m s)) (sym (drop-drop k n l))

pub first-bytes : (n : ℕ) (l : List ℕ) → n ≤ length l → each n (λ i. get_or l i 0) ≡ take n l
first-bytes zero l h = refl
first-bytes (suc n) [] h = absurd (omega arith)
first-bytes (suc n) (x ∷ l) h = ap (λ (t : List ℕ). x ∷ t) (first-bytes n l (omega arith))
