-- Laws of the first bytes of a line, as they are kept.
use mathlib.Core.Path.{◌≡◌, refl, sym, ap, ap₂, ◌∙◌}
use mathlib.Core.List.{List, [], ◌∷◌, ◌++◌}
use Prim.Native.Nat.{ℕ, zero, suc, ◌+◌, ◌-◌, ◌≤◌, ◌<◌, min}
use native.Mathlib.Nat.{zero-min, min_comm, min-le_right, min-zero, suc-min-suc}
use native.Mathlib.Omega.{arith}
use lib.ListN.{length, take, drop, replicate, length-append, length-replicate, length-take}
use lib.Seq.{length-take-le, length-sets, sets, sets-eq, take-append-add}
use Rattle.lent.specs.Writing.{Wrote}
use Rattle.lent.proofs.Chains.{sets-sets}
use Rattle.listing.specs.declared.progress.Progress.{Progress}
use Rattle.listing.specs.Scanning.{sized_to, progress_of, begun_in}

-- ---- taking and padding

-- what was cut off before changes nothing
pub take_kept : (k : ℕ) (a b : List ℕ) → take k (take k a ++ b) ≡ take k (a ++ b)
take_kept zero a b = refl
take_kept (suc k) [] b = refl
take_kept (suc k) (x ∷ a) b = ap (λ (l : List ℕ). x ∷ l) (take_kept k a b)

pub length_padded : (k : ℕ) (l : List ℕ) → length (sized_to k l) ≡ k
unfolding sized_to
length_padded zero l = refl
length_padded (suc k) [] = ap suc (length_padded k [])
length_padded (suc k) (x ∷ l) = ap suc (length_padded k l)

take_padded : (k : ℕ) (l : List ℕ) → length l ≤ k → take (length l) (sized_to k l) ≡ l
unfolding sized_to
take_padded zero (x ∷ l) h = elim h [ ]
take_padded zero [] h = refl
take_padded (suc k) [] h = refl
take_padded (suc k) (x ∷ l) h = ap (λ (r : List ℕ). x ∷ r) (take_padded k l (omega arith))

-- the progress gives back the line that was begun
pub begun_back : (n : ℕ) (l : List ℕ) → length l ≤ 64 → begun_in (progress_of n l) ≡ l
unfolding progress_of
begun_back n l h = take_padded 64 l h

pub begun_short : (p : Progress) → length p.begun ≡ 64 → length (begun_in p) ≤ 64
begun_short p h = omega (arith, length-take p.length p.begun)

-- ---- lengths

pub take_least : (n m : ℕ) (l : List ℕ) → length l ≡ m → take (min n m) l ≡ take n l
take_least zero m l e = simp zero-min
take_least (suc n) zero [] e = simp min-zero
take_least (suc n) (suc m) (x ∷ l) e = simp suc-min-suc (ap (λ (r : List ℕ). x ∷ r) (take_least n m l (omega arith)))
take_least (suc n) zero (x ∷ l) e = absurd (omega arith)
take_least (suc n) (suc m) [] e = absurd (omega arith)

-- ---- a line that is kept

-- zeros behind a text that fits
zeros_behind : (k : ℕ) (l : List ℕ) → length l ≤ k → l ++ drop (length l) (replicate k 0) ≡ sized_to k l
unfolding sized_to
zeros_behind zero [] h = refl
zeros_behind zero (x ∷ l) h = absurd (omega arith)
zeros_behind (suc k) [] h = ap (λ (r : List ℕ). 0 ∷ r) (zeros_behind k [] (omega arith))
zeros_behind (suc k) (x ∷ l) h = ap (λ (r : List ℕ). x ∷ r) (zeros_behind k l (omega arith))

put_padded : (k : ℕ) (l : List ℕ) → length l ≤ k → sets (replicate k 0) 0 l ≡ sized_to k l
put_padded k l h =
    let none : 0 + length l ≡ length l = omega arith in
    sets-eq l (replicate k 0) 0 (omega (arith, length-replicate {A = ℕ} k 0)) ∙ ap (λ (j : ℕ). l ++ drop j (replicate k 0)) none ∙ zeros_behind k l h

-- the line that was begun, and as much of what goes on with it as has room
pub kept_all : (p : Progress) (b first second : List ℕ) (m n next : ℕ) → length p.begun ≡ 64 → m ≡ min p.length 64 → n ≡ min (length b) (64 - m)
    → first ≡ sets (replicate 64 0) 0 (take m p.begun) → Wrote first second m next (take n b)
    → ◌≡◌ {A = Progress} (record { lines = p.lines; length = next; begun = second }) (progress_of p.lines (take 64 (begun_in p ++ b)))
unfolding progress_of
kept_all p b first second m n next long em en ef w =
    let begun : List ℕ = take m p.begun in
    let same : begun ≡ begun_in p = ap (λ (k : ℕ). take k p.begun) em ∙ take_least p.length 64 p.begun long in
    let fits : m ≤ length p.begun = omega (arith, min-le_right p.length 64) in
    let size : length begun ≡ m = length-take-le m p.begun fits in
    let room : length begun + (64 - m) ≡ 64 = omega (arith, min-le_right p.length 64) in
    let more : take (64 - m) b ≡ take n b = sym (take_least (64 - m) (length b) b refl) ∙ ap (λ (k : ℕ). take k b) (min_comm (64 - m) (length b) ∙ sym en) in
    let all : take 64 (begun_in p ++ b) ≡ begun ++ take n b =
    ap₂ (λ (k : ℕ) (l : List ℕ). take k (l ++ b)) (sym room) (sym same) ∙ take-append-add begun b (64 - m) ∙ ap (λ (l : List ℕ). begun ++ l) more in
    let short : length (begun ++ take n b) ≤ 64 = omega (arith, ap length (sym all), length-take 64 (begun_in p ++ b)) in
    let width : length first ≡ 64 = ap length ef ∙ length-sets (replicate 64 0) 0 begun ∙ length-replicate {A = ℕ} 64 0 in
    let end : m ≡ 0 + length begun = omega arith in
    let kept : second ≡ sized_to 64 (take 64 (begun_in p ++ b)) =
    w.bytes ∙ ap₂ (λ (f : List ℕ) (k : ℕ). sets f k (take n b)) ef end ∙ sets-sets begun (take n b) (replicate 64 0) 0 ∙ put_padded 64 (begun ++ take n b) short ∙ ap (sized_to 64) (sym all) in
    let next_is : next ≡ length (take 64 (begun_in p ++ b)) = omega (arith, w.place, width, ap length all, length-append begun (take n b)) in
    λ i. record { lines = p.lines; length = next_is i; begun = kept i }
