-- Two digits a byte.
use mathlib.Core.Path.{◌≡◌, refl, sym, ap, ◌∙◌}
use mathlib.Core.Bool.{Bool, true, false, cond}
use Prim.Native.Nat.{ℕ, zero, suc, ◌+◌, ◌*◌, ◌/◌, ◌%◌, ◌<◌}
use native.Mathlib.Omega.{arith}
use mathlib.Core.List.{List, [], ◌∷◌, ◌++◌, map}
use lib.ListN.{length, get_or, take, length-map}
use lib.Seq.{ext_get_or, get_or-take, length-take-le}
use lib.Dec.{eqb}
use Rattle.line.specs.Lines.{capital, paired, frame_of_line, halves, line_of}

even : (i : ℕ) → 2 * suc i ≡ suc (suc (2 * i))
even i = omega arith

pub odd : (i : ℕ) → 2 * suc i + 1 ≡ suc (suc (2 * i + 1))
odd i = omega arith

pub paired_at : (ds : List ℕ) (i : ℕ) → get_or (paired ds) i 0 ≡ get_or ds (2 * i) 0 * 16 + get_or ds (2 * i + 1) 0
unfolding paired
paired_at [] i = omega arith
paired_at (a ∷ []) zero = omega arith
paired_at (a ∷ []) (suc i) = rw (odd i, even i)
paired_at (a ∷ b ∷ ds) zero = refl
paired_at (a ∷ b ∷ ds) (suc i) = rw (odd i, even i) (paired_at ds i)

pub length-paired : (ds : List ℕ) → length (paired ds) ≡ (length ds + 1) / 2
unfolding paired
length-paired [] = refl
length-paired (a ∷ []) = refl
length-paired (a ∷ b ∷ ds) = omega (arith, length-paired ds)

-- bytes that are pairs, each at its place
pub paired_each : (f v : List ℕ) → length f ≡ 32 → length v ≡ 64 → ((k : ℕ) → k < 32 → get_or f k 0 ≡ get_or v (2 * k) 0 * 16 + get_or v (2 * k + 1) 0) → f ≡ paired v
paired_each f v m n each = ext_get_or 0 f (paired v) (m ∙ sym (length-paired v ∙ ap (λ (k : ℕ). (k + 1) / 2) n)) (λ k h. each k (omega arith) ∙ sym (paired_at v k))

-- a zero behind an odd number of digits changes nothing
pub paired_more : (ds : List ℕ) (n : ℕ) → length ds ≡ 2 * n + 1 → paired (ds ++ (0 ∷ [])) ≡ paired ds
unfolding paired
paired_more [] n e = absurd (omega arith)
paired_more (a ∷ []) n e = ap (λ (x : ℕ). x ∷ []) (omega arith)
paired_more (a ∷ b ∷ ds) zero e = absurd (omega arith)
paired_more (a ∷ b ∷ ds) (suc n) e = ap (λ (r : List ℕ). (a * 16 + b) ∷ r) (paired_more ds n (omega arith))

pub frame-length : (l : List ℕ) → length l ≡ 63 → length (frame_of_line l) ≡ 32
unfolding frame_of_line
frame-length l e = rw (length-paired, length-map, e)

-- ---- and back

-- digit k of a line, from the byte that has it
abbrev pub half : ℕ → ℕ → ℕ
half k b = cond (eqb (k % 2) 0) (b / 16) (b % 16)

next_half : (k b : ℕ) → half (suc (suc k)) b ≡ half k b
next_half k b = let e : suc (suc k) % 2 ≡ k % 2 = omega arith in rw e

pub halves-at : (s : List ℕ) (k : ℕ) → get_or (halves s) k 0 ≡ half k (get_or s (k / 2) 0)
unfolding halves
halves-at [] k = none (eqb (k % 2) 0)
  where
    none : (t : Bool) → 0 ≡ cond t (0 / 16) (0 % 16)
    none true = refl
    none false = refl
halves-at (b ∷ s) zero = refl
halves-at (b ∷ s) (suc zero) = refl
halves-at (b ∷ s) (suc (suc k)) = let e : suc (suc k) / 2 ≡ suc (k / 2) = omega arith in rw (e, next_half) (halves-at s k)

pub length-halves : (s : List ℕ) → length (halves s) ≡ 2 * length s
unfolding halves
length-halves [] = refl
length-halves (b ∷ s) = omega (arith, length-halves s)

pub map_at : (f : ℕ → ℕ) (l : List ℕ) (k d e : ℕ) → k < length l → get_or (map f l) k d ≡ f (get_or l k e)
map_at f [] k d e h = absurd (omega arith)
map_at f (x ∷ l) zero d e h = refl
map_at f (x ∷ l) (suc k) d e h = map_at f l k d e (omega arith)

module _ (s : List ℕ) (n : length s ≡ 32) where
  digits-length : length (take 63 (halves s)) ≡ 63
  digits-length = length-take-le 63 (halves s) (omega (arith, length-halves s))

  pub line_length : length (line_of s) ≡ 63
  unfolding line_of
  line_length = length-map (take 63 (halves s)) capital ∙ digits-length

  pub digit_at : (k : ℕ) → k < 63 → get_or (line_of s) k 0 ≡ capital (half k (get_or s (k / 2) 0))
  unfolding line_of
  digit_at k h = map_at capital (take 63 (halves s)) k 0 0 (omega (arith, digits-length)) ∙ ap capital (get_or-take 63 (halves s) k 0 h ∙ halves-at s k)
