-- The bytes of four words, one behind the other, are those of the number.
use mathlib.Core.Path.{◌≡◌, refl, sym, ap₂, ◌∙◌}
use mathlib.Core.List.{List, [], ◌∷◌, ◌++◌}
use Prim.Native.Nat.{ℕ, zero, suc, ◌+◌, ◌*◌, ◌/◌, ◌^◌, ◌<◌}
use native.Mathlib.Nat.{mod-lt, mod-eq_of_lt}
use native.Mathlib.Omega.{arith}
use lib.ListN.{length, replicate}
use Rattle.lent.specs.Numbers.{wide}
use Rattle.lent.specs.Writing.{Wrote}
use Rattle.lent.proofs.Chains.{◌then◌, whole}
use Rattle.bits.specs.declared.words.Words.{Words}
use Rattle.bits.specs.Frame.{Bytes, number, bytes_of}
use Rattle.bits.specs.Words.{value_of}
use Rattle.bits.proofs.Bytes.{number_append}
use Rattle.bits.proofs.Frames.{frame_is}
use Rattle.bits.proofs.Layouts.{encode-decode}

number-wide : (v : ℕ) → v < 2 ^ 64 → number (wide 8 v) ≡ v
number-wide v h = encode-decode (replicate 8 8) v ∙ mod-eq_of_lt h

bytes-wide : (n v : ℕ) → Bytes (wide n v)
bytes-wide zero v i = omega arith
bytes-wide (suc n) v zero = mod-lt (v / 2 ^ (8 * n)) (omega arith)
bytes-wide (suc n) v (suc i) = bytes-wide n v i

bytes_append : (s t : List ℕ) → Bytes s → Bytes t → Bytes (s ++ t)
bytes_append [] t h k i = k i
bytes_append (b ∷ s) t h k zero = h 0
bytes_append (b ∷ s) t h k (suc i) = bytes_append s t (λ j. h (suc j)) k i

module _ (x : Words) (first : x.first < 2 ^ 64) (second : x.second < 2 ^ 64) (third : x.third < 2 ^ 64) (last : x.last < 2 ^ 64) where
  abbrev two : List ℕ
  two = wide 8 x.first ++ wide 8 x.second

  abbrev three : List ℕ
  three = two ++ wide 8 x.third

  abbrev four : List ℕ
  four = three ++ wide 8 x.last

  number-four : number four ≡ value_of x
  number-four =
      number_append three (wide 8 x.last)
      ∙ ap₂ (λ (y z : ℕ). y * 2 ^ 64 + z)
      (number_append two (wide 8 x.third)
      ∙ ap₂ (λ (y z : ℕ). y * 2 ^ 64 + z)
      (number_append (wide 8 x.first) (wide 8 x.second) ∙ ap₂ (λ (y z : ℕ). y * 2 ^ 64 + z) (number-wide x.first first) (number-wide x.second second))
      (number-wide x.third third))
      (number-wide x.last last)

  bytes-four : Bytes four
  bytes-four =
      bytes_append three (wide 8 x.last)
      (bytes_append two (wide 8 x.third) (bytes_append (wide 8 x.first) (wide 8 x.second) (bytes-wide 8 x.first) (bytes-wide 8 x.second)) (bytes-wide 8 x.third))
      (bytes-wide 8 x.last)

  -- each word put where the one before it ends
  pub four_put : {l a b c d : List ℕ} {i j k n : ℕ} → length l ≡ 32 → Wrote l a 0 i (wide 8 x.first) → Wrote a b i j (wide 8 x.second) → Wrote b c j k (wide 8 x.third) → Wrote c d k n (wide 8 x.last)
      → d ≡ bytes_of (value_of x)
  four_put h e f g m = whole (sym h) (((e then f) then g) then m) ∙ frame_is four (value_of x) refl bytes-four number-four
