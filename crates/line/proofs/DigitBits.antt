-- Which bits a digit has.
use mathlib.Core.Path.{◌≡◌, refl, sym, ap, ◌∙◌}
use mathlib.Core.Bool.{Bool, true, false, cond}
use mathlib.Core.List.{List}
use Prim.Native.Nat.{ℕ, ◌+◌, ◌-◌, ◌*◌, ◌/◌, ◌%◌, ◌^◌, ◌<◌}
use native.Mathlib.Nat.{mod-lt}
use native.Mathlib.Omega.{arith}
use lib.ListN.{length, get_or, take}
use lib.Dec.{eqb}
use lib.Pow.{shr-shr}
use borrow.Author.Tests.{eqb-true, eqb-false}
use Rattle.bits.specs.Frame.{Bytes, number, field_of}
use Rattle.bits.proofs.Bytes.{number_shr, number_more}
use Rattle.line.specs.Lines.{worth, line_of}
use Rattle.line.proofs.DigitValues.{capital-worth}
use Rattle.line.proofs.Pairs.{half, digit_at}

high_half : (n b : ℕ) → b < 256 → (n * 256 + b) / 16 % 16 ≡ b / 16
high_half n b h = omega arith

low_half : (n b : ℕ) → (n * 256 + b) % 16 ≡ b % 16
low_half n b = omega arith

module _ (s : List ℕ) (n : length s ≡ 32) (b : Bytes s) where
  byte_last : (i : ℕ) → i < 32 → number s / 2 ^ (8 * (32 - (i + 1))) ≡ number (take i s) * 256 + get_or s i 0
  byte_last i h = rw n at (number_shr s (i + 1) (omega arith) b) ∙ number_more s i (omega arith)

  by_half : (k : ℕ) (t : Bool) → k < 64 → eqb (k % 2) 0 ≡ t → cond t (get_or s (k / 2) 0 / 16) (get_or s (k / 2) 0 % 16) ≡ field_of s (4 * k) 4
  by_half k true h e =
      let even : k % 2 ≡ 0 = eqb-true (k % 2) 0 e in
      let p : 256 - (4 * k + 4) ≡ 8 * (32 - (k / 2 + 1)) + 4 = omega arith in
      rw (p, ← shr-shr (number s) (8 * (32 - (k / 2 + 1))) 4, byte_last (k / 2) (omega arith)) (sym (high_half (number (take (k / 2) s)) (get_or s (k / 2) 0) (b (k / 2))))
  by_half k false h e =
      let p : 256 - (4 * k + 4) ≡ 8 * (32 - (k / 2 + 1)) = omega (arith, eqb-false (k % 2) 0 e) in
      rw (p, byte_last (k / 2) (omega arith)) (sym (low_half (number (take (k / 2) s)) (get_or s (k / 2) 0)))

  pub half_field : (k : ℕ) → k < 64 → half k (get_or s (k / 2) 0) ≡ field_of s (4 * k) 4
  half_field k h = by_half k (eqb (k % 2) 0) h refl

  pub digit_field : (k : ℕ) → k < 63 → worth (get_or (line_of s) k 0) ≡ field_of s (4 * k) 4
  digit_field k h =
      let below : half k (get_or s (k / 2) 0) < 16 = rw (half_field k (omega arith)) (mod-lt (number s / 2 ^ (256 - (4 * k + 4))) (omega arith)) in
      ap worth (digit_at s n k h) ∙ capital-worth (half k (get_or s (k / 2) 0)) below ∙ half_field k (omega arith)
