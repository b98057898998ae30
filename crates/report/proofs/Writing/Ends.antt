-- The last 30 bits of a frame: 24 of parity, 6 of padding.
use mathlib.Core.Path.{◌≡◌, sym, ap, ap₂, ◌∙◌, subst}
use Prim.Native.Nat.{ℕ, ◌+◌, ◌-◌, ◌*◌, ◌/◌, ◌%◌, ◌^◌, ◌<◌}
use native.Mathlib.Nat.{div-one, add-zero}
use native.Mathlib.Omega.{arith}
use lib.Arith.{digits_lt}
use lib.Pow.{pow-add, shr-shr, shl-shr, shl_lt, split, high, low}
use Rattle.parity.specs.Parity.{parity_of_front}
use Rattle.parity.proofs.Step.{after_lt}

-- the number of a frame with the front m and the parity p
abbrev pub ended : ℕ → ℕ → ℕ
ended m p = (m * 2 ^ 24 + p) * 2 ^ 6

pub parity_lt : (m : ℕ) → parity_of_front m < 2 ^ 24
unfolding parity_of_front
parity_lt m = after_lt 0 (λ i. m / 2 ^ (226 - (i + 1)) % 2) 226 (omega arith)

-- ---- from a number

pub ended_again : (n p : ℕ) → p ≡ n / 2 ^ 6 % 2 ^ 24 → n / 1 % 2 ^ 6 ≡ 0 → ended (n / 2 ^ 30) p ≡ n
ended_again n p e z =
    let a : n / 2 ^ 30 * 2 ^ 24 + p ≡ n / 2 ^ 6 = ap₂ (λ (x y : ℕ). x * 2 ^ 24 + y) (sym (shr-shr n 6 24)) e ∙ split (n / 2 ^ 6) 24 in
    let b : n % 2 ^ 6 ≡ 0 = ap (λ (x : ℕ). x % 2 ^ 6) (sym (div-one n)) ∙ z in
    ap (λ (x : ℕ). x * 2 ^ 6) a ∙ sym (add-zero (n / 2 ^ 6 * 2 ^ 6)) ∙ ap (λ (x : ℕ). n / 2 ^ 6 * 2 ^ 6 + x) (sym b) ∙ split n 6

-- ---- from the parts

module _ (m p : ℕ) (small : p < 2 ^ 24) where
  pub ended_lt : m < 2 ^ 226 → ended m p < 2 ^ 256
  ended_lt h = shl_lt 250 6 (subst (λ (x : ℕ). m * 2 ^ 24 + p < x) (sym (pow-add 2 226 24)) (digits_lt h small))

  pub ended-front : ended m p / 2 ^ 30 ≡ m
  ended-front = sym (shr-shr (ended m p) 6 24) ∙ ap (λ (x : ℕ). x / 2 ^ 24) (shl-shr (m * 2 ^ 24 + p) 6) ∙ high m 24 small

  pub ended_parity : ended m p / 2 ^ 6 % 2 ^ 24 ≡ p
  ended_parity = ap (λ (x : ℕ). x % 2 ^ 24) (shl-shr (m * 2 ^ 24 + p) 6) ∙ low m 24 small

  pub ended_padding : ended m p / 1 % 2 ^ 6 ≡ 0
  ended_padding = ap (λ (y : ℕ). y % 2 ^ 6) (div-one (ended m p)) ∙ omega arith
