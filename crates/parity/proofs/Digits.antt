-- A group may be cut into digits: the register after it is the sum of what each digit leaves.
use mathlib.Core.Path.{◌≡◌, sym, ap, ◌∙◌}
use Prim.Native.Nat.{ℕ, zero, suc, ◌+◌, ◌*◌, ◌/◌, ◌%◌, ◌^◌}
use native.Mathlib.Nat.{mul_assoc, mod-lt}
use native.Mathlib.Omega.{arith}
use lib.Bits.{bit_xor, xor_shifted}
use lib.Pow.{pow_pos, pow-add, split, shr-shr}
use Rattle.parity.specs.Groups.{register_of, entry_of}
use Rattle.parity.proofs.Xor.{xor_up}
use Rattle.parity.proofs.Groups.{register_sum}

-- the last digit of y, and those before it
digit_more : (n y : ℕ) → entry_of n y ≡ bit_xor (entry_of (suc n) (y / 2 ^ 4)) (entry_of n (y % 2 ^ 4))
digit_more n y =
    let places : 4 * suc n ≡ 4 + 4 * n = omega arith in
    let up : y / 2 ^ 4 * 2 ^ (4 * suc n) ≡ y / 2 ^ 4 * 2 ^ 4 * 2 ^ (4 * n) =
    ap (λ (k : ℕ). y / 2 ^ 4 * 2 ^ k) places ∙ ap (λ (z : ℕ). y / 2 ^ 4 * z) (pow-add 2 4 (4 * n)) ∙ sym (mul_assoc (y / 2 ^ 4) (2 ^ 4) (2 ^ (4 * n))) in
    ap register_of
    (ap (λ (x : ℕ). x * 2 ^ (4 * n)) (sym (xor_shifted (y / 2 ^ 4) 4 (y % 2 ^ 4) (mod-lt y (pow_pos 4)) ∙ split y 4))
    ∙ sym (xor_up (4 * n) (y / 2 ^ 4 * 2 ^ 4) (y % 2 ^ 4))
    ∙ ap (λ (x : ℕ). bit_xor x (y % 2 ^ 4 * 2 ^ (4 * n))) (sym up))
    ∙ register_sum (y / 2 ^ 4 * 2 ^ (4 * suc n)) (y % 2 ^ 4 * 2 ^ (4 * n))

-- the entries of the last n digits of x, added to `top`, from the first on
abbrev pub digits_added : ℕ → ℕ → ℕ → ℕ
digits_added zero top x = top
digits_added (suc n) top x = digits_added n (bit_xor top (entry_of n (x / 2 ^ (4 * n) % 2 ^ 4))) x

pub by_digits : (n x : ℕ) → register_of x ≡ digits_added n (entry_of n (x / 2 ^ (4 * n))) x
by_digits zero x = ap register_of (omega arith)
by_digits (suc n) x =
    let places : 4 * n + 4 ≡ 4 * suc n = omega arith in
    by_digits n x
    ∙ ap (λ (t : ℕ). digits_added n t x)
    (digit_more n (x / 2 ^ (4 * n))
    ∙ ap (λ (y : ℕ). bit_xor (entry_of (suc n) y) (entry_of n (x / 2 ^ (4 * n) % 2 ^ 4))) (shr-shr x (4 * n) 4 ∙ ap (λ (k : ℕ). x / 2 ^ k) places))
