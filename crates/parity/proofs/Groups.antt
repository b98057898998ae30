-- A group of 24 bits at once is 24 steps of the bit rule: the register is linear, so what it holds goes into the group.
use mathlib.Core.Path.{◌≡◌, sym, ap, ◌∙◌}
use Prim.Native.Nat.{ℕ, zero, suc, ◌+◌, ◌-◌, ◌*◌, ◌/◌, ◌%◌, ◌^◌, ◌≤◌, ◌<◌}
use native.Mathlib.Nat.{mul_assoc, pow-suc}
use native.Mathlib.Omega.{arith}
use lib.Bits.{bit_xor, xor_zero_r, xor_shr, xor_add_and}
use lib.Pow.{shr-shr, shl-shr, field}
use Rattle.parity.specs.Parity.{step, after}
use Rattle.parity.specs.Groups.{bits_of, register_of}
use Rattle.parity.proofs.Step.{step_by}
use Rattle.parity.proofs.Linear.{sum, after-sum}
use Rattle.parity.proofs.Front.{after_same}
use Rattle.parity.proofs.EveryBit.{same_number}

xor_even : (x y : ℕ) → bit_xor x y % 2 ≡ (x % 2 + y % 2) % 2
xor_even x y = omega (arith, xor_add_and x y)

bit_sum : (w a b i : ℕ) → bits_of w (bit_xor a b) i ≡ sum (bits_of w a) (bits_of w b) i
bit_sum w a b i = ap (λ (x : ℕ). x % 2) (xor_shr a b (w - (i + 1))) ∙ xor_even (a / 2 ^ (w - (i + 1))) (b / 2 ^ (w - (i + 1)))

pub register_sum : (a b : ℕ) → register_of (bit_xor a b) ≡ bit_xor (register_of a) (register_of b)
unfolding register_of
register_sum a b = after_same 0 _ _ 24 (λ i h. bit_sum 24 a b i) ∙ after-sum 0 0 (bits_of 24 a) (bits_of 24 b) 24

-- ---- what the register holds goes into the next group

-- the top bit of x, n places up, is bit n of its 24
top_bit : (x n m : ℕ) → n + m ≡ 23 → x * 2 ^ n % 2 ^ 24 / 2 ^ 23 ≡ x / 2 ^ m % 2
top_bit x n m e =
    field (x * 2 ^ n) 1 23
    ∙ ap (λ (k : ℕ). x * 2 ^ n / 2 ^ k % 2) (sym e)
    ∙ ap (λ (y : ℕ). y % 2) (sym (shr-shr (x * 2 ^ n) n m) ∙ ap (λ (y : ℕ). y / 2 ^ m) (shl-shr x n))

even_twice : (b c : ℕ) → b ≡ c → (b + c) % 2 ≡ 0
even_twice b c e = omega arith

doubled : (y : ℕ) → y % 2 ^ 24 * 2 % 2 ^ 24 ≡ y * 2 % 2 ^ 24
doubled y = omega arith

-- a register that takes its own bits goes up, and the generator is never added
own_bits : (x n : ℕ) → x < 2 ^ 24 → n ≤ 24 → after x (bits_of 24 x) n ≡ x * 2 ^ n % 2 ^ 24
own_bits x zero h l = omega arith
own_bits x (suc n) h l =
    let same : x * 2 ^ n % 2 ^ 24 / 2 ^ 23 ≡ x / 2 ^ (24 - (n + 1)) % 2 = top_bit x n (24 - (n + 1)) (omega arith) in
    ap (λ (c : ℕ). step c (bits_of 24 x n)) (own_bits x n h (omega arith))
    ∙ step_by (x * 2 ^ n % 2 ^ 24) (bits_of 24 x n) 0 (even_twice _ _ same)
    ∙ xor_zero_r (x * 2 ^ n % 2 ^ 24 * 2 % 2 ^ 24)
    ∙ doubled (x * 2 ^ n)
    ∙ ap (λ (y : ℕ). y % 2 ^ 24) (mul_assoc x (2 ^ n) 2 ∙ ap (λ (y : ℕ). x * y) (sym (pow-suc 2 n)))

-- bits of zero
abbrev pub zeros : ℕ → ℕ
zeros i = 0

-- beside zeros a run of bits is itself
beside_zeros : (w x i : ℕ) → sum zeros (bits_of w x) i ≡ bits_of w x i
beside_zeros w x i = omega arith

-- so a register that takes zeros comes to what its own bits come to
pub held : (x : ℕ) → x < 2 ^ 24 → after x zeros 24 ≡ register_of x
unfolding register_of
held x h =
    let gone : x * 2 ^ 24 % 2 ^ 24 ≡ 0 = omega arith in
    same_number _ _
    (sym (after-sum x 0 zeros (bits_of 24 x) 24)
    ∙ ap (λ (c : ℕ). after c (sum zeros (bits_of 24 x)) 24) (xor_zero_r x)
    ∙ after_same x _ _ 24 (λ i l. beside_zeros 24 x i)
    ∙ own_bits x 24 h (omega arith)
    ∙ gone)

pub group_more : (c v : ℕ) (f : ℕ → ℕ) → c < 2 ^ 24 → ((i : ℕ) → i < 24 → f i ≡ bits_of 24 v i) → after c f 24 ≡ register_of (bit_xor c v)
unfolding register_of
group_more c v f h e =
    after_same c f _ 24 (λ i l. e i l ∙ sym (beside_zeros 24 v i))
    ∙ ap (λ (x : ℕ). after x (sum zeros (bits_of 24 v)) 24) (sym (xor_zero_r c))
    ∙ after-sum c 0 zeros (bits_of 24 v) 24
    ∙ ap (λ (x : ℕ). bit_xor x (after 0 (bits_of 24 v) 24)) (held c h)
    ∙ sym (register_sum c v)
