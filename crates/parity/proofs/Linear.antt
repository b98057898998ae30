-- The step, and so the register, is linear over exclusive or.
use mathlib.Core.Path.{◌≡◌, refl, sym, ap, ap₂, ◌∙◌}
use Prim.Native.Nat.{ℕ, zero, suc, ◌+◌, ◌*◌, ◌/◌, ◌%◌, ◌^◌, ◌<◌}
use native.Mathlib.Omega.{arith}
use lib.Bits.{bit_xor, xor_add_and, xor_shr, xor_mod}
use Rattle.parity.specs.Parity.{generator, step, after}
use Rattle.parity.proofs.Xor.{xor_swap, xor_up}

-- a multiple by a bit
scaled : (s t : ℕ) → s < 2 → t < 2 → bit_xor (s * (generator % 2 ^ 24)) (t * (generator % 2 ^ 24)) ≡ (s + t) % 2 * (generator % 2 ^ 24)
scaled zero t hs ht = ap (λ (x : ℕ). x * (generator % 2 ^ 24)) (omega arith)
scaled (suc zero) zero hs ht = refl
scaled (suc zero) (suc zero) hs ht = refl
scaled (suc zero) (suc (suc t)) hs ht = absurd (omega arith)
scaled (suc (suc s)) t hs ht = absurd (omega arith)

even_r : (p q : ℕ) → (p + q % 2) % 2 ≡ (p + q) % 2
even_r p q = omega arith

even_l : (p q : ℕ) → (p % 2 + q) % 2 ≡ (p + q) % 2
even_l p q = omega arith

even_m : (x y z w a b : ℕ) → z + w * 2 ≡ x + y → (z + (a + b)) % 2 ≡ (x + a + (y + b)) % 2
even_m x y z w a b h = omega arith

-- with z the sum of x and y but for carries, w of them
even : (x y z w a b : ℕ) → z + w * 2 ≡ x + y → (z + (a + b) % 2) % 2 ≡ ((x + a) % 2 + (y + b) % 2) % 2
even x y z w a b h =
    even_r z (a + b) ∙ even_m x y z w a b h ∙ sym (even_l (x + a) ((y + b) % 2) ∙ even_r (x + a) (y + b))

pub step_sum : (c d a b : ℕ) → step (bit_xor c d) ((a + b) % 2) ≡ bit_xor (step c a) (step d b)
unfolding step
step_sum c d a b =
    let s : ℕ = (c / 2 ^ 23 + a) % 2 in
    let t : ℕ = (d / 2 ^ 23 + b) % 2 in
    let up : bit_xor c d * 2 % 2 ^ 24 ≡ bit_xor (c * 2 % 2 ^ 24) (d * 2 % 2 ^ 24) =
    ap (λ (x : ℕ). x % 2 ^ 24) (sym (xor_up 1 c d)) ∙ xor_mod (c * 2) (d * 2) 24 in
    let out : (bit_xor c d / 2 ^ 23 + (a + b) % 2) % 2 ≡ (s + t) % 2 =
    ap (λ (x : ℕ). (x + (a + b) % 2) % 2) (xor_shr c d 23)
    ∙ even (c / 2 ^ 23) (d / 2 ^ 23) _ _ a b (xor_add_and (c / 2 ^ 23) (d / 2 ^ 23)) in
    ap₂ bit_xor up (ap (λ (x : ℕ). x * (generator % 2 ^ 24)) out ∙ sym (scaled s t (omega arith) (omega arith)))
    ∙ xor_swap (c * 2 % 2 ^ 24) (d * 2 % 2 ^ 24) (s * (generator % 2 ^ 24)) (t * (generator % 2 ^ 24))

-- the sum of two runs of bits, without carries
abbrev pub sum : (ℕ → ℕ) → (ℕ → ℕ) → ℕ → ℕ
sum f g i = (f i + g i) % 2

pub after-sum : (c d : ℕ) (f g : ℕ → ℕ) (n : ℕ) → after (bit_xor c d) (sum f g) n ≡ bit_xor (after c f n) (after d g n)
after-sum c d f g zero = refl
after-sum c d f g (suc n) =
    ap (λ (x : ℕ). step x ((f n + g n) % 2)) (after-sum c d f g n) ∙ step_sum (after c f n) (after d g n) (f n) (g n)
