-- Every bit that the register takes counts: two runs of bits that differ in one of them lead to different registers.
use mathlib.Core.Path.{◌≡◌, refl, sym, subst, ap, ◌∙◌}
use mathlib.Core.Bool.{Bool, true, false}
use Prim.Native.Nat.{ℕ, zero, suc, ◌+◌, ◌*◌, ◌/◌, ◌%◌, ◌^◌, ◌<◌}
use native.Mathlib.Omega.{arith}
use lib.Bits.{bit_xor, xor_self, xor_lt, xor_add_and, and_le_l, and_le_r}
use lib.Dec.{eqb}
use borrow.Author.Tests.{eqb-true, eqb-false}
use Rattle.parity.specs.Parity.{generator, step, after}
use Rattle.parity.proofs.Step.{after_lt}
use Rattle.parity.proofs.Linear.{step_sum}
use Rattle.parity.proofs.Front.{after_same}

-- numbers without a difference are one
pub same_number : (a b : ℕ) → bit_xor a b ≡ 0 → a ≡ b
same_number a b e = omega (arith, e, xor_add_and a b, and_le_l a b, and_le_r a b)

-- the generator is odd, so a register that a bit of zero makes zero was zero ..
was_zero : (c q : ℕ) → c / 2 ^ 23 ≡ q → q < 2 → c * 2 % 2 ^ 24 ≡ q * (generator % 2 ^ 24) → c ≡ 0
was_zero c zero s hq h =
    let low : c < 2 ^ 23 = omega (arith, s) in
    let kept : c * 2 % 2 ^ 24 ≡ c * 2 = omega arith in
    omega (arith, h, kept)
was_zero c (suc zero) s hq h = absurd (omega arith)
was_zero c (suc (suc q)) s hq h = absurd (omega arith)

silent_register : (c : ℕ) → c < 2 ^ 24 → step c 0 ≡ 0 → c ≡ 0
unfolding step
silent_register c hc e =
    let top : (c / 2 ^ 23 + 0) % 2 ≡ c / 2 ^ 23 = omega arith in
    was_zero c (c / 2 ^ 23) refl (omega arith) (same_number _ _ e ∙ ap (λ (t : ℕ). t * (generator % 2 ^ 24)) top)

-- .. and it has bits, so a bit that leaves the register zero was zero
silent_bit : (b : ℕ) → b < 2 → step 0 b ≡ 0 → b ≡ 0
unfolding step
silent_bit zero hb e = refl
silent_bit (suc zero) hb e = absurd (omega (arith, e))
silent_bit (suc (suc b)) hb e = absurd (omega arith)

-- one step keeps registers apart ..
pub registers_apart : (c d b : ℕ) → c < 2 ^ 24 → d < 2 ^ 24 → step c b ≡ step d b → c ≡ d
registers_apart c d b hc hd e =
    let twice : 0 ≡ (b + b) % 2 = omega arith in
    same_number c d
    (silent_register (bit_xor c d) (xor_lt 24 c d hc hd)
    (ap (step (bit_xor c d)) twice ∙ step_sum c d b b ∙ ap (bit_xor (step c b)) (sym e) ∙ xor_self (step c b)))

-- .. and of one register it makes two where the bits differ
bits_apart : (c a b : ℕ) → a < 2 → b < 2 → step c a ≡ step c b → a ≡ b
bits_apart c a b ha hb e =
    let alike : (a + b) % 2 ≡ 0 =
    silent_bit ((a + b) % 2) (omega arith)
    (ap (λ (x : ℕ). step x ((a + b) % 2)) (sym (xor_self c)) ∙ step_sum c c a b ∙ ap (bit_xor (step c a)) (sym e) ∙ xor_self (step c a)) in
    omega arith

-- runs of n bits that differ in bit k alone
pub one_bit_counts : (f g : ℕ → ℕ) (k n : ℕ) → k < n → ((i : ℕ) → f i < 2) → ((i : ℕ) → g i < 2)
    → ((i : ℕ) → i < n → (i ≡ k → ⊥) → f i ≡ g i) → after 0 f n ≡ after 0 g n → f k ≡ g k
one_bit_counts f g k zero h p q same e = absurd (omega arith)
one_bit_counts f g k (suc n) h p q same e = by (eqb k n) refl (λ m before. one_bit_counts f g k n m p q (λ i l. same i (omega arith)) before)
  where
    by : (b : Bool) → eqb k n ≡ b → (k < n → after 0 f n ≡ after 0 g n → f k ≡ g k) → f k ≡ g k
    by true t r =
        let last : k ≡ n = eqb-true k n t in
        let before : after 0 f n ≡ after 0 g n = after_same 0 f g n (λ i l. same i (omega arith) (λ z. omega arith)) in
        subst (λ (i : ℕ). f i ≡ g i) (sym last)
        (bits_apart (after 0 g n) (f n) (g n) (p n) (q n) (ap (λ (x : ℕ). step x (f n)) (sym before) ∙ e))
    by false t r =
        let other : n ≡ k → ⊥ = λ z. eqb-false k n t (sym z) in
        r (omega (arith, other))
        (registers_apart (after 0 f n) (after 0 g n) (g n) (after_lt 0 f n (omega arith)) (after_lt 0 g n (omega arith))
        (ap (step (after 0 f n)) (sym (same n (omega arith) other)) ∙ e))
