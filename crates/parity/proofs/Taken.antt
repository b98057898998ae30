-- The register after bits of a frame, by groups: ten bits, then 24 and 24 more.
use mathlib.Core.Path.{◌≡◌, sym, ap, ap₂, ◌∙◌}
use Prim.Native.Nat.{ℕ, zero, suc, ◌+◌, ◌-◌, ◌/◌, ◌%◌, ◌^◌, ◌≤◌, ◌<◌}
use native.Mathlib.Nat.{zero-add, add-zero, add-suc, div-eq_of_lt}
use native.Mathlib.Omega.{arith}
use mathlib.Core.List.{List}
use lib.Bits.{bit_xor}
use lib.Pow.{shr_mod}
use Rattle.bits.specs.Frame.{number, field_of}
use Rattle.bits.proofs.Windows.{window, narrower}
use Rattle.bits.proofs.Frames.{field_lt}
use Rattle.parity.specs.Parity.{step, after}
use Rattle.parity.specs.Groups.{bits_of, register_of, entry_of}
use Rattle.parity.proofs.Step.{after_lt}
use Rattle.parity.proofs.Front.{after_same, silent}
use Rattle.parity.proofs.Groups.{zeros, group_more}
use Rattle.parity.proofs.Digits.{by_digits}

-- the register after n bits of the frame s
abbrev pub taken : List ℕ → ℕ → ℕ
taken s n = after 0 (λ i. field_of s i 1) n

pub field_bit : (s : List ℕ) (a w i : ℕ) → a + w ≤ 256 → i < w → field_of s (a + i) 1 ≡ bits_of w (field_of s a w) i
field_bit s a w i h l =
    let e : 256 - (a + i + 1) ≡ 256 - (a + w) + (w - (i + 1)) = omega arith in
    ap (λ (k : ℕ). number s / 2 ^ k % 2) e ∙ sym (window (number s) (256 - (a + w)) w (w - (i + 1)) 1 (omega arith))

pub after_add : (c : ℕ) (f : ℕ → ℕ) (m n : ℕ) → after c f (m + n) ≡ after (after c f m) (λ i. f (m + i)) n
after_add c f m zero = ap (after c f) (add-zero m)
after_add c f m (suc n) = ap (after c f) (add-suc m n) ∙ ap (λ (x : ℕ). step x (f (m + n))) (after_add c f m n)

-- 24 bits more
pub next_group : (s : List ℕ) (a : ℕ) → a + 24 ≤ 256 → register_of (bit_xor (taken s a) (field_of s a 24)) ≡ taken s (a + 24)
next_group s a h =
    sym (after_add 0 (λ i. field_of s i 1) a 24
    ∙ group_more (taken s a) (field_of s a 24) (λ i. field_of s (a + i) 1) (after_lt 0 _ a (omega arith)) (λ i l. field_bit s a 24 i h l))

-- zeros in front of the bits leave no trace, so the first ten are a group
in_front : (v i : ℕ) → v < 2 ^ 10 → i < 14 → bits_of 24 v i ≡ 0
in_front v i h l =
    let more : v < 2 ^ (24 - (i + 1)) = narrower v 10 (24 - (i + 1)) h (omega arith) in
    ap (λ (x : ℕ). x % 2) (div-eq_of_lt more)

behind : (v i : ℕ) → bits_of 24 v (14 + i) ≡ bits_of 10 v i
behind v i =
    let e : 24 - (14 + i + 1) ≡ 10 - (i + 1) = omega arith in
    ap (λ (k : ℕ). v / 2 ^ k % 2) e

first_ten : (s : List ℕ) → register_of (field_of s 0 10) ≡ taken s 10
unfolding register_of
first_ten s =
    let v : ℕ = field_of s 0 10 in
    after_add 0 (bits_of 24 v) 14 10
    ∙ ap (λ (c : ℕ). after c (λ i. bits_of 24 v (14 + i)) 10)
    (after_same 0 (bits_of 24 v) zeros 14 (λ i l. in_front v i (field_lt s 0 10) l) ∙ silent 14)
    ∙ after_same 0 _ _ 10 (λ i l. behind v i ∙ sym (field_bit s 0 10 i (omega arith) l) ∙ ap (λ (k : ℕ). field_of s k 1) (zero-add i))

-- its three digits are fields
pub first_group : (s : List ℕ) → bit_xor (bit_xor (entry_of 2 (field_of s 0 2)) (entry_of 1 (field_of s 2 4))) (entry_of 0 (field_of s 6 4)) ≡ taken s 10
first_group s =
    let v : ℕ = field_of s 0 10 in
    let first : v / 2 ^ 8 ≡ field_of s 0 2 = sym (shr_mod 2 8 (field_lt s 0 10)) ∙ window (number s) 246 10 8 2 (omega arith) in
    let second : v / 2 ^ 4 % 2 ^ 4 ≡ field_of s 2 4 = window (number s) 246 10 4 4 (omega arith) in
    let third : v / 2 ^ 0 % 2 ^ 4 ≡ field_of s 6 4 = window (number s) 246 10 0 4 (omega arith) in
    sym (ap₂ bit_xor (ap₂ bit_xor (ap (entry_of 2) first) (ap (entry_of 1) second)) (ap (entry_of 0) third))
    ∙ sym (by_digits 2 v)
    ∙ first_ten s
