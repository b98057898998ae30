-- What this crate claims of its definitions.
use mathlib.Core.Path.{◌≡◌, refl, sym, ap, ◌∙◌}
use mathlib.Core.Bool.{true}
use mathlib.Core.Logic.{◌⊎◌}
use Prim.Native.Nat.{ℕ, ◌+◌, ◌*◌, ◌/◌, ◌^◌, ◌≤◌, ◌<◌}
use native.Mathlib.Omega.{arith}
use mathlib.Core.List.{List}
use lib.Bits.{bit_xor}
use borrow.Author.Tests.{eq-eqb, eqb-true}
use lib.ListN.{length}
use Rattle.bits.specs.Frame.{number, bytes_of, field_of, frame_in}
use Rattle.bits.proofs.Frames.{field_lt}
use Rattle.parity.specs.Parity.{step, after, parity_of, parity_of_front, parity_right}
use Rattle.parity.specs.Groups.{bits_of, register_of}
use Rattle.parity.proofs.Step.{after_lt}
use Rattle.parity.proofs.Linear.{sum, after-sum}
use Rattle.parity.proofs.Front.{parity_of_front_lem, no_parity}
use Rattle.parity.proofs.Groups.{group_more}
use Rattle.parity.proofs.EveryBit.{one_bit_counts}
use Rattle.parity.proofs.Near.{same_all-over}

-- A parity is a number of 24 bits.
pub parity_fits_its_field : (s : List ℕ) → parity_of s < 2 ^ 24
unfolding parity_of
parity_fits_its_field s = after_lt 0 (λ i. field_of s i 1) 226 (omega arith)

-- "CRC-24Q of bits 0 to 225": frames that agree in those have the same parity, whatever follows ..
pub parity_rests_on_226_bits : (s t : List ℕ) → number s / 2 ^ 30 ≡ number t / 2 ^ 30 → parity_of s ≡ parity_of t
parity_rests_on_226_bits s t e = parity_of_front_lem s ∙ ap parity_of_front e ∙ sym (parity_of_front_lem t)

-- .. and each of them counts: where two frames differ in one of those bits alone, their parities differ. So a parity of
-- 224 bits, or of any fewer, is shut out.
pub each_of_226_bits_counts : (s t : List ℕ) (k : ℕ) → k < 226 → ((i : ℕ) → i < 226 → (i ≡ k → ⊥) → field_of s i 1 ≡ field_of t i 1)
    → (field_of s k 1 ≡ field_of t k 1 → ⊥) → parity_of s ≡ parity_of t → ⊥
unfolding parity_of
each_of_226_bits_counts s t k h same n e =
    n (one_bit_counts (λ i. field_of s i 1) (λ i. field_of t i 1) k 226 h (λ i. field_lt s i 1) (λ i. field_lt t i 1) same e)

-- Frames with right parities are far apart: where two of them agree in all of their 250 bits but 24 in a row, from bit k on, they agree in these too.
pub right_frames_are_far_apart : (s t : List ℕ) (k : ℕ) → k + 23 ≤ 249 → ((i : ℕ) → i < 250 → (i < k) ⊎ (k + 23 < i) → field_of s i 1 ≡ field_of t i 1)
    → parity_of s ≡ field_of s 226 24 → parity_of t ≡ field_of t 226 24 → (i : ℕ) → i < 250 → field_of s i 1 ≡ field_of t i 1
right_frames_are_far_apart = same_all-over

-- The published check value of CRC-24Q, that of the nine bytes "123456789", here as bits 154 to 225 behind zeros: so the
-- generator is that of the paper, and bits go in the most significant first, from zero, with no change at the end.
pub crc_24q_has_its_check_value : parity_of (bytes_of (0x313233343536373839 * 2 ^ 30)) ≡ 0xCDE703
unfolding parity_of step
crc_24q_has_its_check_value = refl

-- A group is the bit rule: 24 bits taken at once are 24 steps, whatever the register holds.
pub a_group_is_24_steps : (c v : ℕ) → c < 2 ^ 24 → register_of (bit_xor c v) ≡ after c (bits_of 24 v) 24
a_group_is_24_steps c v h = sym (group_more c v (bits_of 24 v) h (λ i l. refl))

-- The register is linear: of the sum of two runs of bits, without carries, it is the sum of the registers.
pub register_is_linear : (c d : ℕ) (f g : ℕ → ℕ) (n : ℕ) → after (bit_xor c d) (sum f g) n ≡ bit_xor (after c f n) (after d g n)
register_is_linear = after-sum

-- The test says just that bits 226 to 249 hold the parity.
pub right_means_equal : (s : List ℕ) → parity_right s ≡ true → parity_of s ≡ field_of s 226 24
right_means_equal s = eqb-true (parity_of s) (field_of s 226 24)

pub equal_means_right : (s : List ℕ) → parity_of s ≡ field_of s 226 24 → parity_right s ≡ true
equal_means_right s = eq-eqb (parity_of s) (field_of s 226 24)

-- Lent bytes that are no frame have the parity of zeros, which is zero.
pub other_lengths_have_no_parity : (lent : List ℕ) → (length lent ≡ 32 → ⊥) → parity_of (frame_in lent) ≡ 0
other_lengths_have_no_parity = no_parity
