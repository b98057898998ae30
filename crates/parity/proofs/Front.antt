-- The parity rests on bits 0 to 225 alone.
use mathlib.Core.Path.{◌≡◌, refl, ap, ap₂, ◌∙◌}
use Prim.Native.Nat.{ℕ, zero, suc, ◌+◌, ◌-◌, ◌/◌, ◌%◌, ◌^◌, ◌<◌}
use native.Mathlib.Omega.{arith}
use mathlib.Core.List.{List}
use lib.ListN.{length, replicate}
use lib.Pow.{shr-shr}
use Rattle.bits.specs.Frame.{number, field_of, frame_in}
use Rattle.bits.proofs.Inside.{wrong_size, zeros_field}
use Rattle.parity.specs.Parity.{step, after, parity_of, parity_of_front}

-- the register depends on the bits that it has taken
pub after_same : (c : ℕ) (f g : ℕ → ℕ) (n : ℕ) → ((i : ℕ) → i < n → f i ≡ g i) → after c f n ≡ after c g n
after_same c f g zero h = refl
after_same c f g (suc n) h = ap₂ step (after_same c f g n (λ i l. h i (omega arith))) (h n (omega arith))

-- bit i of a frame, as bit i of its first 226
front_bit : (n i : ℕ) → i < 226 → n / 2 ^ (256 - (i + 1)) % 2 ^ 1 ≡ n / 2 ^ 30 / 2 ^ (226 - (i + 1)) % 2
front_bit n i h =
    let e : 256 - (i + 1) ≡ 30 + (226 - (i + 1)) = omega arith in
    rw (e, ← shr-shr n 30 (226 - (i + 1)))

pub parity_of_front_lem : (s : List ℕ) → parity_of s ≡ parity_of_front (number s / 2 ^ 30)
unfolding parity_of parity_of_front
parity_of_front_lem s = after_same 0 _ _ 226 (λ i h. front_bit (number s) i h)

-- bits of zero leave a register of zero
pub silent : (n : ℕ) → after 0 (λ i. 0) n ≡ 0
unfolding step
silent zero = refl
silent (suc n) = ap (λ (c : ℕ). step c 0) (silent n)

-- lent bytes that are no frame have the parity of zeros
pub no_parity : (lent : List ℕ) → (length lent ≡ 32 → ⊥) → parity_of (frame_in lent) ≡ 0
unfolding parity_of
no_parity lent l =
    ap (λ (s : List ℕ). after 0 (λ i. field_of s i 1) 226) (wrong_size lent lent (replicate 32 0) l)
    ∙ after_same 0 _ (λ i. 0) 226 (λ i h. zeros_field i 1)
    ∙ silent 226
