-- The one-bit step: by the test's outcome, and how large the register gets.
use mathlib.Core.Path.{◌≡◌, ap}
use Prim.Native.Nat.{ℕ, zero, suc, ◌+◌, ◌*◌, ◌/◌, ◌%◌, ◌^◌, ◌<◌}
use native.Mathlib.Omega.{arith}
use lib.Bits.{bit_xor, xor_lt}
use Rattle.parity.specs.Parity.{generator, step, after}

-- a step with the test's outcome named
pub step_by : (c b t : ℕ) → (c / 2 ^ 23 + b) % 2 ≡ t → step c b ≡ bit_xor (c * 2 % 2 ^ 24) (t * (generator % 2 ^ 24))
unfolding step
step_by c b t e = ap (λ (t : ℕ). bit_xor (c * 2 % 2 ^ 24) (t * (generator % 2 ^ 24))) e

step_lt : (c b : ℕ) → step c b < 2 ^ 24
unfolding step
step_lt c b = xor_lt 24 (c * 2 % 2 ^ 24) ((c / 2 ^ 23 + b) % 2 * (generator % 2 ^ 24)) (omega arith) (omega arith)

pub after_lt : (c : ℕ) (f : ℕ → ℕ) (n : ℕ) → c < 2 ^ 24 → after c f n < 2 ^ 24
after_lt c f zero h = h
after_lt c f (suc n) h = step_lt (after c f n) (f n)
