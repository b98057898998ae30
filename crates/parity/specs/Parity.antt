-- The parity of a frame (document 01, "The frame on the wire"): CRC-24Q of bits 0 to 225. "Generator 1864CFB hexadecimal,
-- starts from zero, takes bits most significant first and has no final change."
use Rattle.std.specs.Prelude.{ℕ, zero, suc, ◌+◌, ◌-◌, ◌*◌, ◌/◌, ◌%◌, ◌^◌, Bool, List, eqb}
use Rattle.std.specs.Int.Bits.{bit_xor}
use Rattle.bits.specs.Frame.{field_of}

-- the polynomial's 25 coefficients, from that of x^24 down to that of 1
abbrev pub generator : ℕ
generator = 0x1864CFB

-- one bit b: the register goes up a place, and where the bit that leaves it at the top differs from b, the generator's
-- lower 24 bits are added without carries
unfoldable pub step : ℕ → ℕ → ℕ
step register b = bit_xor (register * 2 % 2 ^ 24) ((register / 2 ^ 23 + b) % 2 * (generator % 2 ^ 24))

-- the register after the bits f 0, .., f (n - 1), from c
abbrev pub after : ℕ → (ℕ → ℕ) → ℕ → ℕ
after c f zero = c
after c f (suc n) = step (after c f n) (f n)

-- the parity that bits 0 to 225 of a frame ask for
unfoldable pub parity_of : List ℕ → ℕ
parity_of s = after 0 (λ i. field_of s i 1) 226

-- the same of those 226 bits as one number, where there is no frame yet: bit i has 225 - i bits behind it
unfoldable pub parity_of_front : ℕ → ℕ
parity_of_front n = after 0 (λ i. n / 2 ^ (226 - (i + 1)) % 2) 226

-- the parity is right: bits 226 to 249 hold it
abbrev pub parity_right : List ℕ → Bool
parity_right s = eqb (parity_of s) (field_of s 226 24)
