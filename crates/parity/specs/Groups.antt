-- The register by groups of 24 bits, for contracts of private functions alone: what they come to is `after`, the bit rule.
use Rattle.std.specs.Prelude.{ℕ, ◌+◌, ◌-◌, ◌*◌, ◌/◌, ◌%◌, ◌^◌, List, [], ◌∷◌, map}
use Rattle.parity.specs.Parity.{after}

-- bit i of the number x of w bits, the most significant first
abbrev pub bits_of : ℕ → ℕ → ℕ → ℕ
bits_of w x i = x / 2 ^ (w - (i + 1)) % 2

-- the register after the 24 bits of x, from zero
unfoldable pub register_of : ℕ → ℕ
register_of x = after 0 (bits_of 24 x) 24

-- an entry of the table: x is a hexadecimal digit with `behind` digits of zero behind it
abbrev pub entry_of : ℕ → ℕ → ℕ
entry_of behind digit = register_of (digit * 2 ^ (4 * behind))

-- the entries of a digit at the six places of a group, from the last place on
abbrev pub entries_of : ℕ → List ℕ
entries_of digit = map (λ behind. entry_of behind digit) (0 ∷ 1 ∷ 2 ∷ 3 ∷ 4 ∷ 5 ∷ [])
