-- What the steps of judging slots and of writing them give.
use Rattle.std.specs.Prelude.{cond, List, [], ◌∷◌, ℕ, ◌+◌, ◌*◌, ◌%◌, ◌^◌, ltb, get_or, replicate}
use Rattle.slots.specs.declared.slot.Slot.{Slot}
use Rattle.bits.specs.declared.words.Words.{Words}
use Rattle.bits.specs.Words.{pushed}
use Rattle.std.specs.Int.Bits.{bit_or}

-- a number of 64 bits with a field behind it: up to 63 bits of its width count
abbrev pub followed : ℕ → ℕ → ℕ → ℕ
followed n w v = bit_or (n * 2 ^ (w % 64) % 2 ^ 64) v

-- a slot's fields as one number, each in its width, the first in front
unfoldable pub slot_number : List ℕ → Slot → ℕ
slot_number ws s =
    followed (followed (followed (followed s.day (get_or ws 1 0) s.hour) (get_or ws 2 0) s.minute) (get_or ws 3 0) s.strength) (get_or ws 4 0) s.place

-- that number behind what stands, in the bits of all five
unfoldable pub slot_pushed : Words → List ℕ → Slot → Words
slot_pushed x ws s = pushed x (get_or ws 0 0 + get_or ws 1 0 + get_or ws 2 0 + get_or ws 3 0 + get_or ws 4 0) (slot_number ws s)

-- slots, one behind the other
unfoldable pub slots_pushed : Words → List ℕ → List Slot → Words
slots_pushed x ws [] = x
slots_pushed x ws (s ∷ ss) = slots_pushed (slot_pushed x ws s) ws ss

-- the widths of what slot i has, where so many slots have these widths
abbrev pub widths_in : ℕ → ℕ → List ℕ → List ℕ
widths_in i count ws = cond (ltb i count) ws (replicate 5 0)
