-- The slots of a record (document 01, "Silence in a slot" and "The record").
use Rattle.std.specs.Prelude.{Bool, ◌&&◌, cond, false, true, List, [], ◌++◌, ◌∷◌, map, ◌*◌, ◌+◌, ◌-◌, suc, zero, ℕ, eqb, ltb, get_or, replicate, take, ◌≡◌}
use Rattle.rows.specs.Layout.{Slots, slot_rows}
use Rattle.slots.specs.declared.slot.Slot.{Slot}
use Rattle.rows.specs.Values.{cut, each, flags, spread}
use Rattle.rows.specs.Runs.Verdict.{empty}

-- ---- a slot and its fields

abbrev pub no_slot : Slot
no_slot = record { day = 0; hour = 0; minute = 0; strength = 0; place = 0 }

-- all that a slot holds, in the order of the wire
abbrev pub slot_parts : Slot → List ℕ
slot_parts s = s.day ∷ s.hour ∷ s.minute ∷ s.strength ∷ s.place ∷ []

abbrev pub parts_from : List ℕ → Slot
parts_from vs = record { day = get_or vs 0 0; hour = get_or vs 1 0; minute = get_or vs 2 0; strength = get_or vs 3 0; place = get_or vs 4 0 }

-- the values at which a flag is set
abbrev pub sift : List Bool → List ℕ → List ℕ
sift [] vs = []
sift (b ∷ bs) [] = []
sift (true ∷ bs) (v ∷ vs) = v ∷ sift bs vs
sift (false ∷ bs) (v ∷ vs) = sift bs vs

-- ---- the slots of a category

-- the values of a slot's rows, and the slot that such values are: "in category 3 each slot's hour is zero"
abbrev pub slot_values : Slots → Slot → List ℕ
slot_values k s = sift (flags k.parts) (slot_parts s)

abbrev pub slot_from : Slots → List ℕ → Slot
slot_from k vs = parts_from (spread (flags k.parts) vs)

-- the slot at the bit a
abbrev pub slot_of : Slots → List ℕ → ℕ → Slot
slot_of k s a = slot_from k (map (cut s) (slot_rows k a))

-- slot i of a frame, and an empty one behind the last
abbrev pub slot_or_none : Slots → List ℕ → ℕ → Slot
slot_or_none k s i = cond (ltb i k.count) (slot_of k s (k.first + k.bits * i)) no_slot

-- the category's slots, and empty ones up to sixteen
unfoldable pub slots_of : List ℕ → Slots → List Slot
slots_of s k = each k.count (λ i. slot_of k s (k.first + k.bits * i)) ++ replicate (16 - k.count) no_slot

-- the values of its slots
abbrev pub slots_values : Slots → List Slot → List (List ℕ)
slots_values k ss = map (slot_values k) (take k.count ss)

-- ---- silence

-- 11: nothing stands in the fields without bits
unfoldable pub vacant : List ℕ → List ℕ → Bool
vacant [] vs = true
vacant (w ∷ ws) [] = true
vacant (w ∷ ws) (v ∷ vs) = cond (eqb w 0) (eqb v 0) true && vacant ws vs

-- the same as a rule
abbrev pub Vacant : List ℕ → List ℕ → Type 0
Vacant [] vs = Unit
Vacant (w ∷ ws) [] = Unit
Vacant (w ∷ ws) (v ∷ vs) = (w ≡ 0 → v ≡ 0) × Vacant ws vs

-- the first n slots have nothing in fields without bits, and the others have nothing at all
unfoldable pub tidy_slots : List ℕ → ℕ → List Slot → Bool
tidy_slots ws n [] = true
tidy_slots ws zero (s ∷ ss) = empty (slot_parts s) && tidy_slots ws zero ss
tidy_slots ws (suc n) (s ∷ ss) = vacant ws (slot_parts s) && tidy_slots ws n ss

-- how many slots are used: those before the first empty one
unfoldable pub used_among : List (List ℕ) → ℕ
used_among [] = 0
used_among (v ∷ vs) = cond (empty v) 0 (suc (used_among vs))
