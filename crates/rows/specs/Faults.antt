-- Why values are refused: their faults, wherever they are, and the order in which document 01 asks.
use Rattle.std.specs.Prelude.{ℕ, ◌+◌, ◌≤◌, ◌≡◌, Bool, true, false, ◌⊎◌, List, ◌∷◌, []}
use Rattle.rows.specs.declared.refusal.Refusal.{Refusal}
use Rattle.rows.specs.declared.refusal.Refusal.TheVariants.{Range, Gap}
use Rattle.rows.specs.Refusals.{says}
use Rattle.rows.specs.Layout.{Row, Slots, Layout, common, ending, slot_rows}
use Rattle.rows.specs.Values.{Values}
use Rattle.rows.specs.Kept.{Keeps, Empty}

-- 8 for a field that does not keep its rule, with its value
abbrev pub RowFault : List ℕ → List Row → List ℕ → Refusal → Type 0
RowFault past [] vs x = ⊥
RowFault past (r ∷ rs) [] x = ⊥
RowFault past (r ∷ rs) (v ∷ vs) x =
    ((Keeps r.rule past v vs → ⊥) × (x ≡ Range r.first v)) ⊎ RowFault (v ∷ past) rs vs x

-- a slot behind the first that is not empty: 10 where an empty one stands before it (`gap`), and its fields' own faults
abbrev pub LaterFault : Slots → Bool → ℕ → List (List ℕ) → Refusal → Type 0
LaterFault k gap at [] x = ⊥
LaterFault k gap at (v ∷ vs) x =
    (Empty v × LaterFault k true (at + k.bits) vs x)
    ⊎ ((Empty v → ⊥) × (((gap ≡ true) × (x ≡ Gap at)) ⊎ (RowFault [] (slot_rows k at) v x ⊎ LaterFault k gap (at + k.bits) vs x)))

abbrev pub SlotsFault : Slots → List (List ℕ) → Refusal → Type 0
SlotsFault k [] x = ⊥
SlotsFault k (v ∷ vs) x = RowFault [] (slot_rows k k.first) v x ⊎ LaterFault k false (k.first + k.bits) vs x

abbrev pub Fault : Layout → Values → Refusal → Type 0
Fault l v x =
    RowFault [] (common l) v.head x
    ⊎ (RowFault [] l.front v.front x
    ⊎ (SlotsFault l.slots v.slots x
    ⊎ (RowFault [] l.text v.text x ⊎ (RowFault [] l.behind v.behind x ⊎ RowFault [] ending v.last x))))

abbrev pub place : Refusal → ℕ
place x = (says x).place

-- x is a fault, and no fault has a lower bit
pub record Lowest (l : Layout) (v : Values) (x : Refusal) : Type 0 where
  pub there : Fault l v x
  pub lowest : (y : Refusal) → Fault l v y → place x ≤ place y

infixl 71 ◌or◌
pub data Question : Type 1 where
  ◌or◌ : Type 0 → Refusal → Question

-- every question is met
abbrev pub Met : List Question → Type 0
Met [] = Unit
Met ((q or r) ∷ qs) = q × Met qs

-- x is the refusal of the first question that is not met; where all are met, the rest holds
abbrev pub First : List Question → Refusal → Type 0 → Type 0
First [] x rest = rest
First ((q or r) ∷ qs) x rest = ((q → ⊥) × (x ≡ r)) ⊎ (q × First qs x rest)
