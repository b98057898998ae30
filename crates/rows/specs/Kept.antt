-- What it is for values to keep the rules of rows, without an order.
use Rattle.std.specs.Prelude.{ℕ, ◌+◌, ◌^◌, ◌≤◌, ◌<◌, ◌≡◌, ◌⊎◌, List, ◌∷◌, []}
use Rattle.rows.specs.Layout.{Span, ◌to◌, Codes, Member, Rule, among, rising, in_group, spare, Row, Slots, Layout, common, ending, slot_rows}
use Rattle.rows.specs.Values.{Values}

-- the value lies in one of the spans
abbrev pub In : List Span → ℕ → Type 0
In [] v = ⊥
In ((lo to hi) ∷ ss) v = ((lo ≤ v) × (v ≤ hi)) ⊎ In ss v

-- the latest of the values before a field, 0 where there is none
abbrev pub latest : List ℕ → ℕ
latest [] = 0
latest (b ∷ past) = b

-- the values start with the codes
abbrev pub StartsWith : List ℕ → List ℕ → Type 0
StartsWith [] vs = Unit
StartsWith (c ∷ cs) [] = ⊥
StartsWith (c ∷ cs) (v ∷ vs) = (v ≡ c) × StartsWith cs vs

-- each field of a group has its code
abbrev pub Together : Codes → List ℕ → ℕ → List ℕ → Type 0
Together c past v next = StartsWith c.before past × ((v ≡ c.own) × StartsWith c.behind next)

-- the value keeps the rule; `past` are the values before it, the latest first, and `next` those behind it
abbrev pub Keeps : Rule → List ℕ → ℕ → List ℕ → Type 0
Keeps (among ss) past v next = In ss v
Keeps (rising hi) past v next = (latest past ≤ v) × (v ≤ hi)
Keeps (in_group ss c) past v next = In ss v ⊎ Together c past v next
Keeps (spare w) past v next = v < 2 ^ w

-- each value keeps its row's rule
abbrev pub Kept : List ℕ → List Row → List ℕ → Type 0
Kept past [] vs = Unit
Kept past (r ∷ rs) [] = Unit
Kept past (r ∷ rs) (v ∷ vs) = Keeps r.rule past v vs × Kept (v ∷ past) rs vs

-- each value of a group lies in its normal range
abbrev pub AllNormal : List Member → List ℕ → Type 0
AllNormal [] vs = Unit
AllNormal (m ∷ ms) [] = Unit
AllNormal (m ∷ ms) (v ∷ vs) = In m.normal v × AllNormal ms vs

abbrev pub Empty : List ℕ → Type 0
Empty [] = Unit
Empty (v ∷ vs) = (v ≡ 0) × Empty vs

abbrev pub AllEmpty : List (List ℕ) → Type 0
AllEmpty [] = Unit
AllEmpty (v ∷ vs) = Empty v × AllEmpty vs

-- a slot behind the first is empty, and then every slot behind it is, or it is used, and then each of its fields is in range
abbrev pub LaterKept : Slots → ℕ → List (List ℕ) → Type 0
LaterKept k at [] = Unit
LaterKept k at (v ∷ vs) =
    (Empty v × AllEmpty vs) ⊎ ((Empty v → ⊥) × (Kept [] (slot_rows k at) v × LaterKept k (at + k.bits) vs))

-- the first slot is used
abbrev pub SlotsKept : Slots → List (List ℕ) → Type 0
SlotsKept k [] = Unit
SlotsKept k (v ∷ vs) = Kept [] (slot_rows k k.first) v × LaterKept k (k.first + k.bits) vs

pub record Holds (l : Layout) (v : Values) : Type 0 where
  pub head : Kept [] (common l) v.head
  pub front : Kept [] l.front v.front
  pub slots : SlotsKept l.slots v.slots
  pub text : Kept [] l.text v.text
  pub behind : Kept [] l.behind v.behind
  pub last : Kept [] ending v.last
