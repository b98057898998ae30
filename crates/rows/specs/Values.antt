-- The values of a frame, row by row, and those of a time; values one behind the other.
use Rattle.std.specs.Prelude.{ℕ, zero, suc, ◌+◌, ◌*◌, ◌-◌, List, ◌∷◌, ◌++◌, map, [], get_or, length, replicate, Bool, false, true, ◌&&◌, ◌||◌, cond, eqb}
use Rattle.bits.specs.Frame.{field_of}
use Rattle.rows.specs.declared.common.Common.{Common}
use Rattle.rows.specs.declared.time.Time.{Time}
use Rattle.rows.specs.declared.fields.Spares.{Spares}
use Rattle.rows.specs.Layout.{Rule, among, rising, in_group, spare, Row, Layout, common, ending, no_category, slot_rows, Parts, Slots}

-- the values in the order of the frame, bits 8 to 225
pub record Values : Type 0 where
  pub head : List ℕ
  pub front : List ℕ
  pub slots : List (List ℕ)
  pub text : List ℕ
  pub behind : List ℕ
  pub last : List ℕ

-- f 0, f 1, .., f (n - 1)
abbrev pub each : {A : Type 0} → ℕ → (ℕ → A) → List A
each zero f = []
each (suc n) f = f 0 ∷ each n (λ i. f (suc i))

abbrev pub widths : List Row → List ℕ
widths = map (λ r. r.width)

abbrev pub cut : List ℕ → Row → ℕ
cut s r = field_of s r.first r.width

unfoldable pub values_of : List ℕ → Layout → Values
values_of s l = record {
  head = map (cut s) (common l);
  front = map (cut s) l.front;
  slots = each l.slots.count (λ i. map (cut s) (slot_rows l.slots (l.slots.first + l.slots.bits * i)));
  text = map (cut s) l.text;
  behind = map (cut s) l.behind;
  last = map (cut s) ending;
}

-- ---- parts of them

-- the values of the rows in front of the slots and behind them
pub record Sides : Type 0 where
  pub front : List ℕ
  pub behind : List ℕ

-- those of a frame
abbrev pub sides_at : List ℕ → Layout → Sides
sides_at s l = record { front = map (cut s) l.front; behind = map (cut s) l.behind }

-- ---- the spares among them

abbrev pub is_spare : Rule → Bool
is_spare (among ss) = false
is_spare (rising hi) = false
is_spare (in_group ss c) = false
is_spare (spare w) = true

abbrev pub has_spare : List Row → Bool
has_spare [] = false
has_spare (r ∷ rs) = is_spare r.rule || has_spare rs

-- the value of the first spare among rows whose values stand from the one at k on, 0 where there is none
abbrev pub spare_among : List Row → List ℕ → ℕ → ℕ
spare_among [] vs k = 0
spare_among (r ∷ rs) vs k = cond (is_spare r.rule) (get_or vs k 0) (spare_among rs vs (suc k))

-- Spare1 and Spare2
abbrev pub spares_from : Layout → Sides → Spares
spares_from l v = record { first = spare_among l.front v.front 0; second = spare_among l.behind v.behind 0 }

-- those of a frame
abbrev pub spares_at : List ℕ → Layout → Spares
spares_at s l = spares_from l (sides_at s l)

abbrev pub no_spares : Spares
no_spares = record { first = 0; second = 0 }

-- l, and zeros behind it up to n numbers
abbrev pub filled : ℕ → List ℕ → List ℕ
filled n l = l ++ replicate (n - length l) 0

-- ---- the fields of a slot that a category has

abbrev pub flags : Parts → List Bool
flags p = p.day ∷ p.hour ∷ p.minute ∷ p.strength ∷ p.place ∷ []

-- values where a flag is set, zeros elsewhere
abbrev pub spread : List Bool → List ℕ → List ℕ
spread [] vs = []
spread (false ∷ bs) vs = 0 ∷ spread bs vs
spread (true ∷ bs) [] = 0 ∷ spread bs []
spread (true ∷ bs) (v ∷ vs) = v ∷ spread bs vs

-- the widths of a slot's fields, 0 where the category does not have the field
abbrev pub part_widths : Slots → List ℕ
part_widths k = spread (flags k.parts) (widths k.rows)

-- ---- the common rows, the last ones, and a time

-- message type, Rc, Dc, month, day, hour, minute, It
abbrev pub head_values : Common → ℕ → List ℕ
head_values c dc = 43 ∷ c.rc ∷ dc ∷ c.month ∷ c.day ∷ c.hour ∷ c.minute ∷ c.it ∷ []

abbrev pub common_from : List ℕ → Common
common_from vs = record { rc = get_or vs 1 0; month = get_or vs 3 0; day = get_or vs 4 0; hour = get_or vs 5 0; minute = get_or vs 6 0; it = get_or vs 7 0 }

-- these rows stand at the same bits in every category
abbrev pub common_of : List ℕ → Common
common_of s = common_from (map (cut s) (common no_category))

-- nothing but zeros
abbrev pub no_common : Common
no_common = record { rc = 0; month = 0; day = 0; hour = 0; minute = 0; it = 0 }

-- Vn, Reserved
abbrev pub last_values : ℕ → List ℕ
last_values reserved = 1 ∷ reserved ∷ []

-- from the values at i and behind it
abbrev pub time_from : List ℕ → ℕ → Time
time_from vs i = record { day = get_or vs i 0; hour = get_or vs (i + 1) 0; minute = get_or vs (i + 2) 0 }

abbrev pub time_values : Time → List ℕ
time_values t = t.day ∷ t.hour ∷ t.minute ∷ []

-- ---- one behind the other

abbrev pub joined : List (List ℕ) → List ℕ
joined [] = []
joined (v ∷ vs) = v ++ joined vs

-- the values one behind the other
abbrev pub flat : Values → List ℕ
flat v = v.head ++ (v.front ++ (joined v.slots ++ (v.text ++ (v.behind ++ v.last))))

-- ---- compared

-- two lists are the same bytes
unfoldable pub same_bytes : List ℕ → List ℕ → Bool
same_bytes [] [] = true
same_bytes [] (b ∷ m) = false
same_bytes (a ∷ l) [] = false
same_bytes (a ∷ l) (b ∷ m) = eqb a b && same_bytes l m
