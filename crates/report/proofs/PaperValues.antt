-- "Values to prove" of document 01 in one table: sample records with one field changed, and what the paper says of each.
use Rattle.std.specs.Prelude.{Option, ℕ, Some, None}
use Rattle.intensity.specs.Intensity.{prefectures}
use mathlib.Core.Path.{◌≡◌, refl}
use mathlib.Core.List.{List, [], ◌∷◌, ◌++◌, map}
use Prim.Native.Nat.{ℕ, ◌-◌}
use lib.ListN.{length, replicate}
use Rattle.bits.specs.Layout.{encode}
use Rattle.rows.specs.declared.time.Time.{Time}
use Rattle.hypocenter.specs.declared.angle.Angle.{Angle}
use Rattle.slots.specs.declared.slot.Slot.{Slot}
use Rattle.ash_fall.specs.Meaning.{prefecture_of}
use Rattle.rows.specs.declared.refusal.Said.{Said}
use Rattle.rows.specs.Refusals.{at, plain, answers}
use Rattle.rows.specs.Layout.{Row}
use Rattle.rows.specs.Values.{no_spares}
use Rattle.rows.specs.Runs.Verdict.{allowed, judge, walk, empty, later, slots_verdict, verdict}
use Rattle.slots.specs.Slots.{no_slot, slot_values}
use Rattle.report.specs.Records.{values}
use Rattle.report.specs.declared.body.Body.{Body}
use Rattle.report.specs.declared.body.Body.TheVariants.{Hypocenter, Intensity, Nankai}
use Rattle.report.specs.Categories.{layout}

-- ---- samples

-- the first day of a month, midnight
abbrev pub sample_time : Time
sample_time = record { day = 1; hour = 0; minute = 0 }

abbrev pub angle : ℕ → Angle
angle degrees = record { side = 0; degrees = degrees; minutes = 0; seconds = 0 }

-- what is found in a record with this Rc and this It: its number, place and value
abbrev pub judged_as : ℕ → ℕ → Body → List Slot → Said
judged_as rc it body slots = answers (verdict (layout body) (values (record {
  preamble = 0x53;
  reserved = 0;
  common = record { rc = rc; month = 1; day = 1; hour = 0; minute = 0; it = it };
  body = body;
  slots = slots ++ replicate (16 - length slots) no_slot;
  text = replicate 18 0;
  spares = no_spares;
})))

abbrev pub judged : Body → List Slot → Said
judged body slots = judged_as 2 0 body slots

-- what a value is compared with
pub data Outcome : Type 0 where
  said : Said → Outcome
  number : ℕ → Outcome

-- an earthquake of category 2
abbrev pub quake : ℕ → ℕ → ℕ → ℕ → ℕ → Outcome
quake notification depth magnitude epicenter degrees = said (judged (Hypocenter (record {
  notification1 = notification;
  notification2 = 0;
  notification3 = 0;
  time = sample_time;
  depth = depth;
  magnitude = magnitude;
  epicenter = epicenter;
  latitude = angle 0;
  longitude = angle degrees;
})) (no_slot ∷ no_slot ∷ []))

abbrev pub notification : ℕ → Outcome
notification n = quake n 10 50 100 140

abbrev pub depth : ℕ → Outcome
depth n = quake 101 n 50 100 140

abbrev pub magnitude : ℕ → Outcome
magnitude n = quake 101 10 n 100 140

abbrev pub epicenter : ℕ → Outcome
epicenter n = quake 101 10 50 n 140

abbrev pub longitude_degrees : ℕ → Outcome
longitude_degrees n = quake 101 10 50 100 n

-- a slot of category 3
abbrev pub slot : ℕ → ℕ → Slot
slot intensity prefecture = record { day = 0; hour = 0; minute = 0; strength = intensity; place = prefecture }

abbrev pub second_slot : Slot → Outcome
second_slot s = said (judged (Intensity (record { time = sample_time })) (slot 4 44 ∷ s ∷ []))

-- the nine bits of a slot of category 3 as one number, in the widths of the table
abbrev pub slot_value : Slot → Outcome
slot_value s = number (encode (map (λ (r : Row). r.width) prefectures.rows) (slot_values prefectures s))

-- "A place divided by 100000, remainder dropped, is its prefecture"
abbrev pub numbered : Option ℕ → Outcome
numbered (Some n) = number n
numbered None = said (plain 0)

abbrev pub prefecture : ℕ → Outcome
prefecture place = numbered (prefecture_of place)

-- a page of category 4
abbrev pub page : ℕ → ℕ → Outcome
page n total = said (judged (Nankai (record { serial = 1; number = n; total = total })) (no_slot ∷ no_slot ∷ []))

-- ---- the table

abbrev pub passes : Outcome
passes = said (plain 0)

abbrev pub eight_at : ℕ → ℕ → Outcome
eight_at p v = said (at 8 p v)

infixl 71 ◌gives◌
pub data Value : Type 0 where
  ◌gives◌ : Outcome → Outcome → Value

abbrev pub paper_values : List Value
paper_values =
    depth 501 gives passes  -- P1
    ∷ depth 502 gives eight_at 96 502
    ∷ depth 510 gives eight_at 96 510  -- P2
    ∷ depth 511 gives passes
    ∷ magnitude 0 gives eight_at 105 0  -- P3
    ∷ magnitude 101 gives passes
    ∷ magnitude 102 gives eight_at 105 102  -- P4
    ∷ magnitude 125 gives eight_at 105 125
    ∷ magnitude 126 gives passes
    ∷ notification 100 gives eight_at 53 100  -- P5
    ∷ notification 101 gives passes
    ∷ notification 500 gives passes  -- P6
    ∷ notification 501 gives eight_at 53 501
    ∷ epicenter 10 gives eight_at 112 10  -- P7
    ∷ epicenter 1000 gives passes
    ∷ longitude_degrees 179 gives passes  -- P8
    ∷ longitude_degrees 180 gives eight_at 143 180
    ∷ slot_value (slot 4 44) gives number 300  -- P9
    ∷ prefecture 4321400 gives number 43  -- P10
    ∷ page 1 0 gives eight_at 207 0  -- P11
    ∷ second_slot (slot 3 0) gives eight_at 81 0 ∷ []  -- P12

-- the two sides of the table
abbrev pub found : Value → Outcome
found (a gives b) = a

abbrev pub expected : Value → Outcome
expected (a gives b) = b

pub every-row : map found paper_values ≡ map expected paper_values
unfolding allowed judge walk empty later slots_verdict verdict values prefecture_of
every-row = refl
