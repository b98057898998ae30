-- Category 8, volcano: table 4.1.2-30 of document 001, and what its record holds. Its slots are places.
use Rattle.std.specs.Prelude.{false, true, List, [], ◌∷◌, ◌++◌, get_or}
use Rattle.volcano.specs.declared.Activity.{Activity}
use Rattle.rows.specs.declared.fields.Spares.{Spares}
use Rattle.rows.specs.Values.{time_from, time_values, Sides}
use Rattle.rows.specs.Layout.{Member, member, group, two_three_or_seven, corrected, spare_row, row, within, Slots, Layout}

-- "If Activity Time is unknown, activity day is 0, activity hour is 31, and activity minute is 63": the three together. The table's 0
-- of the day, "0-31", is a part of that, and of no day
abbrev pub activity_times : List Member
activity_times =
    member 5 1 31 0  -- activity day
    ∷ member 5 0 23 31  -- activity hour
    ∷ member 6 0 59 63 ∷ []  -- activity minute

-- five places from 88, 23 bits each
abbrev pub places : Slots
places = record {
  count = 5;
  first = 88;
  bits = 23;
  rows = row 0 23 (within 110000 4799999) ∷ [];  -- place
  parts = record { day = false; hour = false; minute = false; strength = false; place = true };
}

-- "Spare1: 7 bits", since the ambiguity has three of the ten that it has elsewhere
abbrev pub volcano : Layout
volcano = record {
  code = 8;
  rcs = two_three_or_seven;
  types = corrected;
  front =
      spare_row 43 7  -- first spare
      ∷ row 50 3 (within 0 7)  -- ambiguity
      ∷ group 53 activity_times
      ++ row 69 7 (within 1 127)  -- warning code
      ∷ row 76 12 (within 101 4000) ∷ [];  -- volcano
  slots = places;
  text = [];
  behind = spare_row 203 11 ∷ [];  -- second spare
}

-- what the values of the rows say
abbrev pub activity_from : Sides → Activity
activity_from v = record { ambiguity = get_or v.front 1 0; time = time_from v.front 2; warning = get_or v.front 5 0; volcano = get_or v.front 6 0 }

-- and the values of what they say, with those of the spares, which stand beside it in a record
abbrev pub activity_values : Activity → Spares → Sides
activity_values a z = record { front = z.first ∷ a.ambiguity ∷ time_values a.time ++ a.warning ∷ a.volcano ∷ []; behind = z.second ∷ [] }
