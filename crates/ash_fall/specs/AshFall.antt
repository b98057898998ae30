-- Category 9, ash fall: table 4.1.2-35 of document 001, and what its record holds. Its slots are places.
use Rattle.std.specs.Prelude.{false, true, [], ◌∷◌, ◌++◌, get_or}
use Rattle.ash_fall.specs.declared.Eruption.{Eruption}
use Rattle.rows.specs.declared.fields.Spares.{Spares}
use Rattle.rows.specs.Values.{time_from, time_values, Sides}
use Rattle.rows.specs.Layout.{time, two_or_seven, corrected, spare1, spare_row, row, within, Slots, Layout}

-- "Four slots from 83, 29 bits each: hour (3, 1-6), strength (3, 1-7), place"
abbrev pub places : Slots
places = record {
  count = 4;
  first = 83;
  bits = 29;
  rows =
      row 0 3 (within 1 6)  -- hour
      ∷ row 3 3 (within 1 7)  -- strength
      ∷ row 6 23 (within 110000 4799999) ∷ [];  -- place
  parts = record { day = false; hour = true; minute = false; strength = true; place = true };
}

abbrev pub ash_fall : Layout
ash_fall = record {
  code = 9;
  rcs = two_or_seven;
  types = corrected;
  front =
      spare1
      ∷ time 53  -- volcanic activity
      ++ row 69 2 (within 1 2)  -- warning type
      ∷ row 71 12 (within 101 4000) ∷ [];  -- volcano
  slots = places;
  text = [];
  behind = spare_row 199 15 ∷ [];  -- second spare
}

-- what the values of the rows say
abbrev pub eruption_from : Sides → Eruption
eruption_from v = record { time = time_from v.front 1; warning = get_or v.front 4 0; volcano = get_or v.front 5 0 }

-- and the values of what they say, with those of the spares, which stand beside it in a record
abbrev pub eruption_values : Eruption → Spares → Sides
eruption_values e z = record { front = z.first ∷ time_values e.time ++ e.warning ∷ e.volcano ∷ []; behind = z.second ∷ [] }
