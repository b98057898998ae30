-- Category 3, seismic intensity: table 4.1.2-14 of document 001, and what its record holds. Its slots are prefectures.
use Rattle.std.specs.Prelude.{false, true, [], ◌∷◌}
use Rattle.rows.specs.Layout.{time, within, spare_row, row, two_or_seven, uncorrected, spare1, Slots, Layout}
use Rattle.rows.specs.declared.fields.Spares.{Spares}
use Rattle.rows.specs.Values.{time_from, time_values, Sides}
use Rattle.intensity.specs.declared.Shaking.{Shaking}

-- "Sixteen slots from 69, 9 bits each: intensity (3, 1-7), then prefecture (6, 1-47)"
abbrev pub prefectures : Slots
prefectures = record {
  count = 16;
  first = 69;
  bits = 9;
  rows =
      row 0 3 (within 1 7)  -- intensity
      ∷ row 3 6 (within 1 47) ∷ [];  -- prefecture
  parts = record { day = false; hour = false; minute = false; strength = true; place = true };
}

abbrev pub intensity : Layout
intensity = record {
  code = 3;
  rcs = two_or_seven;
  types = uncorrected;
  front =
      spare1
      ∷ time 53;  -- earthquake
  slots = prefectures;
  text = [];
  behind = spare_row 213 1 ∷ [];  -- second spare
}

-- what the values of the rows say
abbrev pub shaking_from : Sides → Shaking
shaking_from v = record { time = time_from v.front 1 }

-- and the values of what they say, with those of the spares, which stand beside it in a record
abbrev pub shaking_values : Shaking → Spares → Sides
shaking_values t z = record { front = z.first ∷ time_values t.time; behind = z.second ∷ [] }
