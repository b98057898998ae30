-- Category 11, flood: table 4.1.2-43 of document 001, and the values of its spares. All that it says stands in its slots, which are areas.
use Rattle.std.specs.Prelude.{false, true, [], ◌∷◌}
use Rattle.rows.specs.declared.fields.Spares.{Spares}
use Rattle.rows.specs.Values.{Sides}
use Rattle.rows.specs.Layout.{two_three_or_seven, corrected, spare1, spare_row, row, within, Slots, Layout}

-- three areas from 53, 44 bits each
abbrev pub areas : Slots
areas = record {
  count = 3;
  first = 53;
  bits = 44;
  rows =
      row 0 4 (within 1 15)  -- level
      ∷ row 4 40 (within 10175000100 899999999999) ∷ [];  -- region
  parts = record { day = false; hour = false; minute = false; strength = true; place = true };
}

abbrev pub flood : Layout
flood = record {
  code = 11;
  rcs = two_three_or_seven;
  types = corrected;
  front = spare1 ∷ [];
  slots = areas;
  text = [];
  behind = spare_row 185 29 ∷ [];  -- second spare
}

-- the values of the rows outside the areas: those of the spares, which stand in a record beside what a category says
abbrev pub flood_sides : Spares → Sides
flood_sides z = record { front = z.first ∷ []; behind = z.second ∷ [] }
