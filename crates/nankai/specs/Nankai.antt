-- Category 4, Nankai Trough: table 4.1.2-18 of document 001, and what its record holds.
use Rattle.std.specs.Prelude.{[], ◌∷◌, get_or}
use Rattle.rows.specs.Layout.{row, within, rising, spare_row, bytes, two_or_seven, uncorrected, spare1, no_slots, Layout}
use Rattle.rows.specs.declared.fields.Spares.{Spares}
use Rattle.rows.specs.Values.{Sides}
use Rattle.nankai.specs.declared.PageNumbers.{PageNumbers}

abbrev pub nankai : Layout
nankai = record {
  code = 4;
  rcs = two_or_seven;
  types = uncorrected;
  front =
      spare1
      ∷ row 53 4 (within 1 15) ∷ [];  -- information serial code (Is)
  slots = no_slots;
  text = bytes 18 57;  -- text
  -- "Page total: at least the page number"
  behind =
      row 201 6 (within 1 63)  -- page number
      ∷ row 207 6 (rising 63)  -- page total
      ∷ spare_row 213 1 ∷ [];  -- second spare
}

-- what the values of the rows say
abbrev pub numbers_from : Sides → PageNumbers
numbers_from v = record { serial = get_or v.front 1 0; number = get_or v.behind 0 0; total = get_or v.behind 1 0 }

-- and the values of what they say, with those of the spares, which stand beside it in a record
abbrev pub number_values : PageNumbers → Spares → Sides
number_values p z = record { front = z.first ∷ p.serial ∷ []; behind = p.number ∷ p.total ∷ z.second ∷ [] }
