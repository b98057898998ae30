-- Category 5, tsunami: table 4.1.2-21 of document 001, and what its record holds. Its slots are areas.
use Rattle.std.specs.Prelude.{true, List, [], ◌∷◌, ◌++◌, get_or}
use Rattle.tsunami.specs.declared.Warning.{Warning}
use Rattle.rows.specs.declared.fields.Spares.{Spares}
use Rattle.rows.specs.Values.{Sides}
use Rattle.rows.specs.Layout.{◌to◌, Span, Member, member, group, notifications, uncorrected, spare1, row, within, Slots, Layout}

-- "Rc: 1, 3, 7"
abbrev pub classifications : List Span
classifications = 1 to 1 ∷ 3 to 3 ∷ 7 to 7 ∷ []

-- arrival hour and minute: "0-23, 31" and "0-59, 63", and 31 with 63 alone
abbrev pub arrivals : List Member
arrivals =
    member 5 0 23 31  -- arrival hour
    ∷ member 6 0 59 63 ∷ []  -- arrival minute

-- five areas from 84, 26 bits each
abbrev pub areas : Slots
areas = record {
  count = 5;
  first = 84;
  bits = 26;
  rows =
      row 0 1 (within 0 1)  -- arrival day
      ∷ group 1 arrivals
      ++ row 12 4 (within 1 15)  -- height
      ∷ row 16 10 (within 100 1000) ∷ [];  -- region
  parts = record { day = true; hour = true; minute = true; strength = true; place = true };
}

abbrev pub tsunami : Layout
tsunami = record {
  code = 5;
  rcs = classifications;
  types = uncorrected;
  front =
      spare1
      ∷ notifications
      ++ row 80 4 (within 1 15) ∷ [];  -- warning code
  slots = areas;
  text = [];
  behind = [];
}

-- what the values of the rows say
abbrev pub warning_from : Sides → Warning
warning_from v = record {
  notification1 = get_or v.front 1 0;
  notification2 = get_or v.front 2 0;
  notification3 = get_or v.front 3 0;
  code = get_or v.front 4 0;
}

-- and the values of what they say, with that of the first spare, which stands beside it in a record; there is no second one
abbrev pub warning_values : Warning → Spares → Sides
warning_values w z = record { front = z.first ∷ w.notification1 ∷ w.notification2 ∷ w.notification3 ∷ w.code ∷ []; behind = [] }
