-- Category 2, hypocenter: table 4.1.2-12 of document 001, what its record holds and what its numbers say.
use Rattle.std.specs.Prelude.{ℕ, ◌+◌, ◌&&◌, cond, List, [], ◌∷◌, ◌++◌, eqb, leb, get_or}
use Rattle.hypocenter.specs.declared.angle.Angle.{Angle}
use Rattle.hypocenter.specs.declared.Quake.{Quake}
use Rattle.rows.specs.Layout.{◌to◌, time, notifications, within, among, spare_row, two_or_seven, uncorrected, spare1, no_slots, row, Rule, Row, Layout}
use Rattle.hypocenter.specs.declared.meaning.Depth.{Depth}
use Rattle.hypocenter.specs.declared.meaning.Depth.TheVariants.{Kilometres, Deeper, Unknown, OutOfRange}
use Rattle.hypocenter.specs.declared.meaning.Magnitude.{Magnitude}
use Rattle.rows.specs.declared.fields.Spares.{Spares}
use Rattle.rows.specs.Values.{time_from, time_values, Sides}
use Rattle.hypocenter.specs.declared.meaning.Magnitude.TheVariants.{InRange, UnknownAboveEight, Unknown as NoMagnitude, OutOfRange as NotAMagnitude}

abbrev pub depth : Rule
depth = among (0 to 501 ∷ 511 to 511 ∷ [])

abbrev pub magnitude : Rule
magnitude = among (1 to 101 ∷ 126 to 126 ∷ 127 to 127 ∷ [])

-- a latitude or a longitude, its degrees in so many bits and at most so many
abbrev pub angle : ℕ → ℕ → ℕ → List Row
angle a w most =
    row a 1 (within 0 1)  -- side
    ∷ row (a + 1) w (within 0 most)  -- degrees
    ∷ row (a + 1 + w) 6 (within 0 59)  -- minutes
    ∷ row (a + 7 + w) 6 (within 0 59) ∷ []  -- seconds

abbrev pub hypocenter : Layout
hypocenter = record {
  code = 2;
  rcs = two_or_seven;
  types = uncorrected;
  front =
      spare1
      ∷ notifications
      ++ time 80  -- earthquake
      ++ row 96 9 depth  -- depth
      ∷ row 105 7 magnitude  -- magnitude
      ∷ row 112 10 (within 11 1000)  -- epicenter
      ∷ angle 122 7 89  -- latitude
      ++ angle 142 8 179;  -- longitude
  slots = no_slots;
  text = [];
  behind = spare_row 163 51 ∷ [];  -- second spare
}

-- ---- what the values of the rows say

abbrev pub angle_from : List ℕ → ℕ → Angle
angle_from vs i = record { side = get_or vs i 0; degrees = get_or vs (i + 1) 0; minutes = get_or vs (i + 2) 0; seconds = get_or vs (i + 3) 0 }

abbrev pub quake_from : Sides → Quake
quake_from v = record {
  notification1 = get_or v.front 1 0;
  notification2 = get_or v.front 2 0;
  notification3 = get_or v.front 3 0;
  time = time_from v.front 4;
  depth = get_or v.front 7 0;
  magnitude = get_or v.front 8 0;
  epicenter = get_or v.front 9 0;
  latitude = angle_from v.front 10;
  longitude = angle_from v.front 14;
}

-- ---- and the values of what they say

abbrev pub angle_values : Angle → List ℕ
angle_values a = a.side ∷ a.degrees ∷ a.minutes ∷ a.seconds ∷ []

-- with those of the spares, which stand beside it in a record
abbrev pub quake_values : Quake → Spares → Sides
quake_values q z = record {
  front =
      z.first
      ∷ q.notification1
      ∷ q.notification2
      ∷ q.notification3
      ∷ time_values q.time
      ++ q.depth
      ∷ q.magnitude
      ∷ q.epicenter
      ∷ angle_values q.latitude
      ++ angle_values q.longitude;
  behind = z.second ∷ [];
}

-- "Depth 0 is a depth; 511 is unknown and 501 means deeper than 500 km"
unfoldable pub depth_of : ℕ → Depth
depth_of code = cond (leb code 500) (Kilometres code) (cond (eqb code 501) Deeper (cond (eqb code 511) Unknown OutOfRange))

-- "Magnitude 127 is unknown, 126 is above 8.0 where no moment magnitude is known"
unfoldable pub magnitude_of : ℕ → Magnitude
magnitude_of code =
    cond (leb 1 code && leb code 101) (InRange code) (cond (eqb code 126) UnknownAboveEight (cond (eqb code 127) NoMagnitude NotAMagnitude))
