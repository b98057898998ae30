-- Category 11 at its bounds, in one table: sample records with one field changed, or several, and what is said of each.
use mathlib.Core.Path.{◌≡◌, refl}
use mathlib.Core.List.{List, [], ◌∷◌, map}
use Prim.Native.Nat.{ℕ}
use Rattle.rows.specs.Refusals.{at}
use Rattle.rows.specs.Runs.Verdict.{allowed, judge, walk, empty, later, slots_verdict, verdict}
use Rattle.slots.specs.declared.slot.Slot.{Slot}
use Rattle.slots.specs.Slots.{no_slot}
use Rattle.report.specs.Records.{values}
use Rattle.report.specs.declared.body.Body.TheVariants.{Flood}
use Rattle.report.proofs.PaperValues.{Outcome, said, Value, ◌gives◌, eight_at, expected, found, judged_as, passes}

-- ---- samples

abbrev pub area : ℕ → ℕ → Slot
area level region = record { day = 0; hour = 0; minute = 0; strength = level; place = region }

-- the Kinu river, with a warning
abbrev pub kinu : Slot
kinu = area 2 830303020300

-- a report of Rc 2, issued, with these areas
abbrev pub reported : List Slot → Outcome
reported areas = said (judged_as 2 0 Flood areas)

abbrev pub level : ℕ → Outcome
level n = reported (area n 830303020300 ∷ [])

abbrev pub region : ℕ → Outcome
region n = reported (area 2 n ∷ [])

abbrev pub classified : ℕ → ℕ → Outcome
classified rc it = said (judged_as rc it Flood (kinu ∷ []))

-- ---- the table

abbrev pub flood_values : List Value
flood_values =
    level 0 gives eight_at 53 0
    ∷ level 1 gives passes
    ∷ level 15 gives passes
    ∷ level 16 gives eight_at 53 16
    ∷ region 0 gives eight_at 57 0
    ∷ region 10175000099 gives eight_at 57 10175000099
    ∷ region 10175000100 gives passes
    ∷ region 899999999999 gives passes
    ∷ region 900000000000 gives eight_at 57 900000000000
    ∷ region 1099511627775 gives eight_at 57 1099511627775  -- forty bits
    ∷ region 8999999999999 gives eight_at 57 8999999999999  -- a digit more
    ∷ region 1374332172 gives eight_at 57 1374332172  -- the last 32 bits of 830303020300
    ∷ reported [] gives eight_at 53 0  -- a first area of zeros
    ∷ reported (no_slot ∷ kinu ∷ []) gives eight_at 53 0
    ∷ reported (kinu ∷ area 2 0 ∷ []) gives eight_at 101 0  -- half filled
    ∷ reported (kinu ∷ area 0 830303020300 ∷ []) gives eight_at 97 0
    ∷ reported (kinu ∷ no_slot ∷ kinu ∷ []) gives said (at 10 141 0)
    ∷ reported (kinu ∷ no_slot ∷ area 0 1 ∷ []) gives said (at 10 141 0)  -- the gap before the fields
    ∷ reported (kinu ∷ area 1 10175000100 ∷ area 15 899999999999 ∷ []) gives passes
    ∷ reported (kinu ∷ kinu ∷ area 16 1 ∷ []) gives eight_at 141 16
    ∷ reported (kinu ∷ kinu ∷ area 15 1 ∷ []) gives eight_at 145 1
    ∷ classified 1 0 gives eight_at 14 1
    ∷ classified 2 1 gives passes
    ∷ classified 3 2 gives passes
    ∷ classified 6 0 gives eight_at 14 6
    ∷ classified 7 0 gives passes
    ∷ classified 7 3 gives eight_at 41 3 ∷ []

pub every-row : map found flood_values ≡ map expected flood_values
unfolding allowed judge walk empty later slots_verdict verdict values
every-row = refl
