-- Category 5 at its bounds, in one table: sample records with one field changed, and what is said of each.
use mathlib.Core.Path.{◌≡◌, refl}
use mathlib.Core.List.{List, [], ◌∷◌, map}
use Prim.Native.Nat.{ℕ}
use Rattle.rows.specs.Refusals.{at}
use Rattle.rows.specs.Runs.Verdict.{allowed, judge, walk, empty, later, slots_verdict, verdict}
use Rattle.slots.specs.declared.slot.Slot.{Slot}
use Rattle.slots.specs.Slots.{no_slot}
use Rattle.tsunami.specs.declared.Warning.{Warning}
use Rattle.report.specs.Records.{values}
use Rattle.report.specs.declared.body.Body.TheVariants.{Intensity, Tsunami}
use Rattle.report.proofs.PaperValues.{Outcome, said, Value, ◌gives◌, eight_at, expected, found, judged_as, passes, sample_time, slot}

-- ---- samples

abbrev pub area : ℕ → ℕ → ℕ → ℕ → ℕ → Slot
area day hour minute height region = record { day = day; hour = hour; minute = minute; strength = height; place = region }

abbrev pub warned : ℕ → ℕ → ℕ → ℕ → Warning
warned first second third code = record { notification1 = first; notification2 = second; notification3 = third; code = code }

-- a report of Rc 1, issued, with these areas
abbrev pub reported : List Slot → Outcome
reported areas = said (judged_as 1 0 (Tsunami (warned 122 0 0 3)) areas)

-- the first area has this arrival, or the second one
abbrev pub arrival : ℕ → ℕ → Outcome
arrival hour minute = reported (area 0 hour minute 3 600 ∷ [])

abbrev pub later_arrival : ℕ → ℕ → Outcome
later_arrival hour minute = reported (area 0 4 5 3 600 ∷ area 0 hour minute 3 610 ∷ [])

abbrev pub day : ℕ → Outcome
day n = reported (area n 4 5 3 600 ∷ [])

abbrev pub height : ℕ → Outcome
height n = reported (area 0 4 5 n 600 ∷ [])

abbrev pub region : ℕ → Outcome
region n = reported (area 0 4 5 3 n ∷ [])

abbrev pub classified : ℕ → ℕ → Outcome
classified rc it = said (judged_as rc it (Tsunami (warned 122 0 0 3)) (area 0 4 5 3 600 ∷ []))

abbrev pub warning : Warning → Outcome
warning w = said (judged_as 1 0 (Tsunami w) (area 0 4 5 3 600 ∷ []))

-- ---- the table

abbrev pub tsunami_values : List Value
tsunami_values =
    arrival 31 63 gives passes  -- the wave has arrived
    ∷ arrival 31 59 gives eight_at 85 31
    ∷ arrival 31 60 gives eight_at 85 31
    ∷ arrival 24 63 gives eight_at 85 24
    ∷ arrival 5 63 gives eight_at 90 63
    ∷ arrival 0 0 gives passes
    ∷ arrival 23 59 gives passes
    ∷ arrival 24 59 gives eight_at 85 24
    ∷ arrival 23 60 gives eight_at 90 60
    ∷ later_arrival 31 63 gives passes
    ∷ later_arrival 31 59 gives eight_at 111 31
    ∷ later_arrival 5 63 gives eight_at 116 63
    ∷ reported (area 1 31 63 3 600 ∷ []) gives passes  -- the day is no part of it
    ∷ day 1 gives passes
    ∷ day 2 gives eight_at 84 2
    ∷ height 0 gives eight_at 96 0
    ∷ height 1 gives passes
    ∷ height 14 gives passes  -- unknown
    ∷ height 15 gives passes
    ∷ height 16 gives eight_at 96 16
    ∷ region 99 gives eight_at 100 99
    ∷ region 100 gives passes
    ∷ region 1000 gives passes
    ∷ region 1001 gives eight_at 100 1001
    ∷ reported [] gives eight_at 96 0  -- a first area of zeros
    ∷ reported (area 0 4 5 3 600 ∷ area 1 0 0 0 0 ∷ []) gives eight_at 122 0  -- the day bit alone
    ∷ reported (area 0 4 5 3 600 ∷ no_slot ∷ area 1 0 0 0 0 ∷ []) gives said (at 10 136 0)
    ∷ classified 1 0 gives passes
    ∷ classified 2 0 gives eight_at 14 2
    ∷ classified 3 2 gives passes
    ∷ classified 7 0 gives passes
    ∷ classified 1 1 gives eight_at 41 1
    ∷ said (judged_as 1 0 (Intensity (record { time = sample_time })) (slot 4 44 ∷ [])) gives eight_at 14 1  -- another category's Rc
    ∷ warning (warned 100 0 0 3) gives eight_at 53 100
    ∷ warning (warned 0 501 0 3) gives eight_at 62 501
    ∷ warning (warned 0 0 100 3) gives eight_at 71 100
    ∷ warning (warned 0 101 500 15) gives passes
    ∷ warning (warned 0 0 0 0) gives eight_at 80 0
    ∷ warning (warned 0 0 0 16) gives eight_at 80 16 ∷ []

pub every-row : map found tsunami_values ≡ map expected tsunami_values
unfolding allowed judge walk empty later slots_verdict verdict values
every-row = refl
