-- Category 8 at its bounds, in one table: sample records with one field changed, or several, and what is said of each.
use mathlib.Core.Path.{◌≡◌, refl}
use mathlib.Core.List.{List, [], ◌∷◌, map}
use Prim.Native.Nat.{ℕ}
use Rattle.rows.specs.Refusals.{at}
use Rattle.rows.specs.Runs.Verdict.{allowed, judge, walk, empty, later, slots_verdict, verdict}
use Rattle.slots.specs.declared.slot.Slot.{Slot}
use Rattle.slots.specs.Slots.{no_slot}
use Rattle.volcano.specs.declared.Activity.{Activity}
use Rattle.report.specs.Records.{values}
use Rattle.report.specs.declared.body.Body.TheVariants.{AshFall, Volcano}
use Rattle.report.proofs.PaperValues.{Outcome, said, Value, ◌gives◌, eight_at, expected, found, judged_as, passes, sample_time}

-- ---- samples

abbrev pub place : ℕ → Slot
place n = record { day = 0; hour = 0; minute = 0; strength = 0; place = n }

-- an eruption of Mount Aso, with this ambiguity at this time
abbrev pub active : ℕ → ℕ → ℕ → ℕ → Activity
active ambiguity day hour minute = record { ambiguity = ambiguity; time = record { day = day; hour = hour; minute = minute }; warning = 52; volcano = 503 }

-- the same, at a time, with another warning code and volcano
abbrev pub warned : ℕ → ℕ → Activity
warned warning volcano = record { ambiguity = 0; time = sample_time; warning = warning; volcano = volcano }

-- a report of Rc 2, issued, with these places
abbrev pub reported : Activity → List Slot → Outcome
reported a places = said (judged_as 2 0 (Volcano a) places)

-- with one place
abbrev pub activity : Activity → Outcome
activity a = reported a (place 4321400 ∷ [])

abbrev pub time : ℕ → ℕ → ℕ → Outcome
time day hour minute = activity (active 0 day hour minute)

abbrev pub classified : ℕ → ℕ → Outcome
classified rc it = said (judged_as rc it (Volcano (active 0 1 0 0)) (place 4321400 ∷ []))

abbrev pub places : List Slot → Outcome
places ss = reported (active 0 1 0 0) ss

-- ---- the table

abbrev pub volcano_values : List Value
volcano_values =
    time 0 31 63 gives passes  -- nobody knows when it was
    ∷ time 0 31 0 gives eight_at 53 0  -- mixtures: at the first field that is out of its normal range
    ∷ time 0 31 59 gives eight_at 53 0
    ∷ time 0 31 62 gives eight_at 53 0
    ∷ time 5 31 63 gives eight_at 58 31
    ∷ time 5 4 63 gives eight_at 63 63
    ∷ time 0 4 63 gives eight_at 53 0
    ∷ time 0 0 0 gives eight_at 53 0
    ∷ time 0 4 5 gives eight_at 53 0
    ∷ time 5 31 5 gives eight_at 58 31
    ∷ time 0 30 63 gives eight_at 53 0
    ∷ time 1 0 0 gives passes
    ∷ time 31 23 59 gives passes
    ∷ time 32 0 0 gives eight_at 53 32
    ∷ time 1 24 0 gives eight_at 58 24
    ∷ time 1 0 60 gives eight_at 63 60
    ∷ activity (active 7 1 0 0) gives passes  -- the ambiguity is not tied to the time
    ∷ activity (active 0 0 31 63) gives passes
    ∷ activity (active 7 0 31 63) gives passes
    ∷ activity (active 8 1 0 0) gives eight_at 50 8
    ∷ activity (active 8 0 0 0) gives eight_at 50 8
    ∷ activity (warned 0 503) gives eight_at 69 0
    ∷ activity (warned 1 503) gives passes
    ∷ activity (warned 127 503) gives passes
    ∷ activity (warned 128 503) gives eight_at 69 128
    ∷ activity (warned 52 100) gives eight_at 76 100
    ∷ activity (warned 52 101) gives passes
    ∷ activity (warned 52 4000) gives passes
    ∷ activity (warned 52 4001) gives eight_at 76 4001
    ∷ activity (warned 0 100) gives eight_at 69 0
    ∷ places [] gives eight_at 88 0  -- a first place of zero
    ∷ places (place 109999 ∷ []) gives eight_at 88 109999
    ∷ places (place 110000 ∷ []) gives passes
    ∷ places (place 4799999 ∷ []) gives passes
    ∷ places (place 4800000 ∷ []) gives eight_at 88 4800000
    ∷ places (place 4321400 ∷ place 1 ∷ []) gives eight_at 111 1
    ∷ places (place 4321400 ∷ no_slot ∷ place 4342800 ∷ []) gives said (at 10 134 0)
    ∷ places (place 4321400 ∷ no_slot ∷ place 1 ∷ []) gives said (at 10 134 0)  -- the gap before the field
    ∷ places (place 4321400 ∷ place 4321400 ∷ place 4342800 ∷ place 4343300 ∷ place 110000 ∷ []) gives passes
    ∷ places (place 4321400 ∷ place 4321400 ∷ place 4342800 ∷ place 4343300 ∷ place 109999 ∷ []) gives eight_at 180 109999
    ∷ places (no_slot ∷ place 4321400 ∷ []) gives eight_at 88 0
    ∷ classified 1 0 gives eight_at 14 1
    ∷ classified 2 0 gives passes
    ∷ classified 3 1 gives passes
    ∷ classified 4 0 gives eight_at 14 4
    ∷ classified 7 2 gives passes
    ∷ classified 2 3 gives eight_at 41 3
    ∷ said (judged_as 3 0 (AshFall (record { time = sample_time; warning = 1; volcano = 503 })) (record { day = 0; hour = 1; minute = 0; strength = 1; place = 4321400 } ∷ [])) gives eight_at 14 3 ∷ []  -- another category's Rc

pub every-row : map found volcano_values ≡ map expected volcano_values
unfolding allowed judge walk empty later slots_verdict verdict values
every-row = refl
