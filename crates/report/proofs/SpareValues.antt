-- Spares at their bounds, in one table: the sample of each category with other spares, and what writing says of it.
use mathlib.Core.Path.{◌≡◌, refl}
use mathlib.Core.List.{List, [], ◌∷◌, map}
use Prim.Native.Nat.{ℕ, ◌-◌, ◌^◌}
use lib.ListN.{get_or}
use Rattle.rows.specs.declared.common.Common.{Common}
use Rattle.rows.specs.Refusals.{answers, plain}
use Rattle.rows.specs.Runs.Verdict.{allowed, judge, walk, empty, later, slots_verdict, verdict}
use Rattle.slots.specs.declared.slot.Slot.{Slot}
use Rattle.slots.specs.Slots.{tidy_slots, vacant}
use Rattle.report.specs.declared.record.Record.{Record}
use Rattle.report.specs.Records.{values, zeros}
use Rattle.report.specs.Runs.Writing.{write_answer}
use Rattle.report.proofs.Categories.{samples}
use Rattle.report.proofs.PaperValues.{Outcome, said, Value, ◌gives◌, eight_at, expected, found, passes}
use Rattle.report.proofs.Spares.{sparing}

-- ---- samples

-- which of the samples has the category
abbrev hypocenter : ℕ
hypocenter = 0

abbrev intensity : ℕ
intensity = 1

abbrev nankai : ℕ
nankai = 2

abbrev tsunami : ℕ
tsunami = 3

abbrev volcano : ℕ
volcano = 4

abbrev ash_fall : ℕ
ash_fall = 5

abbrev flood : ℕ
flood = 6

-- the sample of a category with these spares
abbrev spared : ℕ → ℕ → ℕ → Record
spared k first second = sparing (get_or samples k zeros) (record { first = first; second = second })

abbrev pub written : Record → Outcome
written r = said (answers (write_answer r 32))

abbrev pub spares : ℕ → ℕ → ℕ → Outcome
spares k first second = written (spared k first second)

-- the same with a fault elsewhere: another It, a Reserved of 64, a first slot with this strength
abbrev typed : ℕ → Common → Common
typed it c = record { rc = c.rc; month = c.month; day = c.day; hour = c.hour; minute = c.minute; it = it }

abbrev with_it : ℕ → Record → Record
with_it it r = record { preamble = r.preamble; reserved = r.reserved; common = typed it r.common; body = r.body; slots = r.slots; text = r.text; spares = r.spares }

abbrev with_reserved : ℕ → Record → Record
with_reserved n r = record { preamble = r.preamble; reserved = n; common = r.common; body = r.body; slots = r.slots; text = r.text; spares = r.spares }

abbrev strong : ℕ → Slot → Slot
strong n s = record { day = s.day; hour = s.hour; minute = s.minute; strength = n; place = s.place }

abbrev first_strong : ℕ → List Slot → List Slot
first_strong n [] = []
first_strong n (s ∷ ss) = strong n s ∷ ss

abbrev with_strength : ℕ → Record → Record
with_strength n r = record { preamble = r.preamble; reserved = r.reserved; common = r.common; body = r.body; slots = first_strong n r.slots; text = r.text; spares = r.spares }

-- ---- the table

abbrev eleven_is : Outcome
eleven_is = said (plain 11)

abbrev pub spare_values : List Value
spare_values =
    spares hypocenter 1023 (2 ^ 51 - 1) gives passes
    ∷ spares hypocenter 1024 0 gives eight_at 43 1024
    ∷ spares hypocenter 0 (2 ^ 51) gives eight_at 163 (2 ^ 51)
    ∷ spares hypocenter 1024 (2 ^ 51) gives eight_at 43 1024
    ∷ spares intensity 1023 1 gives passes
    ∷ spares intensity 1024 0 gives eight_at 43 1024
    ∷ spares intensity 0 2 gives eight_at 213 2
    ∷ spares nankai 1023 1 gives passes
    ∷ spares nankai 1024 0 gives eight_at 43 1024
    ∷ spares nankai 0 2 gives eight_at 213 2
    ∷ spares tsunami 1023 0 gives passes
    ∷ spares tsunami 1024 0 gives eight_at 43 1024
    ∷ spares tsunami 0 1 gives eleven_is
    ∷ spares tsunami 1024 1 gives eleven_is
    ∷ spares volcano 127 2047 gives passes
    ∷ spares volcano 128 0 gives eight_at 43 128  -- seven bits
    ∷ spares volcano 0 2048 gives eight_at 203 2048
    ∷ spares ash_fall 1023 32767 gives passes
    ∷ spares ash_fall 1024 0 gives eight_at 43 1024
    ∷ spares ash_fall 0 32768 gives eight_at 199 32768
    ∷ spares flood 1023 (2 ^ 29 - 1) gives passes
    ∷ spares flood 1024 0 gives eight_at 43 1024
    ∷ spares flood 0 (2 ^ 29) gives eight_at 185 (2 ^ 29)
    -- by lowest bit: It at 41, strength in the first place at 86, Reserved at 220
    ∷ written (with_it 3 (spared ash_fall 1024 32768)) gives eight_at 41 3
    ∷ written (with_strength 0 (spared ash_fall 1024 0)) gives eight_at 43 1024
    ∷ written (with_strength 0 (spared ash_fall 0 32768)) gives eight_at 86 0
    ∷ written (with_reserved 64 (spared ash_fall 0 32768)) gives eight_at 199 32768
    ∷ written (with_reserved 64 (spared ash_fall 0 32767)) gives eight_at 220 64 ∷ []

pub every-row : map found spare_values ≡ map expected spare_values
unfolding write_answer allowed judge walk empty later slots_verdict verdict values tidy_slots vacant zeros
every-row = refl
