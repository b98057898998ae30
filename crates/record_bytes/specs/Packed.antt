-- A record as 251 bytes, for callers that know bytes only. Each number stands in its own width, the most significant byte
-- first:
--
--   0           the category: 2, 3, 4, 5, 9, or 0 where there is none
--   1           preamble
--   2           Reserved
--   3           Rc
--   4 to 7      month, day, hour, minute of the issue
--   8           It
--   9 to 40     the fields of the category's table that are no slot and no text, spares among them, in the order of the
--               frame: one byte for at most 8 bits, two for 16, four for 32, else eight; zeros behind them
--   41 to 232   sixteen slots of twelve bytes: day, hour, minute, strength, place (8)
--   233 to 250  text
use Rattle.std.specs.Prelude.{ℕ, ◌-◌, cond, List, [], ◌∷◌, ◌++◌, length, replicate, eqb}
use Rattle.lent.specs.Numbers.{wide}
use Rattle.slots.specs.declared.slot.Slot.{Slot}
use Rattle.report.specs.declared.record.Record.{Record}
use Rattle.rows.specs.Layout.{Layout}
use Rattle.rows.specs.declared.fields.Spares.{Spares}
use Rattle.rows.specs.Values.{Sides, widths}
use Rattle.rows.specs.Runs.Fields.{bytes_for}
use Rattle.report.specs.declared.body.Body.{Body}
use Rattle.report.specs.Categories.{layout, sides_of}

-- l, and zeros behind it up to n bytes
abbrev pub zero_filled : ℕ → List ℕ → List ℕ
zero_filled n l = l ++ replicate (n - length l) 0

-- 0 to 8
abbrev pub head_bytes : Record → List ℕ
head_bytes r =
    (layout r.body).code
    ∷ r.preamble
    ∷ r.reserved
    ∷ r.common.rc
    ∷ r.common.month
    ∷ r.common.day
    ∷ r.common.hour
    ∷ r.common.minute
    ∷ r.common.it ∷ []

-- ---- 9 to 40

-- values one behind the other, each in the bytes that its width asks for
unfoldable pub cells : List ℕ → List ℕ → List ℕ
cells [] vs = []
cells (w ∷ ws) [] = []
cells (w ∷ ws) (v ∷ vs) = wide (bytes_for w) v ++ cells ws vs

-- in front of slots and text, and behind them
abbrev pub sides_bytes : Layout → Sides → List ℕ
sides_bytes l v = cells (widths l.front) v.front ++ cells (widths l.behind) v.behind

abbrev pub body_bytes : Body → Spares → List ℕ
body_bytes b z = zero_filled 32 (sides_bytes (layout b) (sides_of b z))

-- ---- 41 to 232

abbrev pub slot_bytes : Slot → List ℕ
slot_bytes s = s.day ∷ s.hour ∷ s.minute ∷ s.strength ∷ wide 8 s.place

unfoldable pub slots_bytes : List Slot → List ℕ
slots_bytes [] = []
slots_bytes (s ∷ ss) = slot_bytes s ++ slots_bytes ss

-- ---- all of them

unfoldable pub packed : Record → List ℕ
packed r = head_bytes r ++ body_bytes r.body r.spares ++ slots_bytes r.slots ++ r.text

-- a lent buffer of 251 bytes takes them; one of another length stays as it was
unfoldable pub packed_into : Record → List ℕ → List ℕ
packed_into r buffer = cond (eqb (length buffer) 251) (packed r) buffer
