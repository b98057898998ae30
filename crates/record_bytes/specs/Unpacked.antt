-- The record of 251 bytes, whatever they are: Packed has the table of the places. Bytes that no record has are not lost on
-- the way, so that writing refuses them in their turn:
--
--   a first byte that is no category   gives a record without category, which is 7
--   bytes 9 to 40 that are not those of the body and the spares which they give, so something behind the last field
--       gives slot 15 an hour, which no category uses: that is 11
use Rattle.std.specs.Prelude.{ℕ, ◌+◌, ◌*◌, Bool, cond, not, List, [], ◌∷◌, length, get_or, set, take, drop, eqb}
use Rattle.bits.specs.Frame.{number}
use Rattle.slots.specs.declared.slot.Slot.{Slot}
use Rattle.report.specs.declared.record.Record.{Record}
use Rattle.rows.specs.Layout.{Layout}
use Rattle.rows.specs.Values.{Sides, each, same_bytes, spares_from, widths}
use Rattle.rows.specs.Runs.Fields.{bytes_for}
use Rattle.rows.specs.declared.common.Common.{Common}
use Rattle.report.specs.declared.body.Body.{Body}
use Rattle.report.specs.Categories.{body_from, layout}
use Rattle.rows.specs.declared.fields.Spares.{Spares}
use Rattle.report.specs.declared.body.BodyAndSpares.{BodyAndSpares}
use Rattle.report.specs.Records.{zeros}
use Rattle.record_bytes.specs.Packed.{body_bytes}
use Rattle.record_bytes.specs.Text.{text_at}

-- the number in n bytes from the byte k on
abbrev pub number_at : List ℕ → ℕ → ℕ → ℕ
number_at l k n = number (take n (drop k l))

-- ---- 3 to 8

abbrev pub common_in_bytes : List ℕ → Common
common_in_bytes l = record { rc = get_or l 3 0; month = get_or l 4 0; day = get_or l 5 0; hour = get_or l 6 0; minute = get_or l 7 0; it = get_or l 8 0 }

-- ---- 9 to 40

-- all bytes of fields of these widths
abbrev pub size : List ℕ → ℕ
size [] = 0
size (w ∷ ws) = bytes_for w + size ws

-- the values of such fields from the byte k on
unfoldable pub cells_at : List ℕ → ℕ → List ℕ → List ℕ
cells_at l k [] = []
cells_at l k (w ∷ ws) = number_at l k (bytes_for w) ∷ cells_at l (k + bytes_for w) ws

-- in front of slots and text, and behind them
abbrev pub sides_in_bytes : List ℕ → Layout → Sides
sides_in_bytes l t = record { front = cells_at l 9 (widths t.front); behind = cells_at l (9 + size (widths t.front)) (widths t.behind) }

abbrev pub body_in_bytes : List ℕ → Body
body_in_bytes l = body_from (sides_in_bytes l) (get_or l 0 0)

abbrev pub spares_in_bytes : List ℕ → Body → Spares
spares_in_bytes l b = spares_from (layout b) (sides_in_bytes l (layout b))

abbrev pub both_in_bytes : List ℕ → BodyAndSpares
both_in_bytes l = record { body = body_in_bytes l; spares = spares_in_bytes l (body_in_bytes l) }

-- they are not those of the body with these spares
abbrev pub stray_as : Body → Spares → List ℕ → Bool
stray_as b z l = not (same_bytes (take 32 (drop 9 l)) (body_bytes b z))

abbrev pub stray : Body → List ℕ → Bool
stray b l = stray_as b (spares_in_bytes l b) l

-- ---- 41 to 232

abbrev pub slot_at : List ℕ → ℕ → Slot
slot_at l k = record {
  day = get_or l k 0;
  hour = get_or l (k + 1) 0;
  minute = get_or l (k + 2) 0;
  strength = get_or l (k + 3) 0;
  place = number_at l (k + 4) 8;
}

abbrev pub slots_from : List ℕ → List Slot
slots_from l = each 16 (λ i. slot_at l (41 + 12 * i))

-- no category has an hour in slot 15
abbrev pub misplaced : Slot
misplaced = record { day = 0; hour = 1; minute = 0; strength = 0; place = 0 }

abbrev pub slots_or_misplaced : Bool → List Slot → List Slot
slots_or_misplaced isStray ss = cond isStray (set ss 15 misplaced) ss

-- ---- 233 to 250

abbrev pub text_in_bytes : List ℕ → List ℕ
text_in_bytes l = text_at l 233

-- ---- all of them

unfoldable pub unpacked_as : List ℕ → Body → Record
unpacked_as l b = record {
  preamble = get_or l 1 0;
  reserved = get_or l 2 0;
  common = common_in_bytes l;
  body = b;
  slots = slots_or_misplaced (stray b l) (slots_from l);
  text = text_in_bytes l;
  spares = spares_in_bytes l b;
}

abbrev pub unpacked : List ℕ → Record
unpacked l = unpacked_as l (body_in_bytes l)

-- bytes of another length are a record of zeros
unfoldable pub record_from : List ℕ → Record
record_from l = cond (eqb (length l) 251) (unpacked l) zeros
