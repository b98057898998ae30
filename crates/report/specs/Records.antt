-- The record of a frame (document 01, "The record", and document 02: "Keep every spare's bits in the record"), and the values of a
-- record, in the order of the frame.
use Rattle.report.specs.declared.body.Body.{Body}
use Rattle.std.specs.Prelude.{List, ℕ, length, replicate, take}
use Rattle.report.specs.declared.body.Body.TheVariants.{NoCategory}
use Rattle.report.specs.declared.record.Record.{Record}
use Rattle.rows.specs.Values.{Values, common_of, head_values, last_values, no_common, no_spares, sides_at, spares_at}
use Rattle.report.specs.Categories.{body_from, layout, sides_of}
use Rattle.bits.specs.Frame.{field_of}
use Rattle.category.specs.Text.{text_of}
use Rattle.slots.specs.Slots.{no_slot, slots_of, slots_values}

-- ---- from a frame

-- by the category's code
abbrev pub body_by : List ℕ → ℕ → Body
body_by s dc = body_from (sides_at s) dc

abbrev pub body_of : List ℕ → Body
body_of s = body_by s (field_of s 17 4)

unfoldable pub record_as : List ℕ → Body → Record
record_as s b = record {
  preamble = field_of s 0 8;
  reserved = field_of s 220 6;
  common = common_of s;
  body = b;
  slots = slots_of s (layout b).slots;
  text = text_of s (layout b);
  spares = spares_at s (layout b);
}

abbrev pub record_of : List ℕ → Record
record_of s = record_as s (body_of s)

-- "A refused reading gives a record of zeros"
unfoldable pub zeros : Record
zeros = record {
  preamble = 0;
  reserved = 0;
  common = no_common;
  body = NoCategory;
  slots = replicate 16 no_slot;
  text = replicate 18 0;
  spares = no_spares;
}

-- ---- the values of a record

unfoldable pub values : Record → Values
values r = record {
  head = head_values r.common (layout r.body).code;
  front = (sides_of r.body r.spares).front;
  slots = slots_values (layout r.body).slots r.slots;
  text = take (length (layout r.body).text) r.text;
  behind = (sides_of r.body r.spares).behind;
  last = last_values r.reserved;
}
