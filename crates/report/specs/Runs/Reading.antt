-- What reading a lent frame answers (document 01): "1 to 7 in that order", then 8 and 10 by lowest bit.
use Rattle.category.specs.Text.{text_of}
use Rattle.std.specs.Prelude.{ℕ, List, length, map, eqb, not, Result, Ok, Err}
use Rattle.bits.specs.Frame.{field_of}
use Rattle.parity.specs.Parity.{parity_right}
use Rattle.rows.specs.declared.refusal.Refusal.TheVariants.{Length, Padding, Preamble, Parity, Message, Version, Category}
use Rattle.rows.specs.declared.refusal.Said.{Said}
use Rattle.rows.specs.Refusals.{answers, outcome, Verdict}
use Rattle.rows.specs.declared.refusal.Refusal.{Refusal}
use Rattle.slots.specs.declared.slot.Slot.{Slot}
use Rattle.report.specs.declared.record.Record.{Record}
use Rattle.rows.specs.Runs.Questions.{◌then◌, unless}
use Rattle.rows.specs.Runs.Verdict.{allowed, body_verdict, verdict}
use Rattle.report.specs.Records.{body_of, record_of, zeros}
use Rattle.rows.specs.Values.{common_of, head_values, spares_at, values_of}
use Rattle.report.specs.declared.body.Body.{Body}
use Rattle.report.specs.declared.body.Content.{Content}
use Rattle.report.specs.Categories.{categories, layout, preambles, sides_of}
use Rattle.report.specs.Meaning.{used_of}
use Rattle.report.specs.declared.look.Looked.{Looked}
use Rattle.slots.specs.Slots.{slot_parts, slots_of, slots_values, used_among}

-- 2 to 6
unfoldable pub outer_of : List ℕ → Verdict
outer_of s =
    unless (eqb (field_of s 250 6) 0) Padding
    then unless (allowed preambles (field_of s 0 8)) Preamble
    then unless (parity_right s) Parity
    then unless (eqb (field_of s 8 6) 43) Message
    then unless (eqb (field_of s 214 6) 1) Version

-- 8, 10
abbrev pub inner_of : List ℕ → Verdict
inner_of s = verdict (layout (body_of s)) (values_of s (layout (body_of s)))

-- 7 to 10
abbrev pub content_answer : List ℕ → Verdict
content_answer s = unless (allowed categories (field_of s 17 4)) Category then inner_of s

abbrev pub read_answer : List ℕ → Verdict
read_answer s = unless (eqb (length s) 32) Length then outer_of s then content_answer s

-- what reading says, in the paper's numbers
abbrev pub read_says : List ℕ → Said
read_says s = answers (read_answer s)

-- what all rules from bit 8 to bit 213 find in a frame with this body
abbrev pub rules_find : List ℕ → Body → Verdict
rules_find s b = body_verdict (layout b) (head_values (common_of s) (layout b).code) (sides_of b (spares_at s (layout b))) (slots_values (layout b).slots (slots_of s (layout b).slots))

-- 7 where there is no category, and what the rules find
abbrev pub found_as : List ℕ → Body → Verdict
found_as s b = unless (not (eqb (layout b).code 0)) Category then rules_find s b

-- what stands from bit 43 up to bit 213
abbrev pub content_as : List ℕ → Body → Content
content_as s b = record {
  body = b;
  slots = slots_of s (layout b).slots;
  text = text_of s (layout b);
  spares = spares_at s (layout b);
}

-- ---- the record

-- what reading comes to: what is found, and the record
pub record Reading : Type 0 where
  pub answer : Verdict
  pub «record» : Record

-- an answer without a record
abbrev pub unread : Verdict → Reading
unread v = record { answer = v; «record» = zeros }

-- the answer, with the record where nothing is refused
abbrev pub reading : Verdict → Record → Reading
reading (Ok tt) r = record { answer = Ok tt; «record» = r }
reading (Err x) r = unread (Err x)

abbrev pub read_of : List ℕ → Reading
read_of s = reading (read_answer s) (record_of s)

-- ---- a look

-- what is seen of a reading: what is found, the category's code, how many slots it has, and how many of them are used
pub record Seen : Type 0 where
  pub answer : Verdict
  pub category : ℕ
  pub count : ℕ
  pub used : ℕ

abbrev pub seen : Reading → Seen
seen r = record { answer = r.answer; category = (layout r.«record».body).code; count = (layout r.«record».body).slots.count; used = used_of r.«record» }

-- the answer alone
abbrev pub not_seen : Verdict → Seen
not_seen v = record { answer = v; category = 0; count = 0; used = 0 }

-- what is seen of a body and slots
abbrev pub look_at : Body → List Slot → Looked
look_at b ss = record { category = (layout b).code; count = (layout b).slots.count; used = used_among (map slot_parts ss) }

-- the same without the answer
abbrev pub looked : Seen → Looked
looked s = record { category = s.category; count = s.count; used = s.used }

-- what a look hands back
abbrev pub look_told : Seen → Result Looked Refusal
look_told s = outcome s.answer (looked s)

-- "A refused reading gives a record of zeros": no category, and no slot
abbrev pub nothing_looked : Looked
nothing_looked = record { category = 0; count = 0; used = 0 }
