-- What writing a record answers, and the frame that it writes (document 01): "Writing: 1, 3, 7, 11, then 8 and 10 by lowest
-- bit".
use Rattle.std.specs.Prelude.{ℕ, ◌+◌, ◌*◌, ◌^◌, ◌≡◌, Bool, ◌&&◌, ◌||◌, cond, List, ◌∷◌, length, drop, take, eqb, ltb, Ok, Err}
use Rattle.bits.specs.Layout.{encode}
use Rattle.bits.specs.Frame.{bytes_of}
use Rattle.bits.specs.declared.words.Words.{Words}
use Rattle.bits.specs.Words.{pushed_all, pushed_until}
use Rattle.parity.specs.Parity.{parity_of_front}
use Rattle.rows.specs.declared.refusal.Refusal.TheVariants.{Length, Preamble, Category, Unused}
use Rattle.rows.specs.declared.refusal.Said.{Said}
use Rattle.rows.specs.Refusals.{answers, Verdict}
use Rattle.report.specs.declared.record.Record.{Record}
use Rattle.rows.specs.Runs.Questions.{◌then◌, unless}
use Rattle.rows.specs.Layout.{Layout, all_rows}
use Rattle.rows.specs.Runs.Verdict.{allowed, empty, verdict}
use Rattle.slots.specs.Slots.{tidy_slots}
use Rattle.report.specs.Records.{values}
use Rattle.rows.specs.Values.{flat, has_spare, widths, part_widths}
use Rattle.report.specs.declared.body.Body.{Body}
use Rattle.rows.specs.declared.fields.Fields.{Fields}
use Rattle.rows.specs.declared.fields.Spares.{Spares}
use Rattle.rows.specs.declared.fields.Table.{Table}
use Rattle.slots.specs.declared.slot.Slot.{Slot}
use Rattle.report.specs.Categories.{layout, preambles}
use Rattle.nankai.specs.Nankai.{nankai}
use Rattle.slots.specs.Runs.{slots_pushed}

-- ---- what is refused

-- 7
abbrev pub known : Body → Bool
known b = ltb 0 (layout b).code

-- nothing stands where the category has no slot, no field of a slot, no second spare, or no text
abbrev pub tidy : Record → Bool
tidy r =
    let l = layout r.body in
    tidy_slots (part_widths l.slots) l.slots.count r.slots
    && ((has_spare l.behind || eqb r.spares.second 0) && empty (drop (length l.text) r.text))

unfoldable pub write_answer : Record → ℕ → Verdict
write_answer r size =
    unless (eqb size 32) Length
    then unless (allowed preambles r.preamble) Preamble
    then unless (known r.body) Category
    then unless (tidy r) Unused
    then verdict (layout r.body) (values r)

-- what writing says, in the paper's numbers
abbrev pub write_says : Record → ℕ → Said
write_says r size = answers (write_answer r size)

-- ---- the frame

-- the preamble and the rows, with their values
abbrev pub front_widths : Layout → List ℕ
front_widths l = 8 ∷ widths (all_rows l)

abbrev pub front_values : Record → List ℕ
front_values r = r.preamble ∷ flat (values r)

-- bits 0 to 225 as one number, and the whole frame: the parity behind them, and six bits of padding
unfoldable pub front : Record → ℕ
front r = encode (front_widths (layout r.body)) (front_values r)

unfoldable pub frame : Record → ℕ
frame r = (front r * 2 ^ 24 + parity_of_front (front r)) * 2 ^ 6

-- a refused writing leaves the buffer as it was
abbrev pub written : Verdict → Record → List ℕ → List ℕ
written (Ok tt) r buffer = bytes_of (frame r)
written (Err x) r buffer = buffer

abbrev pub write_of : Record → List ℕ → List ℕ
write_of r buffer = written (write_answer r (length buffer)) r buffer

-- ---- "A record is valid when writing it to 32 bytes is not refused"

abbrev pub Valid : Record → Type 0
Valid r = write_answer r 32 ≡ Ok tt

-- ---- how it is asked and written, which contracts of private functions need

-- `tidy`, as the table in numbers tells it
abbrev pub tidy_by : Table → List Slot → List ℕ → Spares → Bool
tidy_by t ss text z = tidy_slots t.widths t.count ss && ((t.second || eqb z.second 0) && (t.text || empty text))

-- the rows in front, the slots, the text, and the rows behind, one behind the other
unfoldable pub body_pushed : Words → Fields → List Slot → List ℕ → Words
body_pushed x v ss text =
    let start = pushed_until x v.ahead v.front in
    let places = slots_pushed start v.table.widths (take v.table.count ss) in
    let page = cond v.table.text (pushed_all places (widths nankai.text) text) places in
    pushed_until page v.after v.behind
