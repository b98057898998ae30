-- What is told of a body: what all rules find.
use Rattle.rows.specs.Refusals.{Verdict}
use Rattle.rows.specs.declared.fields.Spares.{Spares}
use Rattle.std.specs.Prelude.{List, ℕ}
use Rattle.rows.specs.declared.common.Common.{Common}
use Rattle.slots.specs.declared.slot.Slot.{Slot}
use Rattle.report.specs.declared.body.Body.{Body}
use Rattle.rows.specs.Runs.Verdict.{body_verdict}
use Rattle.report.specs.declared.body.BodyAndSpares.{BodyAndSpares}
use Rattle.rows.specs.Values.{head_values, spares_from}
use Rattle.slots.specs.Slots.{slots_values}
use Rattle.report.specs.Categories.{layout, sides_of}

-- a body, and the spares among the numbers that it was made from
abbrev pub with_spares : List ℕ → List ℕ → Body → BodyAndSpares
with_spares front behind b = record { body = b; spares = spares_from (layout b) (record { front = front; behind = behind }) }

-- bits 8 to 213
abbrev pub told_of : Body → Common → List Slot → Spares → Verdict
told_of b c ss z = body_verdict (layout b) (head_values c (layout b).code) (sides_of b z) (slots_values (layout b).slots ss)
