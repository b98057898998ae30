-- What the numbers of a record say (document 01, "Silence in a slot").
use Rattle.report.specs.declared.record.Record.{Record}
use Rattle.std.specs.Prelude.{map, ℕ}
use Rattle.slots.specs.Slots.{slot_parts, used_among}

unfoldable pub used_of : Record → ℕ
used_of r = used_among (map slot_parts r.slots)
