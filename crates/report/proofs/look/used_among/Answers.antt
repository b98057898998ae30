-- `report::look::used_among` meets its contract.
use native.Mathlib.Omega.{arith}
use mathlib.Core.List.{map}
use lib.ListN.{length-map}
use Rattle.slots.specs.Slots.{slot_parts}
use Rattle.slots.proofs.Used.{used_at-most}
use Rattle.report.proofs.look.used_among.Goals as goal

pub overflow_cast-result : goal.overflow_cast-result
overflow_cast-result c = omega (arith, c.used.ensures, used_at-most (map slot_parts c.args.slots.now), length-map c.args.slots.now slot_parts)
