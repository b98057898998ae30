-- `slots::listed::check_slots` meets its contract: what is found in the slots that are left is found in all of them.
use mathlib.Core.Path.{◌≡◌}
use Rattle.rows.specs.Runs.Verdict.{slots_verdict}
use Rattle.slots.specs.Slots.{slots_values}
use Rattle.slots.proofs.Judged.{from_slot}
use Rattle.slots.proofs.listed.check_slots.Given as goal

abbrev pub invariant-loop-k : goal.invariant-loop-k
invariant-loop-k g l = slots_verdict g.C.Listed.slots (slots_values g.C.Listed.slots l.slots) ≡ from_slot g.C.Listed.slots l.slots l.gap l.k
