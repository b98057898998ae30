-- `slots::encode::push_slots` meets its contract: what is left to push, behind what stands, is the whole.
use mathlib.Core.Path.{◌≡◌}
use lib.ListN.{drop, take}
use Rattle.slots.specs.Runs.{slots_pushed}
use Rattle.slots.proofs.encode.push_slots.Given as goal

abbrev pub invariant-loop-k : goal.invariant-loop-k
invariant-loop-k l = slots_pushed l.next l.widths (drop l.k (take l.count l.slots)) ≡ slots_pushed l.initial.next l.widths (take l.count l.slots)
