use Prim.Native.Nat.{◌≤◌}
use mathlib.Core.Path.{◌≡◌}
use lib.ListN.{drop}
use Rattle.slots.specs.Slots.{vacant}
use Rattle.slots.proofs.slot.is_vacant.Given as goal

-- `slots::slot::is_vacant` meets its contract: what is left decides.
abbrev pub invariant-loop-i : goal.invariant-loop-i
invariant-loop-i l = (l.i ≤ 5) × (vacant (drop l.i l.widths) (drop l.i l.values) ≡ vacant l.widths l.values)
