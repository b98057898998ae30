use Prim.Native.Nat.{◌≤◌}
use mathlib.Core.Path.{◌≡◌}
use Rattle.slots.proofs.Loops.{rest}
use Rattle.slots.specs.Slots.{tidy_slots}
use Rattle.slots.proofs.silence.are_tidy.Given as goal

-- `slots::silence::are_tidy` meets its contract: what is left decides.
abbrev pub invariant-loop-i : goal.invariant-loop-i
invariant-loop-i l = (l.i ≤ 16) × (rest l.widths l.count l.slots l.i ≡ tidy_slots l.widths l.count l.slots)
