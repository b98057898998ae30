use Prim.Native.Nat.{◌+◌, ◌≤◌}
use mathlib.Core.Path.{◌≡◌}
use mathlib.Core.List.{map}
use Rattle.slots.specs.Slots.{slot_parts, used_among}
use Rattle.slots.proofs.Loops.{used_from}
use Rattle.slots.proofs.silence.used.Given as goal

-- `slots::silence::used` meets its contract: those passed and those used from here on are all.
abbrev pub invariant-loop-k : goal.invariant-loop-k
invariant-loop-k l = (l.k ≤ 16) × (l.k + used_from l.slots l.k l.k ≡ used_among (map slot_parts l.slots))
