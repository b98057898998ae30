use mathlib.Core.Path.{◌≡◌}
use Prim.Native.Nat.{◌-◌, ◌*◌, ◌%◌, ◌^◌, ◌≤◌}
use lib.ListN.{take}
use Rattle.bits.specs.Frame.{number}
use Rattle.bits.proofs.bytes_between.Given as goal

-- `bits::bytes_between` meets its contract: the sum is the number of the bytes passed.
abbrev pub invariant-loop-at : goal.invariant-loop-at
invariant-loop-at l = (l.from ≤ l.at) × ((l.at ≤ l.to) × (l.sum ≡ number (take l.at l.frame) % 2 ^ (8 * (l.at - l.from))))
