-- `record_bytes::from_bytes::slots_of` meets its contract: the slots passed are read.
use mathlib.Core.Path.{◌≡◌}
use mathlib.Core.List.{◌++◌}
use Prim.Native.Nat.{◌+◌, ◌-◌, ◌*◌}
use lib.ListN.{replicate}
use Rattle.rows.specs.Values.{each}
use Rattle.slots.specs.Slots.{no_slot}
use Rattle.record_bytes.specs.Unpacked.{slot_at}
use Rattle.record_bytes.proofs.from_bytes.slots_of.Given as goal

abbrev pub invariant-loop-k : goal.invariant-loop-k
invariant-loop-k l = l.slots ≡ each l.k (λ i. slot_at l.bytes (41 + 12 * i)) ++ replicate (16 - l.k) no_slot
