-- `record_bytes::to_bytes::put_slots` meets its contract: the slots passed are in their places.
use mathlib.Core.Path.{◌≡◌}
use lib.ListN.{take}
use lib.Seq.{sets}
use Rattle.record_bytes.specs.Packed.{slots_bytes}
use Rattle.record_bytes.proofs.to_bytes.put_slots.Given as goal

abbrev pub invariant-loop-k : goal.invariant-loop-k
invariant-loop-k l = l.out ≡ sets l.initial.out l.at (slots_bytes (take l.k l.slots))
