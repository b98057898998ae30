-- `record_bytes::to_bytes::put_slots` meets its contract: the slots passed are in their places.
use mathlib.Core.Path.{◌≡◌, refl}
use native.Mathlib.Omega.{arith}
use lib.ListN.{length}
use lib.Seq.{take_all}
use Rattle.lent.proofs.Chains.{placed}
use Rattle.record_bytes.specs.Packed.{slots_bytes}
use Rattle.record_bytes.proofs.ToBytes.Slots.{length_slots, slot_more}
use Rattle.record_bytes.proofs.to_bytes.put_slots.Goals as goal

pub loop-k-init : goal.loop-k-init
unfolding slots_bytes
loop-k-init c = refl

pub loop-k-preserved : goal.loop-k-preserved
loop-k-preserved c =
    slot_more _ _ _ _ c.loop-k.k c.args.slots.now (omega arith) c.loop-k.invariant c.put_slot.ensures

pub returns : goal.returns
returns c =
    let slots = c.args.slots.now in
    let sixteen : length slots ≡ 16 = omega arith in
    record { put = placed (omega (arith, c.requires)) (rw (take_all c.loop-k.k slots (omega arith)) at c.loop-k.invariant) (omega (arith, length_slots slots)); sixteen = sixteen }
