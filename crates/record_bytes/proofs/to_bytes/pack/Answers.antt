-- `record_bytes::to_bytes::pack` meets its contract.
use mathlib.Core.Path.{◌≡◌, ◌∙◌, sym}
use lib.ListN.{length}
use native.Mathlib.Omega.{arith}
use Rattle.lent.proofs.Chains.{wrote_as}
use Rattle.record_bytes.proofs.ToBytes.Whole.{into_right, into_wrong, packed_in_parts, room_for_slots}
use Rattle.record_bytes.proofs.to_bytes.pack.Goals as goal

pub put_slots-text_at-requires : goal.put_slots-text_at-requires
put_slots-text_at-requires c =
    room_for_slots c.args.r.now c.if-out-eq-RECORD_SIZE.true c.put_head-body_at.ensures (wrote_as c.own_bytes-own.ensures c.put_bytes-slots_at.ensures)

pub returns-then-out-eq-RECORD_SIZE : goal.returns-then-out-eq-RECORD_SIZE
returns-then-out-eq-RECORD_SIZE c =
    let r = c.args.r.now in
    let text : length r.text ≡ 18 = omega arith in
    packed_in_parts r c.put_slots-text_at.ensures.sixteen text c.if-out-eq-RECORD_SIZE.true c.put_head-body_at.ensures (wrote_as c.own_bytes-own.ensures c.put_bytes-slots_at.ensures) c.put_slots-text_at.ensures.put c.put_bytes.ensures
    ∙ sym (into_right r _ c.if-out-eq-RECORD_SIZE.true)

pub returns-else-out-eq-RECORD_SIZE : goal.returns-else-out-eq-RECORD_SIZE
returns-else-out-eq-RECORD_SIZE c = sym (into_wrong _ _ c.if-out-eq-RECORD_SIZE.false)
