-- Every public function of `slots` is settled (crate `settled`).
use Rattle.slots.proofs as slots
use Rattle.slots.specs.contracts as promised
use denote.RattleType.{RattleType}
use denote.Param.Laws.{Laws}
use mir.Syntax.{Dict}
use Rattle.slots.specs.declared.listed.Listed.{Ghosts}
use Rattle.settled.specs.Settled.{Settled}
use Rattle.settled.proofs.Law.{answer}

pub push_slots_is_settled : Settled promised.encode.push_slots.ended slots.encode.push_slots.Reads.Post
push_slots_is_settled κs a x y = answer

pub used_is_settled : Settled promised.silence.used.ended slots.silence.used.Reads.Post
used_is_settled κs a x y = answer

pub are_tidy_is_settled : Settled promised.silence.are_tidy.ended slots.silence.are_tidy.Reads.Post
are_tidy_is_settled κs a x y = answer

pub Slot-none_is_settled : Settled promised.slot.Slot.none.ended slots.slot.Slot.none.Reads.Post
Slot-none_is_settled κs a x y = answer

pub Slot-values_is_settled : Settled promised.slot.Slot.values.ended slots.slot.Slot.values.Reads.Post
Slot-values_is_settled κs a x y = answer

pub Slot-is_empty_is_settled : Settled promised.slot.Slot.is_empty.ended slots.slot.Slot.is_empty.Reads.Post
Slot-is_empty_is_settled κs a x y = answer

-- for whatever category
module _ (C : RattleType) (laws : Laws C) (listed : Ghosts C.Denot) (d : Dict) where
  pub Listed-slot_is_settled : Settled (promised.listed.Listed.slot.ended C listed d) (slots.listed.Listed.slot.Reads.Post C laws listed d)
  Listed-slot_is_settled κs a x y = answer

  pub Listed-is_empty_is_settled : Settled (promised.listed.Listed.is_empty.ended C listed d) (slots.listed.Listed.is_empty.Reads.Post C laws listed d)
  Listed-is_empty_is_settled κs a x y = answer

  pub Listed-check_is_settled : Settled (promised.listed.Listed.check.ended C listed d) (slots.listed.Listed.check.Reads.Post C laws listed d)
  Listed-check_is_settled κs a x y = answer

  pub slots_of_is_settled : Settled (promised.listed.slots_of.ended C listed d) (slots.listed.slots_of.Reads.Post C laws listed d)
  slots_of_is_settled κs a x y = answer

  pub check_slots_is_settled : Settled (promised.listed.check_slots.ended C listed d) (slots.listed.check_slots.Reads.Post C laws listed d)
  check_slots_is_settled κs a x y = answer
