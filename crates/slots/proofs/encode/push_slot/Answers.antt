-- `slots::encode::push_slot` meets its contract.
use Rattle.slots.specs.Runs.{slot_pushed}
use Rattle.slots.proofs.encode.push_slot.Goals as goal

pub returns : goal.returns
unfolding slot_pushed
returns c = simp (c.push.ensures, c.slot_number.ensures, c.from-5.ensures, c.from-4.ensures, c.from-3.ensures, c.from-2.ensures, c.from.ensures)
