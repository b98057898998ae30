-- `slots::encode::slot_number` meets its contract.
use Rattle.slots.specs.Runs.{slot_number}
use Rattle.slots.proofs.encode.slot_number.Goals as goal

pub returns : goal.returns
unfolding slot_number
returns c =
    simp (c.behind.ensures, c.behind-to_strength.ensures, c.behind-to_minute.ensures, c.behind-to_hour.ensures, c.from-4.ensures, c.from-3.ensures, c.from-2.ensures, c.from.ensures)
