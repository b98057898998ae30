-- `slots::slot::Slot::is_empty` meets its contract.
use Rattle.slots.proofs.Vacant.{fifth_held, four_bytes}
use Rattle.slots.proofs.slot.Slot.is_empty.Goals as goal

pub returns-then-self-ne0 : goal.returns-then-self-ne0
returns-then-self-ne0 c = let s = c.args.self.now in fifth_held s.day s.hour s.minute s.strength s.place c.if-self-ne0.true

pub returns : goal.returns
returns c =
    let s = c.args.self.now in
    rw (c.from.ensures, c.from-2.ensures, c.from-3.ensures, c.from-4.ensures) (four_bytes s.day s.hour s.minute s.strength s.place c.if-self-ne0.false)
