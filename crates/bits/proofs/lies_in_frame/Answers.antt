-- `bits::lies_in_frame` meets its contract.
use borrow.Author.Tests.{lt-leb}
use Rattle.bits.proofs.Inside.{lies_by_difference}
use Rattle.bits.proofs.lies_in_frame.Goals as goal

pub returns-then-width-most : goal.returns-then-width-most
returns-then-width-most c = lies_by_difference _ _ _ c.requires c.if-width-most.true

pub returns-else-width-most : goal.returns-else-width-most
returns-else-width-most c = simp (lt-leb _ _ c.if-width-most.false)
