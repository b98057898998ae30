-- `bits::words::Words::push` meets its contract.
use borrow.Author.Tests.{eq-eqb, ne_eqb}
use Rattle.bits.specs.Words.{pushed}
use Rattle.bits.proofs.words.Words.push.Goals as goal

pub returns-then-bits-eq0 : goal.returns-then-bits-eq0
unfolding pushed
returns-then-bits-eq0 c = simp (eq-eqb _ 0 c.if-bits-eq0.true)

pub returns : goal.returns
unfolding pushed
returns c =
    simp (ne_eqb _ 0 c.if-bits-eq0.false, c.carry.ensures, c.carry-2.ensures, c.carry-3.ensures)
