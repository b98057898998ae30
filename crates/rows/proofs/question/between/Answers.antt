-- `rows::question::between` meets its contract.
use borrow.Author.Tests.{le-leb, lt-leb}
use Rattle.rows.proofs.question.between.Goals as goal

pub returns-then-lo-v : goal.returns-then-lo-v
returns-then-lo-v c = simp (le-leb _ _ c.if-lo-v.true)

pub returns-else-lo-v : goal.returns-else-lo-v
returns-else-lo-v c = simp (lt-leb _ _ c.if-lo-v.false)
