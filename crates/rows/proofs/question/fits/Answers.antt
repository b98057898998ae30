-- `rows::question::fits` meets its contract.
use borrow.Author.Rules.{rules}
use mathlib.Core.Path.{sym}
use Rattle.rows.proofs.Rules.Tests.{nothing_above, wide_enough}
use Rattle.rows.proofs.question.fits.Goals as goal

pub returns-then-width-gt63 : goal.returns-then-width-gt63
returns-then-width-gt63 c = sym (wide_enough _ _ (search rules) c.if-width-gt63.true)

pub returns : goal.returns
returns c = nothing_above c.args.v c.args.width
