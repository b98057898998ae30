-- `lent::number::digits` meets its contract.
use mathlib.Core.Path.{sym}
use native.Mathlib.Omega.{arith}
use borrow.Author.Rules.{rules}
use Rattle.lent.proofs.Decimals.{digits_by_power, length-decimal_one}
use Rattle.lent.proofs.number.digits.Goals as goal

pub returns-in-Some : goal.returns-in-Some
returns-in-Some c = digits_by_power c.in-Some.tens c.args.number (search rules) (search rules)

pub returns-in-None : goal.returns-in-None
returns-in-None c = sym (length-decimal_one c.args.number (omega (arith, c.in-None.ensures.none)))
