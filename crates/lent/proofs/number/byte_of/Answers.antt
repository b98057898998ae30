-- `lent::number::byte_of` meets its contract.
use native.Mathlib.Omega.{arith}
use Rattle.lent.proofs.Wide.{no_byte}
use borrow.Author.Rules.{rules}
use Rattle.lent.proofs.number.byte_of.Goals as goal

pub returns-then-behind-gt7 : goal.returns-then-behind-gt7
returns-then-behind-gt7 c = no_byte c.args.value c.args.behind (search rules) (omega arith)
