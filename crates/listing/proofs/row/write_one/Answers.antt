-- `listing::row::write_one` meets its contract.
use native.Mathlib.Omega.{arith}
use Rattle.listing.proofs.Texts.Written.{wrote_laid}
use Rattle.listing.proofs.row.write_one.Goals as goal

pub returns-clause-is : goal.returns-clause-is
returns-clause-is c = wrote_laid _ _ _ _ c.put_row.ensures.0 (omega (arith, c.put_row.ensures.1)) c.if-out-lt-LONGEST.false
