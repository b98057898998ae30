-- `listing::row::write_heading` meets its contract.
use native.Mathlib.Omega.{arith}
use Rattle.listing.specs.Rows.{heading_text}
use Rattle.listing.proofs.Texts.Written.{wrote_laid}
use Rattle.listing.proofs.row.write_heading.Goals as goal

pub returns-clause-is : goal.returns-clause-is
unfolding heading_text
returns-clause-is c = wrote_laid _ _ _ _ c.put_bytes.ensures (omega (arith, c.put_bytes.ensures.place)) c.if-out-lt-LONGEST.false
