use Rattle.listing.specs.Pieces.{NoFeed}
use Rattle.listing.proofs.scan.find.Given as goal

-- no line feed has been passed
abbrev pub invariant-loop-i : goal.invariant-loop-i
invariant-loop-i l = NoFeed l.s l.from l.i
