-- `listing::scan::scan` meets its contract.
use Rattle.listing.specs.Scanning.{bytes_taken}
use Rattle.listing.proofs.Chunks.Chunks.{scan_left}
use Rattle.listing.proofs.scan.scan.Goals as goal

pub returns-clause-is : goal.returns-clause-is
unfolding bytes_taken
returns-clause-is c = (scan_left c.args.from c.args.chunk.now c.args.out.now _ c.min-most.result _ c.min-most.ensures c.scan_all.ensures).0
