use Rattle.std.proofs.Common.{◌≡◌, ◌+◌, ◌-◌, ◌*◌, ◌≤◌, length}
use Rattle.listing.proofs.Lines.LineLoop.{Went}
use Rattle.listing.proofs.scan.scan_lines.Given as goal

-- what is left to do from here is what was to be done
abbrev pub invariant-loop-n : goal.invariant-loop-n
invariant-loop-n l = record {
  at : l.at ≤ length l.chunk;
  room : l.put + 48 * (length l.chunk - l.at) ≤ length l.out;
  went : Went l.chunk l.initial.out l.out l.lines l.from l.to l.n l.at l.put;
}
