-- `record_bytes::from_bytes::read_cells` meets its contract: the values of the widths passed are read.
use mathlib.Core.Path.{◌≡◌}
use Prim.Native.Nat.{◌+◌, ◌-◌}
use mathlib.Core.List.{◌++◌}
use lib.ListN.{length, take, replicate}
use Rattle.record_bytes.specs.Unpacked.{cells_at, size}
use Rattle.record_bytes.proofs.from_bytes.read_cells.Given as goal

abbrev pub invariant-loop-k : goal.invariant-loop-k
invariant-loop-k l = record {
  read : l.values ≡ cells_at l.bytes l.at (take l.k l.widths) ++ replicate (length l.widths - l.k) 0;
  place : l.next ≡ l.at + size (take l.k l.widths);
}
