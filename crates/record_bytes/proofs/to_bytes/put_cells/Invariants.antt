-- `record_bytes::to_bytes::put_cells` meets its contract: the values passed are put.
use mathlib.Core.Path.{◌≡◌}
use Prim.Native.Nat.{◌+◌}
use lib.ListN.{take}
use lib.Seq.{sets}
use Rattle.record_bytes.specs.Packed.{cells}
use Rattle.record_bytes.specs.Unpacked.{size}
use Rattle.record_bytes.proofs.to_bytes.put_cells.Given as goal

abbrev pub invariant-loop-k : goal.invariant-loop-k
invariant-loop-k l = record {
  put : l.out ≡ sets l.initial.out l.at (cells (take l.k l.widths) (take l.k l.values));
  place : l.next ≡ l.at + size (take l.k l.widths);
}
