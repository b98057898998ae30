use mathlib.Core.Path.{◌≡◌}
use Prim.Native.Nat.{◌+◌, ◌<◌}
use lib.ListN.{take, drop}
use lib.Seq.{sets}
use Rattle.lent.specs.Numbers.{decimal}
use Rattle.lent.proofs.put.put_decimal.Given as goal

-- `lent::put::put_decimal` meets its contract: the digits from k on are put, and those in front of them are the rest's.
abbrev pub invariant-loop-k : goal.invariant-loop-k
invariant-loop-k l =
    (l.out ≡ sets l.initial.out (l.at + l.k) (drop l.k (decimal l.number))) × (0 < l.k → decimal l.rest ≡ take l.k (decimal l.number))
