use mathlib.Core.Path.{◌≡◌}
use Prim.Native.Nat.{◌≤◌}
use lib.ListN.{length, drop}
use Rattle.bits.specs.Words.{pushed_until}
use Rattle.bits.proofs.words.push_all.Given as goal

-- `bits::words::push_all` meets its contract: what is left to push, behind what stands, is the whole.
abbrev pub invariant-loop-k : goal.invariant-loop-k
invariant-loop-k l = (l.k ≤ length l.widths) × (pushed_until l.next (drop l.k l.widths) (drop l.k l.values) ≡ pushed_until l.initial.next l.widths l.values)
