use Prim.Native.Nat.{◌-◌}
use Rattle.bits.specs.Words.{pushed_all}
use lib.ListN.{drop, replicate}
use mathlib.Core.Path.{◌≡◌}
use Rattle.nankai.proofs.push_text.Given as goal

-- `nankai::push_text` meets its contract: what is left to push, behind what stands, is the whole.
abbrev pub invariant-loop-byte : goal.invariant-loop-byte
invariant-loop-byte l = pushed_all l.next (replicate (18 - l.byte-index) 8) (drop l.byte-index l.text) ≡ pushed_all l.initial.next (replicate 18 8) l.text
