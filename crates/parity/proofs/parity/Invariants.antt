use mathlib.Core.Path.{◌≡◌}
use Prim.Native.Nat.{◌+◌, ◌*◌, ◌%◌, ◌≤◌}
use Rattle.bits.specs.Frame.{frame_in}
use Rattle.parity.proofs.Taken.{taken}
use Rattle.parity.proofs.parity.Given as goal

-- `parity::parity` meets its contract: the register is that of the bits passed.
abbrev pub invariant-loop-byte : goal.invariant-loop-byte
invariant-loop-byte l = (l.byte ≤ 28) × ((l.byte % 3 ≡ 1) × (l.register ≡ taken (frame_in l.frame) (8 * l.byte + 2)))
