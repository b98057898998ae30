-- `bits::bytes_between` meets its contract: the sum is the number of the bytes passed.
use mathlib.Core.Path.{◌≡◌}
use Prim.Native.Nat.{◌-◌, ◌^◌, ◌<◌}
use native.Mathlib.Omega.{arith}
use lib.ListN.{take}
use Rattle.bits.specs.Frame.{Bytes, number}
use Rattle.bits.proofs.Bytes.{number_shr}
use Rattle.bits.proofs.ByteLoops.{read_more, seven}
use Rattle.bits.proofs.bytes_between.Goals as goal

pub overflow_mul-sum : goal.overflow_mul-sum
overflow_mul-sum c =
    let small : c.loop-at.sum < 2 ^ 56 =
    let l = c.loop-at in
    rw l.invariant.1.1 (seven (number (take l.at (c.args.frame.now))) (l.at - c.args.from) (omega arith))
    in
    omega (arith, small)

pub overflow_add-sum : goal.overflow_add-sum
overflow_add-sum c =
    let small : c.loop-at.sum < 2 ^ 56 =
    let l = c.loop-at in
    rw l.invariant.1.1 (seven (number (take l.at (c.args.frame.now))) (l.at - c.args.from) (omega arith))
    in
    let bytes : Bytes (c.args.frame.now) =
    λ i. omega (arith, c.type_inv.frame i)
    in
    let byte : c.from.result < 256 =
    rw c.from.ensures (bytes c.loop-at.at)
    in
    omega (arith, small, byte)

pub loop-at-preserved : goal.loop-at-preserved
loop-at-preserved c =
    let bytes : Bytes (c.args.frame.now) =
    λ i. omega (arith, c.type_inv.frame i)
    in
    let l = c.loop-at in (
      omega arith,
      (
        omega arith,
        rw (l.invariant.1.1, c.from.ensures)
            (read_more (c.args.frame.now) c.args.from l.at (omega arith) (omega arith) bytes),
      ),
    )

pub returns : goal.returns
returns c =
    let bytes : Bytes (c.args.frame.now) =
    λ i. omega (arith, c.type_inv.frame i)
    in
    let a = c.args in
    let l = c.loop-at in
    let last : l.at ≡ a.to = omega arith in
    rw (← rw c.requires.0 at (number_shr (c.args.frame.now) a.to (omega arith) bytes)) at (rw last at l.invariant.1.1)
