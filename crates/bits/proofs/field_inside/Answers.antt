-- `bits::field_inside` meets its contract: the bytes that hold the field are a window of the frame, and the field is a window of
use mathlib.Core.Path.{◌≡◌, refl}
use Prim.Native.Nat.{◌+◌, ◌-◌, ◌*◌, ◌/◌}
use native.Mathlib.Omega.{arith}
use Rattle.bits.specs.Frame.{number}
use Rattle.bits.proofs.Frames.{field_lt}
use Rattle.bits.proofs.Windows.{window}
use Rattle.bits.proofs.field_inside.Goals as goal

-- that.
pub returns : goal.returns
returns c =
    let a = c.args in
    let frame = a.frame.now in
    let end = a.first + a.width in
    let last = (end + 7) / 8 in
    let e : 8 * (32 - last) + (8 * last - end) ≡ 256 - end = omega arith in
    rw (
      c.low_bits.ensures,
      c.bytes_between.ensures,
      window (number frame) (8 * (32 - last)) (8 * (last - a.first / 8)) (8 * last - end) a.width (omega arith),
      e,
    )
    (refl, field_lt frame a.first a.width)
