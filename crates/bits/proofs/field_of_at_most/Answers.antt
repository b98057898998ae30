-- `bits::field_of_at_most` meets its contract.
use mathlib.Core.Bool.{true}
use mathlib.Core.Path.{◌≡◌, sym, ◌∙◌}
use native.Mathlib.Omega.{arith}
use lib.Pow.{pow_pos}
use Rattle.bits.specs.Frame.{lies, frame_in}
use Rattle.bits.proofs.Inside.{lies_told, field_read, no_field, frame_lent, no_frame}
use Rattle.bits.proofs.Windows.{narrower}
use Rattle.bits.proofs.field_of_at_most.Goals as goal

pub returns-then-frame-ne32 : goal.returns-then-frame-ne32
returns-then-frame-ne32 c =
    let a = c.args in
    (sym (no_frame a.most a.frame.now a.first a.width c.if-frame-ne32.true), (pow_pos a.width, pow_pos a.most))

pub field_inside-requires : goal.field_inside-requires
field_inside-requires c =
    let inside : lies c.args.most c.args.first c.args.width ≡ true =
    sym c.lies_in_frame.ensures ∙ c.if-lies_in_frame.true
    in
    let t = lies_told _ _ _ inside in
    (c.if-frame-ne32.false, (t.0, omega arith))

pub returns-then-lies_in_frame : goal.returns-then-lies_in_frame
returns-then-lies_in_frame c =
    let inside : lies c.args.most c.args.first c.args.width ≡ true =
    sym c.lies_in_frame.ensures ∙ c.if-lies_in_frame.true
    in
    let a = c.args in
    let read = field_read a.most a.frame.now a.first a.width _ inside c.field_inside.ensures in
    let lent = frame_lent a.frame.now c.if-frame-ne32.false in (
      rw lent read.0,
      (read.1, narrower _ _ a.most read.1 (lies_told a.most _ _ inside).1),
    )

pub returns-else-lies_in_frame : goal.returns-else-lies_in_frame
returns-else-lies_in_frame c =
    let a = c.args in
    let none = no_field a.most (frame_in a.frame.now) a.first a.width (sym c.lies_in_frame.ensures ∙ c.if-lies_in_frame.false) in
    (none.0, (none.1, pow_pos a.most))
