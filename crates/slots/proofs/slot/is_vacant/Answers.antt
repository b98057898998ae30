-- `slots::slot::is_vacant` meets its contract: what is left decides.
use mathlib.Core.Path.{◌∙◌, refl, sym}
use Rattle.slots.proofs.Vacant.{all-vacant, not_vacant, vacant_so_far}
use native.Mathlib.Omega.{arith}
use Rattle.slots.proofs.slot.is_vacant.Goals as goal

pub loop-i-init : goal.loop-i-init
loop-i-init c = (omega arith, refl)

pub bounds-widths-i : goal.bounds-widths-i
bounds-widths-i c =
    omega arith

pub bounds-values-i : goal.bounds-values-i
bounds-values-i c =
    omega arith

pub returns-then-not-is_held : goal.returns-then-not-is_held
returns-then-not-is_held c =
    let l = c.loop-i in
    sym (not_vacant c.args.widths.now c.args.values.now l.i (omega arith) (omega arith) (sym c.is_held.ensures ∙ c.if-not-is_held.true)) ∙ l.invariant.1

pub loop-i-preserved : goal.loop-i-preserved
loop-i-preserved c =
    let l = c.loop-i in
    (omega arith, sym (vacant_so_far c.args.widths.now c.args.values.now l.i (omega arith) (omega arith) (sym c.is_held.ensures ∙ c.if-not-is_held.false)) ∙ l.invariant.1)

pub returns : goal.returns
returns c =
    let l = c.loop-i in
    sym (all-vacant c.args.widths.now _ l.i (omega arith)) ∙ l.invariant.1
