-- `slots::silence::used` meets its contract: those passed and those used from here on are all.
use mathlib.Core.Path.{◌∙◌, sym}
use native.Mathlib.Omega.{arith}
use Rattle.slots.proofs.Loops.{used_all, used_end, used_more}
use native.Mathlib.Nat.{zero-add}
use Rattle.slots.proofs.silence.used.Goals as goal

pub loop-k-init : goal.loop-k-init
loop-k-init c = (omega arith, zero-add _)

pub returns-then-is_empty : goal.returns-then-is_empty
returns-then-is_empty c =
    let none = used_end c.args.slots.now c.loop-k.k (omega arith) (sym c.is_empty.ensures ∙ c.if-is_empty.true) in
    omega (arith, c.loop-k.invariant.1, none)

pub loop-k-preserved : goal.loop-k-preserved
loop-k-preserved c =
    let more = used_more c.args.slots.now c.loop-k.k (omega arith) (sym c.is_empty.ensures ∙ c.if-is_empty.false) in
    (omega arith, omega (arith, c.loop-k.invariant.1, more))

pub returns : goal.returns
returns c =
    let none = used_all c.args.slots.now c.loop-k.k (omega arith) in
    omega (arith, c.loop-k.invariant.1, none)
