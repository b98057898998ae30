-- `slots::silence::are_tidy` meets its contract: what is left decides.
use Prim.Native.Nat.{◌-◌, ℕ}
use mathlib.Core.Path.{◌∙◌, ◌≡◌, ap, sym}
use Rattle.slots.proofs.Loops.{all-tidy, not_tidy, tidy_so_far}
use native.Mathlib.Omega.{arith}
use Rattle.slots.specs.Slots.{tidy_slots}
use Rattle.slots.proofs.silence.are_tidy.Goals as goal

pub loop-i-init : goal.loop-i-init
loop-i-init c =
    let all : c.args.count - 0 ≡ c.args.count = omega arith in
    (omega arith, ap (λ (n : ℕ). tidy_slots c.args.widths.now n c.args.slots.now) all)

pub returns-then-not-is_tidy : goal.returns-then-not-is_tidy
returns-then-not-is_tidy c =
    let a = c.args in
    sym (not_tidy a.widths.now a.count a.slots.now c.loop-i.i (omega arith) (sym c.is_tidy.ensures ∙ c.if-not-is_tidy.true)) ∙ c.loop-i.invariant.1

pub loop-i-preserved : goal.loop-i-preserved
loop-i-preserved c =
    let a = c.args in
    (omega arith, sym (tidy_so_far a.widths.now a.count a.slots.now c.loop-i.i (omega arith) (sym c.is_tidy.ensures ∙ c.if-not-is_tidy.false)) ∙ c.loop-i.invariant.1)

pub returns : goal.returns
returns c =
    let a = c.args in
    sym (all-tidy a.widths.now a.count a.slots.now c.loop-i.i (omega arith)) ∙ c.loop-i.invariant.1
