-- `report::tidy::is_blank` meets its contract: what is left decides.
use Rattle.report.proofs.Writing.Blank.{blank_so_far, not_blank, all_blank}
use mathlib.Core.Path.{sym, ◌∙◌}
use native.Mathlib.Omega.{arith}
use Rattle.report.proofs.tidy.is_blank.Goals as goal

pub returns-then-text-i-ne0 : goal.returns-then-text-i-ne0
returns-then-text-i-ne0 c =
    let l = c.loop-i in
    sym (not_blank c.args.text.now l.i (omega arith) c.if-text-i-ne0.true) ∙ l.invariant

pub loop-i-preserved : goal.loop-i-preserved
loop-i-preserved c =
    let l = c.loop-i in
    sym (blank_so_far c.args.text.now l.i (omega arith) c.if-text-i-ne0.false) ∙ l.invariant

pub returns : goal.returns
returns c =
    let l = c.loop-i in
    sym (all_blank c.args.text.now l.i (omega arith)) ∙ l.invariant
