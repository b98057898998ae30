-- `slots::encode::push_slots` meets its contract: what is left to push, behind what stands, is the whole.
use Prim.Native.Nat.{◌+◌}
use mathlib.Core.Path.{ap, ◌∙◌, sym}
use native.Mathlib.Omega.{arith}
use lib.ListN.{drop, take, get_or}
use Rattle.slots.specs.Runs.{slots_pushed}
use Rattle.slots.proofs.Loops.{all-pushed, no_more, one_pushed, one_more}
use Rattle.slots.specs.Slots.{no_slot}
use Rattle.slots.proofs.encode.push_slots.Goals as goal

pub loop-k-preserved : goal.loop-k-preserved
loop-k-preserved c =
    let l = c.loop-k in
    let a = c.args in
    let ws = a.widths.now in
    let ss = a.slots.now in
    one_pushed l.next ws c.push_slot-next.result (get_or ss l.k no_slot) (drop (l.k + 1) (take a.count ss)) c.push_slot-next.ensures
    ∙ ap (slots_pushed l.next ws) (sym (one_more a.count ss l.k (omega arith) (omega arith)))
    ∙ l.invariant

pub returns : goal.returns
returns c =
    let l = c.loop-k in
    let a = c.args in
    let ws = a.widths.now in
    sym (ap (slots_pushed l.next ws) (no_more a.count a.slots.now l.k (omega arith)) ∙ all-pushed l.next ws) ∙ l.invariant
