-- `slots::listed::check_slots` meets its contract: what is found in the slots that are left is found in all of them.
use borrow.Author.Rules.{rules}
use mathlib.Core.Bool.{Bool, false}
use mathlib.Core.List.{[]}
use mathlib.Core.Path.{◌≡◌, refl, ap, ◌∙◌, sym}
use Prim.Native.Nat.{◌+◌, ◌*◌, ◌<◌, ◌≤◌}
use native.Mathlib.Omega.{arith}
use lib.ListN.{get_or, length}
use Rattle.rows.specs.Layout.{slot_rows}
use Rattle.rows.specs.Refusals.{Verdict}
use Rattle.rows.specs.Runs.Questions.{◌then◌}
use Rattle.rows.specs.Runs.Verdict.{empty, walk}
use Rattle.slots.specs.Slots.{slot_values, no_slot}
use Rattle.slots.proofs.Judged.{from_slot, first_slot, empty_slot, used_slot, no_slot_left}
use Rattle.slots.proofs.listed.check_slots.Goals as goal
use Rattle.slots.proofs.listed.check_slots.Goals.{then-is_empty, else-is_empty+in_ok-unless+in_ok-check-2}

pub returns-in_err-check : goal.returns-in_err-check
returns-in_err-check g c =
    let k = g.C.Listed.slots in
    let ss = c.args.slots.now in
    let room : (1 ≤ k.count) × (k.count ≤ length ss) = (omega (arith, g.met.C.Listed.one, g.met.C.Listed.count), omega (arith, g.met.C.Listed.sixteen, g.met.C.Listed.count)) in
    let found : c.check.result ≡ walk [] (slot_rows k (k.first + k.bits * 0)) (slot_values k (get_or ss 0 no_slot)) = rw (← c.starts.ensures) c.check.ensures in
    rw (first_slot k ss room.0 room.1, ← found) (search rules)

pub loop-k-init : goal.loop-k-init
loop-k-init g c =
    let k = g.C.Listed.slots in
    let ss = c.args.slots.now in
    let room : (1 ≤ k.count) × (k.count ≤ length ss) = (omega (arith, g.met.C.Listed.one, g.met.C.Listed.count), omega (arith, g.met.C.Listed.sixteen, g.met.C.Listed.count)) in
    let found : c.check.result ≡ walk [] (slot_rows k (k.first + k.bits * 0)) (slot_values k (get_or ss 0 no_slot)) = rw (← c.starts.ensures) c.check.ensures in
    first_slot k ss room.0 room.1 ∙ ap (λ (v : Verdict). v then from_slot k ss false 1) (sym found ∙ c.in_ok-check.was)

pub returns-in_err-unless : goal.returns-in_err-unless
returns-in_err-unless g c =
    let k = g.C.Listed.slots in
    let ss = c.args.slots.now in
    let i = c.loop-k.k in
    let gap = c.loop-k.gap in
    let here : i < k.count = omega (arith, c.COUNT-k-end.ensures, g.met.C.Listed.count) in
    let room : k.count ≤ length ss = omega (arith, g.met.C.Listed.sixteen, g.met.C.Listed.count) in
    let used : empty (slot_values k (get_or ss i no_slot)) ≡ false = sym c.is_empty.ensures ∙ c.if-is_empty.false in
    rw (c.loop-k.invariant, used_slot k ss gap i here room used, ← c.starts-at.ensures, ← c.unless.ensures) (search rules)

pub returns-in_err-check-2 : goal.returns-in_err-check-2
returns-in_err-check-2 g c =
    let k = g.C.Listed.slots in
    let ss = c.args.slots.now in
    let i = c.loop-k.k in
    let gap = c.loop-k.gap in
    let here : i < k.count = omega (arith, c.COUNT-k-end.ensures, g.met.C.Listed.count) in
    let room : k.count ≤ length ss = omega (arith, g.met.C.Listed.sixteen, g.met.C.Listed.count) in
    let used : empty (slot_values k (get_or ss i no_slot)) ≡ false = sym c.is_empty.ensures ∙ c.if-is_empty.false in
    rw (c.loop-k.invariant, used_slot k ss gap i here room used, ← c.starts-at.ensures, ← c.unless.ensures, ← c.check-else-is_empty.ensures) (search rules)

pub loop-k-preserved : goal.loop-k-preserved
loop-k-preserved g c =
    let k = g.C.Listed.slots in
    let ss = c.args.slots.now in
    let i = c.loop-k.k in
    let gap = c.loop-k.gap in
    let here : i < k.count = omega (arith, c.COUNT-k-end.ensures, g.met.C.Listed.count) in
    let room : k.count ≤ length ss = omega (arith, g.met.C.Listed.sixteen, g.met.C.Listed.count) in
    elim c.if-is_empty.branch [
      | then-is_empty w ↦ c.loop-k.invariant ∙ empty_slot k ss gap i here room (sym c.is_empty.ensures ∙ w.if-is_empty.true) ∙ ap (λ (b : Bool). from_slot k ss b (i + 1)) (sym w.gap-is)
      | else-is_empty+in_ok-unless+in_ok-check-2 w ↦
          let passed : from_slot k ss gap i ≡ from_slot k ss gap (i + 1) =
          used_slot k ss gap i here room (sym c.is_empty.ensures ∙ w.if-is_empty.false)
          ∙ rw (← w.starts-at.ensures, ← w.unless.ensures, ← w.check-else-is_empty.ensures) (rw (w.in_ok-unless.was, w.in_ok-check-2.was) refl)
          in
          c.loop-k.invariant ∙ passed ∙ ap (λ (b : Bool). from_slot k ss b (i + 1)) (sym w.gap-is)
    ]

pub returns : goal.returns
returns g c =
    let k = g.C.Listed.slots in
    let all : k.count ≤ c.loop-k.k = omega (arith, c.COUNT-k-end.ensures, g.met.C.Listed.count) in
    rw (c.loop-k.invariant, no_slot_left k c.args.slots.now c.loop-k.gap c.loop-k.k all) (search rules)
