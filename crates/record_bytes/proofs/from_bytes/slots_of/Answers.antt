-- `record_bytes::from_bytes::slots_of` meets its contract: the slots passed are read.
use mathlib.Core.Path.{◌≡◌, ap, refl, ◌∙◌}
use mathlib.Core.Bool.{Bool, true, false, cond}
use mathlib.Core.List.{List, ◌++◌}
use Prim.Native.Nat.{ℕ, ◌+◌, ◌-◌, ◌*◌}
use native.Mathlib.Omega.{arith}
use lib.ListN.{replicate, set}
use Rattle.rows.specs.Values.{each}
use Rattle.rows.proofs.Layouts.Filling.{fill, filled}
use Rattle.slots.specs.declared.slot.Slot.{Slot}
use Rattle.slots.specs.Slots.{no_slot}
use Rattle.record_bytes.specs.Unpacked.{misplaced, slot_at, slots_from, slots_or_misplaced}
use Rattle.record_bytes.proofs.from_bytes.slots_of.Goals as goal

-- the last slot tells of what is stray
last_marked : (stray : Bool) (l : List ℕ) → set (slots_from l) 15 (cond stray misplaced (slot_at l 221)) ≡ slots_or_misplaced stray (slots_from l)
last_marked true l = refl
last_marked false l = refl

pub loop-k-init : goal.loop-k-init
loop-k-init c = rw c.none-slots.ensures refl

pub loop-k-preserved : goal.loop-k-preserved
loop-k-preserved c =
    let l = c.loop-k in
    fill 16 l.k (λ i. slot_at c.args.bytes.now (41 + 12 * i)) no_slot _ l.slots (omega arith) l.invariant c.slot_at.ensures

pub returns : goal.returns
returns c =
    let l = c.args.bytes.now in
    let slot : ℕ → Slot = λ i. slot_at l (41 + 12 * i) in
    let last : c.loop-k.k ≡ 16 = omega arith in
    let all : c.loop-k.slots ≡ slots_from l =
    filled 16 slot no_slot c.loop-k.slots (c.loop-k.invariant ∙ ap (λ (k : ℕ). each k slot ++ replicate (16 - k) no_slot) last)
    in
    (λ i. set (all i) 15 (c.last_slot.ensures i)) ∙ last_marked c.args.stray l
