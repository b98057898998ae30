-- Slots one behind the other.
use mathlib.Core.Path.{◌≡◌, refl, sym, ap, ◌∙◌}
use Prim.Native.Nat.{ℕ, ◌+◌, ◌*◌, ◌<◌}
use native.Mathlib.Omega.{arith}
use native.Mathlib.Numerals.{add-one}
use mathlib.Core.List.{List, [], ◌∷◌, ◌++◌}
use lib.ListN.{length, get_or, take}
use lib.Seq.{length-take-le, sets, take-suc}
use Rattle.slots.specs.declared.slot.Slot.{Slot}
use Rattle.slots.specs.Slots.{no_slot}
use Rattle.record_bytes.specs.Packed.{slot_bytes, slots_bytes}
use Rattle.lent.proofs.Chains.{sets-sets}

pub length_slots : (ss : List Slot) → length (slots_bytes ss) ≡ 12 * length ss
unfolding slots_bytes
length_slots [] = refl
length_slots (s ∷ ss) = omega (arith, length_slots ss)

slots_append : (ss us : List Slot) → slots_bytes (ss ++ us) ≡ slots_bytes ss ++ slots_bytes us
unfolding slots_bytes
slots_append [] us = refl
slots_append (s ∷ ss) us = ap (λ (t : List ℕ). slot_bytes s ++ t) (slots_append ss us)

slots_suc : (ss : List Slot) (k : ℕ) → k < length ss → slots_bytes (take (k + 1) ss) ≡ slots_bytes (take k ss) ++ slot_bytes (get_or ss k no_slot)
unfolding slots_bytes
slots_suc ss k h =
    ap (λ (n : ℕ). slots_bytes (take n ss)) (add-one k)
    ∙ ap slots_bytes (take-suc ss k no_slot h)
    ∙ slots_append (take k ss) (get_or ss k no_slot ∷ [])

-- one slot more
pub slot_more : (l m r : List ℕ) (at k : ℕ) (ss : List Slot) → k < length ss → m ≡ sets l at (slots_bytes (take k ss)) → r ≡ sets m (at + 12 * k) (slot_bytes (get_or ss k no_slot))
    → r ≡ sets l at (slots_bytes (take (k + 1) ss))
slot_more l m r at k ss h x y =
    let t : List ℕ = slots_bytes (take k ss) in
    let u : List ℕ = slot_bytes (get_or ss k no_slot) in
    let long : length t ≡ 12 * k = length_slots (take k ss) ∙ ap (λ (n : ℕ). 12 * n) (length-take-le k ss (omega arith)) in
    y
    ∙ ap (λ (d : List ℕ). sets d (at + 12 * k) u) x
    ∙ ap (λ (n : ℕ). sets (sets l at t) (at + n) u) (sym long)
    ∙ sets-sets t u l at
    ∙ ap (sets l at) (sym (slots_suc ss k h))
