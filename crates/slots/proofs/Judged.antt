-- Slots judged one behind the other, as the categories do it: the first is used, a later one may be empty.
use Rattle.rows.specs.Refusals.{Verdict}
use mathlib.Core.Bool.{Bool, false, true, not, cond}
use Rattle.rows.specs.declared.refusal.Refusal.TheVariants.{Gap}
use mathlib.Core.List.{List, [], ◌∷◌, map}
use Rattle.slots.specs.declared.slot.Slot.{Slot}
use Rattle.rows.specs.Layout.{Slots, slot_rows}
use Prim.Native.Nat.{◌+◌, ◌*◌, ◌<◌, ◌≤◌, suc, zero, ℕ}
use Rattle.std.specs.Prelude.{Ok}
use Rattle.slots.proofs.Loops.{one_more, none_left}
use Rattle.rows.specs.Runs.Questions.{◌then◌, unless}
use mathlib.Core.Path.{◌∙◌, ◌≡◌, ap, refl, sym}
use native.Mathlib.Omega.{arith}
use Rattle.rows.specs.Values.{each}
use Rattle.rows.specs.Runs.Verdict.{empty, later, slots_verdict, walk}
use lib.ListN.{drop, get_or, length, take}
use Rattle.slots.specs.Slots.{no_slot, slot_values, slots_values}
use Rattle.rows.proofs.Rules.Outcomes.{then_assoc, then_fine}

-- one slot more behind the first, where it is empty and where it is used
module _ (k : Slots) (at : ℕ) (v : List ℕ) (vs : List (List ℕ)) where
  pub passed_empty : (gap : Bool) → empty v ≡ true → later k gap at (v ∷ vs) ≡ later k true (at + k.bits) vs
  unfolding later
  passed_empty gap e = rw e refl

  pub passed_used : (gap : Bool) → empty v ≡ false
      → later k gap at (v ∷ vs) ≡ unless (not gap) (Gap at) then walk [] (slot_rows k at) v then later k gap (at + k.bits) vs
  unfolding later
  passed_used gap e = rw e refl

-- ---- slots behind what was found before

-- what has been found once all later slots were judged, each behind what was found before it; `gap`: an empty one has been seen
abbrev pub later_judged : Slots → Verdict → Bool → ℕ → List (List ℕ) → Verdict
later_judged k found gap at [] = found
later_judged k found gap at (v ∷ vs) =
    cond (empty v) (later_judged k found true (at + k.bits) vs)
    (later_judged k (found then unless (not gap) (Gap at) then walk [] (slot_rows k at) v) gap (at + k.bits) vs)

one_judged : (b : Bool) (found u w p q x y : Verdict) → x ≡ found then p → y ≡ (found then u then w) then q → cond b x y ≡ found then cond b p (u then w then q)
one_judged true found u w p q x y e f = e
one_judged false found u w p q x y e f = f ∙ then_assoc found (u then w) q ∙ ap (λ (z : Verdict). found then z) (then_assoc u w q)

pub later-found : (k : Slots) (found : Verdict) (gap : Bool) (at : ℕ) (vs : List (List ℕ)) → later_judged k found gap at vs ≡ found then later k gap at vs
unfolding later
later-found k found gap at [] = sym (then_fine found)
later-found k found gap at (v ∷ vs) =
    one_judged (empty v) found (unless (not gap) (Gap at)) (walk [] (slot_rows k at) v) (later k true (at + k.bits) vs) (later k gap (at + k.bits) vs) _ _
    (later-found k found true (at + k.bits) vs)
    (later-found k (found then unless (not gap) (Gap at) then walk [] (slot_rows k at) v) gap (at + k.bits) vs)

-- the first slot, and the rest
pub slots_found : (k : Slots) (found : Verdict) (v : List ℕ) (vs : List (List ℕ))
    → later_judged k (found then walk [] (slot_rows k k.first) v) false (k.first + k.bits) vs ≡ found then slots_verdict k (v ∷ vs)
unfolding slots_verdict
slots_found k found v vs =
    later-found k (found then walk [] (slot_rows k k.first) v) false (k.first + k.bits) vs
    ∙ then_assoc found (walk [] (slot_rows k k.first) v) (later k false (k.first + k.bits) vs)

-- the values of the first n slots, one by one
pub by_index : (k : Slots) (n : ℕ) (ss : List Slot) → n ≤ length ss → map (slot_values k) (take n ss) ≡ each n (λ i. slot_values k (get_or ss i no_slot))
by_index k zero ss h = refl
by_index k (suc n) [] h = absurd (omega arith)
by_index k (suc n) (s ∷ ss) h = ap (λ (l : List (List ℕ)). slot_values k s ∷ l) (by_index k n ss (omega arith))

-- so what is found in a category's n + 1 slots, the first and n later ones, is the verdict of all of them
pub run-found : (k : Slots) (n : ℕ) (ss : List Slot) (found run : Verdict) → k.count ≡ suc n → suc n ≤ length ss
    → run ≡ later_judged k (found then walk [] (slot_rows k k.first) (slot_values k (get_or ss 0 no_slot))) false (k.first + k.bits) (each n (λ i. slot_values k (get_or ss (suc i) no_slot)))
    → run ≡ found then slots_verdict k (slots_values k ss)
run-found k n ss found run c h e =
    e
    ∙ slots_found k found _ _
    ∙ ap (λ (vs : List (List ℕ)). found then slots_verdict k vs) (sym (by_index k (suc n) ss h) ∙ ap (λ (m : ℕ). map (slot_values k) (take m ss)) (sym c))

-- ---- slots judged one by one

module _ (k : Slots) (ss : List Slot) where
  -- what is found in the slots from slot i on, the first of them apart
  abbrev pub from_slot : Bool → ℕ → Verdict
  from_slot gap i = later k gap (k.first + k.bits * i) (map (slot_values k) (drop i (take k.count ss)))

  pub first_slot : 1 ≤ k.count → k.count ≤ length ss
      → slots_verdict k (slots_values k ss) ≡ walk [] (slot_rows k (k.first + k.bits * 0)) (slot_values k (get_or ss 0 no_slot)) then from_slot false 1
  unfolding slots_verdict
  first_slot h l =
      let here : k.first + k.bits * 0 ≡ k.first = omega arith in
      let behind : k.first + k.bits * 1 ≡ k.first + k.bits = omega arith in
      ap (λ (l : List Slot). slots_verdict k (map (slot_values k) l)) (one_more k.count ss 0 (omega arith) (omega arith)) ∙ rw (here, behind) refl

  step : (i : ℕ) → (k.first + k.bits * i) + k.bits ≡ k.first + k.bits * (i + 1)
  step i = omega arith

  pub empty_slot : (gap : Bool) (i : ℕ) → i < k.count → k.count ≤ length ss → empty (slot_values k (get_or ss i no_slot)) ≡ true
      → from_slot gap i ≡ from_slot true (i + 1)
  empty_slot gap i h l e =
      ap (λ (l : List Slot). later k gap (k.first + k.bits * i) (map (slot_values k) l)) (one_more k.count ss i h (omega arith))
      ∙ passed_empty k (k.first + k.bits * i) _ _ gap e
      ∙ rw (step i) refl

  pub used_slot : (gap : Bool) (i : ℕ) → i < k.count → k.count ≤ length ss → empty (slot_values k (get_or ss i no_slot)) ≡ false
      → from_slot gap i
      ≡ unless (not gap) (Gap (k.first + k.bits * i))
      then walk [] (slot_rows k (k.first + k.bits * i)) (slot_values k (get_or ss i no_slot))
      then from_slot gap (i + 1)
  used_slot gap i h l e =
      ap (λ (l : List Slot). later k gap (k.first + k.bits * i) (map (slot_values k) l)) (one_more k.count ss i h (omega arith))
      ∙ passed_used k (k.first + k.bits * i) _ _ gap e
      ∙ rw (step i) refl

  pub no_slot_left : (gap : Bool) (i : ℕ) → k.count ≤ i → from_slot gap i ≡ Ok tt
  unfolding later
  no_slot_left gap i h = rw (none_left k.count ss i h) refl
