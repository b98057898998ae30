-- Slots in number 11: what the test finds, and what must be zero.
use mathlib.Core.Bool.{Bool, cond, false, true}
use Rattle.rows.specs.Kept.{Empty}
use mathlib.Core.List.{List, [], ◌∷◌}
use Rattle.slots.specs.declared.slot.Slot.{Slot}
use Rattle.slots.specs.Slots.{Vacant, no_slot, slot_parts, tidy_slots, vacant}
use Prim.Native.Nat.{◌<◌, ◌≤◌, suc, zero, ℕ}
use mathlib.Core.Path.{◌≡◌, refl}
use Rattle.rows.proofs.Rules.Outcomes.{and_both, both_and}
use native.Mathlib.Omega.{arith}
use Rattle.rows.specs.Runs.Verdict.{empty}
use Rattle.rows.proofs.Rules.JudgedSlots.{empty_is, is_empty}
use borrow.Author.Tests.{eq-eqb, eqb-false, eqb-true}
use lib.Dec.{eqb}
use lib.ListN.{get_or}
use native.Mathlib.Nat.{le_of_suc-le-suc, not-suc-le-zero}

-- ---- one slot

field_vacant : (w v : ℕ) (b : Bool) → eqb w 0 ≡ b → cond b (eqb v 0) true ≡ true → w ≡ 0 → v ≡ 0
field_vacant w v true e h z = eqb-true v 0 h
field_vacant w v false e h z = absurd (eqb-false w 0 e z)

vacant_field : (w v : ℕ) (b : Bool) → eqb w 0 ≡ b → (w ≡ 0 → v ≡ 0) → cond b (eqb v 0) true ≡ true
vacant_field w v true e h = eq-eqb v 0 (h (eqb-true w 0 e))
vacant_field w v false e h = refl

vacant_is : (ws vs : List ℕ) → vacant ws vs ≡ true → Vacant ws vs
unfolding vacant
vacant_is [] vs e = tt
vacant_is (w ∷ ws) [] e = tt
vacant_is (w ∷ ws) (v ∷ vs) e =
    let q = and_both (cond (eqb w 0) (eqb v 0) true) (vacant ws vs) e in
    (field_vacant w v (eqb w 0) refl q.0, vacant_is ws vs q.1)

is_vacant : (ws vs : List ℕ) → Vacant ws vs → vacant ws vs ≡ true
unfolding vacant
is_vacant [] vs h = refl
is_vacant (w ∷ ws) [] h = refl
is_vacant (w ∷ ws) (v ∷ vs) h = both_and (cond (eqb w 0) (eqb v 0) true) (vacant ws vs) (vacant_field w v (eqb w 0) refl h.0) (is_vacant ws vs h.1)

-- ---- all of them: the first n slots, and the others

abbrev pub First : List ℕ → ℕ → List Slot → Type 0
First ws n ss = (i : ℕ) → i < n → Vacant ws (slot_parts (get_or ss i no_slot))

abbrev pub Others : ℕ → List Slot → Type 0
Others n ss = (i : ℕ) → n ≤ i → Empty (slot_parts (get_or ss i no_slot))

zeros-vacant : (ws vs : List ℕ) → Empty vs → Vacant ws vs
zeros-vacant [] vs h = tt
zeros-vacant (w ∷ ws) [] h = tt
zeros-vacant (w ∷ ws) (v ∷ vs) h = (λ z. h.0, zeros-vacant ws vs h.1)

no_slot_lem : Empty (slot_parts no_slot)
no_slot_lem = (refl, (refl, (refl, (refl, (refl, tt)))))

pub first-tidy : (ws : List ℕ) (n : ℕ) (ss : List Slot) → tidy_slots ws n ss ≡ true → First ws n ss
unfolding tidy_slots
first-tidy ws n [] e i h = zeros-vacant ws (slot_parts no_slot) no_slot_lem
first-tidy ws zero (s ∷ ss) e i h = absurd (not-suc-le-zero h)
first-tidy ws (suc n) (s ∷ ss) e zero h = vacant_is ws (slot_parts s) (and_both (vacant ws (slot_parts s)) (tidy_slots ws n ss) e).0
first-tidy ws (suc n) (s ∷ ss) e (suc i) h = first-tidy ws n ss (and_both (vacant ws (slot_parts s)) (tidy_slots ws n ss) e).1 i (le_of_suc-le-suc h)

pub others-tidy : (ws : List ℕ) (n : ℕ) (ss : List Slot) → tidy_slots ws n ss ≡ true → Others n ss
unfolding tidy_slots
others-tidy ws n [] e i h = no_slot_lem
others-tidy ws zero (s ∷ ss) e zero h = empty_is (slot_parts s) (and_both (empty (slot_parts s)) (tidy_slots ws zero ss) e).0
others-tidy ws zero (s ∷ ss) e (suc i) h = others-tidy ws zero ss (and_both (empty (slot_parts s)) (tidy_slots ws zero ss) e).1 i (omega arith)
others-tidy ws (suc n) (s ∷ ss) e zero h = absurd (not-suc-le-zero h)
others-tidy ws (suc n) (s ∷ ss) e (suc i) h = others-tidy ws n ss (and_both (vacant ws (slot_parts s)) (tidy_slots ws n ss) e).1 i (le_of_suc-le-suc h)

pub slots_tidy : (ws : List ℕ) (n : ℕ) (ss : List Slot) → First ws n ss → Others n ss → tidy_slots ws n ss ≡ true
unfolding tidy_slots
slots_tidy ws n [] f g = refl
slots_tidy ws zero (s ∷ ss) f g =
    both_and (empty (slot_parts s)) (tidy_slots ws zero ss) (is_empty (slot_parts s) (g 0 (omega arith)))
    (slots_tidy ws zero ss (λ i h. absurd (not-suc-le-zero h)) (λ i h. g (suc i) (omega arith)))
slots_tidy ws (suc n) (s ∷ ss) f g =
    both_and (vacant ws (slot_parts s)) (tidy_slots ws n ss) (is_vacant ws (slot_parts s) (f 0 (omega arith)))
    (slots_tidy ws n ss (λ i h. f (suc i) (omega arith)) (λ i h. g (suc i) (omega arith)))
