-- The slots as a stretch of a frame.
use mathlib.Core.Path.{◌≡◌, refl, sym, ap, ◌∙◌}
use mathlib.Core.Bool.{Bool, true, false, not}
use mathlib.Core.Logic.{◌⊎◌, inl, inr, ⊎_elim}
use Prim.Native.Nat.{ℕ, zero, suc, ◌+◌}
use native.Mathlib.Omega.{arith}
use mathlib.Core.List.{List, [], ◌∷◌}
use lib.ListN.{length}
use lib.Dec.{eqb}
use borrow.Author.Tests.{eqb-true, eq-eqb, not-true}
use Rattle.rows.specs.declared.refusal.Refusal.TheVariants.{Gap}
use Rattle.rows.specs.Runs.Questions.{unless}
use Rattle.rows.specs.Layout.{slot_rows, Slots}
use Rattle.rows.specs.Runs.Verdict.{empty, later, slots_verdict}
use Rattle.rows.specs.Kept.{Kept, Empty, AllEmpty, LaterKept, SlotsKept}
use Rattle.rows.specs.Faults.{LaterFault, SlotsFault}
use Rattle.rows.proofs.Rules.Outcomes.{false_not_true, and_both, both_and}
use Rattle.rows.proofs.Rules.Judged.{Judges, unasked, asked, join, choice, restated, widened}
use Rattle.rows.proofs.Rules.JudgedRows.{tested, shifted-rises, rises, Rises, rows}

pub empty_is : (vs : List ℕ) → empty vs ≡ true → Empty vs
unfolding empty
empty_is [] e = tt
empty_is (v ∷ vs) e = let q = and_both (eqb v 0) (empty vs) e in (eqb-true v 0 q.0, empty_is vs q.1)

pub is_empty : (vs : List ℕ) → Empty vs → empty vs ≡ true
unfolding empty
is_empty [] h = refl
is_empty (v ∷ vs) h = both_and (eqb v 0) (empty vs) (eq-eqb v 0 h.0) (is_empty vs h.1)

-- ---- where slots end

-- the bit behind n slots that start at the bit a
abbrev pub behind : Slots → ℕ → ℕ → ℕ
behind k at zero = at
behind k at (suc n) = behind k (at + k.bits) n

-- the rows of a slot rise within its bits: one test on the table
abbrev pub SlotRises : Slots → Type 0
SlotRises k = rises 0 k.bits k.rows ≡ true

slot-rises : (k : Slots) (at : ℕ) → SlotRises k → Rises at (at + k.bits) (slot_rows k at)
slot-rises k at h = let q : at + 0 ≡ at = omega arith in rw q at (shifted-rises at 0 k.bits k.rows (tested 0 k.bits k.rows h))

-- ---- the gap

-- an empty slot has been seen: then all are empty
abbrev pub LaterHolds : Slots → Bool → ℕ → List (List ℕ) → Type 0
LaterHolds k true at vs = AllEmpty vs
LaterHolds k false at vs = LaterKept k at vs

gap_asked : (gap : Bool) (at : ℕ) → Judges at at (unless (not gap) (Gap at)) (gap ≡ false) (λ x. (gap ≡ true) × (x ≡ Gap at))
gap_asked gap at = restated
    (asked at at (not gap) (Gap at) (gap ≡ false) (not-true gap) (ap not) (omega arith) (omega arith))
    (λ g. g)
    (λ g. g)
    (λ x b. (open_gap gap b.0, b.1))
    (λ x b. (λ g. false_not_true (sym g ∙ b.0), b.1))
  where
    open_gap : (gap : Bool) → (gap ≡ false → ⊥) → gap ≡ true
    open_gap true h = refl
    open_gap false h = absurd (h refl)

-- what a slot and those behind it must be, by whether it is empty
abbrev Either : Slots → Bool → ℕ → List ℕ → List (List ℕ) → Type 0
Either k gap at v vs =
    (Empty v × AllEmpty vs) ⊎ ((Empty v → ⊥) × ((gap ≡ false) × (Kept [] (slot_rows k at) v × LaterHolds k gap (at + k.bits) vs)))

slot_holds : (k : Slots) (gap : Bool) (at : ℕ) (v : List ℕ) (vs : List (List ℕ)) → Either k gap at v vs → LaterHolds k gap at (v ∷ vs)
slot_holds k true at v vs = ⊎_elim (λ h. h) (λ h. absurd (false_not_true (sym h.1.0)))
slot_holds k false at v vs = ⊎_elim inl (λ h. inr (h.0, h.1.1))

holds_slot : (k : Slots) (gap : Bool) (at : ℕ) (v : List ℕ) (vs : List (List ℕ)) → LaterHolds k gap at (v ∷ vs) → Either k gap at v vs
holds_slot k true at v vs h = inl h
holds_slot k false at v vs h = ⊎_elim inl (λ u. inr (u.0, (refl, u.1))) h

-- ---- all slots

pub later_slots : (k : Slots) → SlotRises k → (gap : Bool) (at : ℕ) (vs : List (List ℕ))
    → Judges at (behind k at (length vs)) (later k gap at vs) (LaterHolds k gap at vs) (LaterFault k gap at vs)
unfolding later
later_slots k r true at [] = unasked at at (omega arith)
later_slots k r false at [] = unasked at at (omega arith)
later_slots k r gap at (v ∷ vs) =
    let next = at + k.bits in
    let end = behind k next (length vs) in
    restated
    (choice (empty v) (Empty v) (empty_is v) (is_empty v)
    (widened at end (omega arith) (omega arith) (later_slots k r true next vs))
    (join (gap_asked gap at) (join (rows at next [] (slot_rows k at) v (slot-rises k at r)) (later_slots k r gap next vs))))
    (slot_holds k gap at v vs)
    (holds_slot k gap at v vs)
    (λ x b. b)
    (λ x b. b)

pub all_slots : (k : Slots) → SlotRises k → (vs : List (List ℕ))
    → Judges k.first (behind k k.first (length vs)) (slots_verdict k vs) (SlotsKept k vs) (SlotsFault k vs)
unfolding slots_verdict
all_slots k r [] = unasked k.first k.first (omega arith)
all_slots k r (v ∷ vs) =
    let at = k.first in
    join (rows at (at + k.bits) [] (slot_rows k at) v (slot-rises k at r)) (later_slots k r false (at + k.bits) vs)
