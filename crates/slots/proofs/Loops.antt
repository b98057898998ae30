-- Loops over slots: one slot more, and the end.
use mathlib.Core.List.{List, [], ◌∷◌, map}
use Rattle.slots.specs.declared.slot.Slot.{Slot}
use Prim.Native.Nat.{◌+◌, ◌<◌, ◌≤◌, ℕ, ◌-◌, suc, min}
use mathlib.Core.Path.{◌∙◌, ◌≡◌, ap, ap₂, refl, sym}
use native.Mathlib.Numerals.{add-one}
use native.Mathlib.Omega.{arith}
use lib.ListN.{drop, drop_of_length-le, get_or, length, length-take, take, replicate}
use lib.Seq.{drop-cons, get_or-take}
use Rattle.bits.specs.declared.words.Words.{Words}
use Rattle.slots.specs.Slots.{no_slot, slot_parts, tidy_slots, used_among, vacant}
use Rattle.slots.specs.Runs.{slot_pushed, slots_pushed, widths_in}
use mathlib.Core.Bool.{Bool, ◌&&◌, cond, false, true}
use Rattle.rows.specs.Runs.Verdict.{empty}
use lib.Dec.{ltb}
use borrow.Author.Tests.{ltb-false, ltb-true}
use Rattle.slots.proofs.Vacant.{none_held}

module _ (n : ℕ) (ss : List Slot) (i : ℕ) where
  -- the first n slots from slot i on
  pub one_more : i < n → i < length ss → drop i (take n ss) ≡ get_or ss i no_slot ∷ drop (i + 1) (take n ss)
  one_more h k =
      let l : i < length (take n ss) = simp length-take (omega arith) in
      drop-cons (take n ss) i no_slot l
      ∙ ap₂ (λ (s : Slot) (j : ℕ). s ∷ drop j (take n ss)) (get_or-take n ss i no_slot h) (sym (add-one i))

  pub none_left : n ≤ i → drop i (take n ss) ≡ []
  none_left h = let l : length (take n ss) ≤ i = simp length-take (omega arith) in drop_of_length-le (take n ss) l

  pub no_more : min n (length ss) ≤ i → drop i (take n ss) ≡ []
  no_more h = let l : length (take n ss) ≤ i = simp length-take (omega arith) in drop_of_length-le (take n ss) l

-- ---- slots pushed one behind the other

module _ (x : Words) (ws : List ℕ) where
  pub one_pushed : (r : Words) (s : Slot) (ss : List Slot) → r ≡ slot_pushed x ws s → slots_pushed r ws ss ≡ slots_pushed x ws (s ∷ ss)
  unfolding slots_pushed
  one_pushed r s ss e = ap (λ (y : Words). slots_pushed y ws ss) e

  pub all-pushed : slots_pushed x ws [] ≡ x
  unfolding slots_pushed
  all-pushed = refl

-- ---- looking for something where nothing may be

module _ (ws : List ℕ) (n : ℕ) (ss : List Slot) where
  -- what is left to look at from slot i on
  abbrev pub rest : ℕ → Bool
  rest i = tidy_slots ws (n - i) (drop i ss)

  by_side : (i : ℕ) (s : Slot) (l : List Slot) (b : Bool) → ltb i n ≡ b
      → tidy_slots ws (n - i) (s ∷ l) ≡ vacant (cond b ws (replicate 5 0)) (slot_parts s) && tidy_slots ws (n - suc i) l
  unfolding tidy_slots
  by_side i s l true e =
      let m : n - i ≡ suc (n - suc i) = omega (arith, ltb-true i n e) in
      ap (λ (j : ℕ). tidy_slots ws j (s ∷ l)) m
  by_side i s l false e =
      let m : n - i ≡ 0 = omega (arith, ltb-false i n e) in
      let o : n - suc i ≡ 0 = omega (arith, ltb-false i n e) in
      rw (m, o) (ap (λ (b : Bool). b && tidy_slots ws 0 l) (sym (none_held (slot_parts s))))

  one_slot : (i : ℕ) → i < length ss → rest i ≡ vacant (widths_in i n ws) (slot_parts (get_or ss i no_slot)) && rest (i + 1)
  one_slot i h =
      ap (tidy_slots ws (n - i)) (drop-cons ss i no_slot h)
      ∙ by_side i (get_or ss i no_slot) (drop (suc i) ss) (ltb i n) refl
      ∙ ap (λ (j : ℕ). vacant (widths_in i n ws) (slot_parts (get_or ss i no_slot)) && rest j) (sym (add-one i))

  pub tidy_so_far : (i : ℕ) → i < length ss → vacant (widths_in i n ws) (slot_parts (get_or ss i no_slot)) ≡ true → rest i ≡ rest (i + 1)
  tidy_so_far i h e = one_slot i h ∙ ap (λ (b : Bool). b && rest (i + 1)) e

  pub not_tidy : (i : ℕ) → i < length ss → vacant (widths_in i n ws) (slot_parts (get_or ss i no_slot)) ≡ false → rest i ≡ false
  not_tidy i h e = one_slot i h ∙ ap (λ (b : Bool). b && rest (i + 1)) e

  pub all-tidy : (i : ℕ) → length ss ≤ i → rest i ≡ true
  unfolding tidy_slots
  all-tidy i h = ap (tidy_slots ws (n - i)) (drop_of_length-le ss h)

-- ---- counting those used

module _ (ss : List Slot) (i : ℕ) where
  -- those used from slot i on
  abbrev pub used_from : ℕ → ℕ
  used_from j = used_among (map slot_parts (drop j ss))

  pub used_more : i < length ss → empty (slot_parts (get_or ss i no_slot)) ≡ false → used_from i ≡ suc (used_from (i + 1))
  unfolding used_among
  used_more h e = rw (add-one i, drop-cons ss i no_slot h, e)

  pub used_end : i < length ss → empty (slot_parts (get_or ss i no_slot)) ≡ true → used_from i ≡ 0
  unfolding used_among
  used_end h e = rw (drop-cons ss i no_slot h, e)

  pub used_all : length ss ≤ i → used_from i ≡ 0
  unfolding used_among
  used_all h = ap (λ (l : List Slot). used_among (map slot_parts l)) (drop_of_length-le ss h)
