-- The slots of a table and those of a record: what is computed of a table, and what follows for any slots.
use mathlib.Core.Bool.{Bool, ◌&&◌, true}
use Rattle.rows.specs.Kept.{Empty}
use mathlib.Core.List.{List, [], ◌++◌, ◌∷◌, map}
use Rattle.slots.specs.declared.slot.Slot.{Slot}
use Rattle.rows.specs.Layout.{Slots, slot_rows}
use Rattle.rows.proofs.Layouts.Lengths.{SlotsFilled, each_at, length-each, length-shifted}
use Prim.Native.Nat.{◌*◌, ◌+◌, ◌-◌, ◌<◌, ◌≤◌, suc, zero, ℕ}
use mathlib.Core.Path.{◌∙◌, ◌≡◌, ap, ap₂, refl, sym}
use Rattle.slots.proofs.Parts.{all_wide, empty-spread, length-sift, length-spread, sift-spread, spread-vacant, trues, vacant_again}
use Rattle.rows.proofs.Rules.Outcomes.{and_both, both_and}
use native.Mathlib.Omega.{arith}
use Rattle.rows.specs.Values.{cut, each, widths, flags, part_widths, spread}
use lib.ListN.{drop, get_or, length, length-append, length-map, length-replicate, replicate, take, get_or-append}
use Rattle.rows.specs.Runs.Verdict.{empty}
use Rattle.rows.proofs.Rules.JudgedSlots.{empty_is}
use lib.Dec.{eqb, leb, ltb}
use borrow.Author.Tests.{eqb-true, leb-true, ltb-true}
use Rattle.slots.specs.Slots.{no_slot, parts_from, sift, slot_from, slot_of, slot_parts, slot_values, slots_of, slots_values, tidy_slots, vacant}
use lib.Seq.{length-take-le, take_at}
use native.Mathlib.Nat.{suc_inj, suc-ne-zero}
use Rattle.bits.specs.Layout.{total}

-- ---- what is computed

-- a row for each field that a slot has, each at least one bit wide, side by side in the slot's bits, which one word takes, and at
-- most sixteen slots
abbrev pub suited : Slots → Bool
suited k =
    eqb (length k.rows) (trues (flags k.parts))
    && (all_wide (widths k.rows) && (eqb (total (widths k.rows)) k.bits && (ltb k.bits 64 && leb k.count 16)))

pub record Suited (k : Slots) : Type 0 where
  pub matched : length k.rows ≡ trues (flags k.parts)
  pub wide : all_wide (widths k.rows) ≡ true
  pub bits : total (widths k.rows) ≡ k.bits
  pub narrow : k.bits < 64
  pub few : k.count ≤ 16

pub is_suited : (k : Slots) → suited k ≡ true → Suited k
is_suited k h =
    let p = and_both (eqb (length k.rows) (trues (flags k.parts))) _ h in
    let q = and_both (all_wide (widths k.rows)) _ p.1 in
    let r = and_both (eqb (total (widths k.rows)) k.bits) _ q.1 in
    let n = and_both (ltb k.bits 64) _ r.1 in
    record { matched = eqb-true _ _ p.0; wide = q.0; bits = eqb-true _ _ r.0; narrow = ltb-true _ 64 n.0; few = leb-true _ 16 n.1 }

-- ---- one slot

parts_again : (vs : List ℕ) → length vs ≡ 5 → slot_parts (parts_from vs) ≡ vs
parts_again [] l = absurd (suc-ne-zero 4 (sym l))
parts_again (a ∷ []) l = absurd (suc-ne-zero 3 (sym (suc_inj l)))
parts_again (a ∷ b ∷ []) l = absurd (suc-ne-zero 2 (sym (suc_inj (suc_inj l))))
parts_again (a ∷ b ∷ c ∷ []) l = absurd (suc-ne-zero 1 (sym (suc_inj (suc_inj (suc_inj l)))))
parts_again (a ∷ b ∷ c ∷ d ∷ []) l = absurd (suc-ne-zero 0 (sym (suc_inj (suc_inj (suc_inj (suc_inj l))))))
parts_again (a ∷ b ∷ c ∷ d ∷ e ∷ []) l = refl
parts_again (a ∷ b ∷ c ∷ d ∷ e ∷ f ∷ vs) l = absurd (suc-ne-zero (length vs) (suc_inj (suc_inj (suc_inj (suc_inj (suc_inj l))))))

module _ (k : Slots) (t : Suited k) where
  -- the parts of a slot that is made from values
  made : (vs : List ℕ) → slot_parts (slot_from k vs) ≡ spread (flags k.parts) vs
  made vs = parts_again (spread (flags k.parts) vs) (length-spread (flags k.parts) vs)

  pub slot-filled : (at : ℕ) (s : Slot) → length (slot_values k s) ≡ length (slot_rows k at)
  slot-filled at s = length-sift (flags k.parts) (slot_parts s) refl ∙ sym (length-shifted at k.rows ∙ t.matched)

  -- the slot of the values of its rows has those values, and is empty where they are
  enough : (s : List ℕ) (at : ℕ) → length (map (cut s) (slot_rows k at)) ≡ trues (flags k.parts)
  enough s at = length-map (slot_rows k at) (cut s) ∙ length-shifted at k.rows ∙ t.matched

  pub same_values : (s : List ℕ) (at : ℕ) → slot_values k (slot_of k s at) ≡ map (cut s) (slot_rows k at)
  same_values s at = ap (sift (flags k.parts)) (made _) ∙ sift-spread (flags k.parts) _ (enough s at)

  pub same_silence : (s : List ℕ) (at : ℕ) → empty (slot_parts (slot_of k s at)) ≡ empty (map (cut s) (slot_rows k at))
  same_silence s at = ap empty (made _) ∙ empty-spread (flags k.parts) _ (enough s at)

  pub widths_matched : length (widths k.rows) ≡ trues (flags k.parts)
  widths_matched = length-map k.rows (λ r. r.width) ∙ t.matched

  slot-tidy : (s : List ℕ) (at : ℕ) → vacant (part_widths k) (slot_parts (slot_of k s at)) ≡ true
  slot-tidy s at = ap (vacant (part_widths k)) (made _) ∙ spread-vacant (flags k.parts) (widths k.rows) _ widths_matched t.wide

  -- a tidy slot is told by its values
  slot_again : (x : Slot) → vacant (part_widths k) (slot_parts x) ≡ true → slot_from k (slot_values k x) ≡ x
  slot_again x h = ap parts_from (vacant_again (flags k.parts) (widths k.rows) (slot_parts x) widths_matched refl h)

  same_slot : (x y : Slot) → vacant (part_widths k) (slot_parts x) ≡ true → vacant (part_widths k) (slot_parts y) ≡ true → slot_values k x ≡ slot_values k y → x ≡ y
  same_slot x y p q e = sym (slot_again x p) ∙ ap (slot_from k) e ∙ slot_again y q

-- a slot of zeros is no slot
nothing_in : (x : Slot) → Empty (slot_parts x) → no_slot ≡ x
nothing_in x h = λ i. record { day = sym h.0 i; hour = sym h.1.0 i; minute = sym h.1.1.0 i; strength = sym h.1.1.1.0 i; place = sym h.1.1.1.1.0 i }

-- ---- all of them

map_each : {A B : Type 0} (n : ℕ) (f : ℕ → A) (g : A → B) → map g (each n f) ≡ each n (λ i. g (f i))
map_each zero f g = refl
map_each (suc n) f g = ap (λ l. g (f 0) ∷ l) (map_each n (λ i. f (suc i)) g)

each_as : {A : Type 0} (n : ℕ) (f g : ℕ → A) → ((i : ℕ) → f i ≡ g i) → each n f ≡ each n g
each_as zero f g h = refl
each_as (suc n) f g h = ap₂ (λ x l. x ∷ l) (h 0) (each_as n (λ i. f (suc i)) (λ i. g (suc i)) (λ i. h (suc i)))

module _ (k : Slots) (t : Suited k) where
  -- the slots of a frame have the frame's values
  pub slots_agree : (s : List ℕ) → slots_values k (slots_of s k) ≡ each k.count (λ i. map (cut s) (slot_rows k (k.first + k.bits * i)))
  unfolding slots_of
  slots_agree s =
      ap (map (slot_values k)) (take_at (each k.count _) (replicate (16 - k.count) no_slot) k.count (length-each k.count _))
      ∙ map_each k.count _ (slot_values k)
      ∙ each_as k.count _ _ (λ i. same_values k t s (k.first + k.bits * i))

  -- and so has each of them
  pub slot_agrees : (s : List ℕ) (i : ℕ) → i < k.count → slot_values k (get_or (slots_of s k) i no_slot) ≡ map (cut s) (slot_rows k (k.first + k.bits * i))
  unfolding slots_of
  slot_agrees s i h =
      let on-wire : ℕ → Slot = λ j. slot_of k s (k.first + k.bits * j) in
      let listed = each k.count on-wire in
      let inside : i < length listed = rw (length-each k.count on-wire) h in
      ap (slot_values k) (get_or-append listed (replicate (16 - k.count) no_slot) no_slot i inside ∙ each_at k.count on-wire no_slot i h)
      ∙ same_values k t s (k.first + k.bits * i)

  pub slots_sixteen : (s : List ℕ) → length (slots_of s k) ≡ 16
  unfolding slots_of
  slots_sixteen s =
      length-append (each k.count _) (replicate (16 - k.count) no_slot)
      ∙ ap₂ ◌+◌ (length-each k.count _) (length-replicate (16 - k.count) no_slot)
      ∙ all k.count t.few
    where
      all : (n : ℕ) → n ≤ 16 → n + (16 - n) ≡ 16
      all n h = omega arith

  pub slots_counted : (ss : List Slot) → length ss ≡ 16 → length (slots_values k ss) ≡ k.count
  slots_counted ss n = length-map (take k.count ss) (slot_values k) ∙ length-take-le k.count ss (rw n t.few)

  pub slots_filled : (at : ℕ) (ss : List Slot) → SlotsFilled k at (map (slot_values k) ss)
  slots_filled at [] = tt
  slots_filled at (s ∷ ss) = (slot-filled k t at s, slots_filled (at + k.bits) ss)

  -- ---- and are tidy

  none_tidy : (ws : List ℕ) (n : ℕ) → tidy_slots ws 0 (replicate n no_slot) ≡ true
  unfolding tidy_slots empty
  none_tidy ws zero = refl
  none_tidy ws (suc n) = none_tidy ws n

  each-tidy : (s : List ℕ) (n m : ℕ) (g : ℕ → ℕ) → tidy_slots (part_widths k) n (each n (λ i. slot_of k s (g i)) ++ replicate m no_slot) ≡ true
  unfolding tidy_slots
  each-tidy s zero m g = none_tidy (part_widths k) m
  each-tidy s (suc n) m g = both_and _ _ (slot-tidy k t s (g 0)) (each-tidy s n m (λ i. g (suc i)))

  pub frame_slots_tidy : (s : List ℕ) → tidy_slots (part_widths k) k.count (slots_of s k) ≡ true
  unfolding slots_of
  frame_slots_tidy s = each-tidy s k.count (16 - k.count) (λ i. k.first + k.bits * i)

  -- tidy slots are told by their values
  pub same_slots : (n : ℕ) (xs ys : List Slot) → length xs ≡ length ys → tidy_slots (part_widths k) n xs ≡ true → tidy_slots (part_widths k) n ys ≡ true
      → map (slot_values k) (take n xs) ≡ map (slot_values k) (take n ys) → xs ≡ ys
  unfolding tidy_slots
  same_slots n [] [] l p q e = refl
  same_slots n [] (y ∷ ys) l p q e = absurd (suc-ne-zero (length ys) (sym l))
  same_slots n (x ∷ xs) [] l p q e = absurd (suc-ne-zero (length xs) l)
  same_slots zero (x ∷ xs) (y ∷ ys) l p q e =
      let f = and_both (empty (slot_parts x)) (tidy_slots (part_widths k) zero xs) p in
      let g = and_both (empty (slot_parts y)) (tidy_slots (part_widths k) zero ys) q in
      ap₂ (λ (a : Slot) (b : List Slot). a ∷ b) (sym (nothing_in x (empty_is (slot_parts x) f.0)) ∙ nothing_in y (empty_is (slot_parts y) g.0))
      (same_slots zero xs ys (suc_inj l) f.1 g.1 refl)
  same_slots (suc n) (x ∷ xs) (y ∷ ys) l p q e =
      let f = and_both (vacant (part_widths k) (slot_parts x)) (tidy_slots (part_widths k) n xs) p in
      let g = and_both (vacant (part_widths k) (slot_parts y)) (tidy_slots (part_widths k) n ys) q in
      ap₂ (λ (a : Slot) (b : List Slot). a ∷ b) (same_slot k t x y f.0 g.0 (ap (λ (vs : List (List ℕ)). get_or vs 0 []) e))
      (same_slots n xs ys (suc_inj l) f.1 g.1 (ap (drop 1) e))
