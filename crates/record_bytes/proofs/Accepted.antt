-- Bytes whose record can be written are the bytes of that record: nothing of what a caller hands over is dropped unseen.
use mathlib.Core.Path.{◌≡◌, refl, sym, ap, ◌∙◌}
use Prim.Native.Nat.{ℕ, zero, suc, ◌+◌, ◌*◌, ◌<◌, ◌≤◌}
use native.Mathlib.Omega.{arith}
use mathlib.Core.Bool.{Bool, true, false, cond, not}
use mathlib.Core.List.{List, [], ◌∷◌, ◌++◌, append_assoc}
use lib.ListN.{length, get_or, take, drop, length-drop, take-append-drop, length-set}
use lib.Seq.{drop-drop, get_or-drop, take_all}
use lib.Dec.{eqb}
use borrow.Author.Tests.{ne_eqb, ltb-true}
use Rattle.bits.specs.Frame.{Bytes}
use Rattle.slots.specs.declared.slot.Slot.{Slot}
use Rattle.rows.specs.Values.{each, sides_at}
use Rattle.rows.specs.Layout.{Layout}
use Rattle.rows.proofs.Layouts.Lengths.{length-each}
use Rattle.rows.proofs.Rules.Tests.{same_eq}
use Rattle.rows.proofs.Rules.Outcomes.{false_not_true, not_both}
use Rattle.rows.proofs.Rules.Spans.{allowed_in, in_allowed}
use Rattle.report.specs.declared.body.Body.{Body}
use Rattle.report.specs.Categories.{categories, layout, preambles, body_from}
use Rattle.report.specs.Runs.Writing.{known, write_answer, Valid}
use Rattle.report.specs.Rules.{KeepsRules}
use Rattle.report.proofs.Categories.{known_code, made_alike, suits}
use Rattle.report.proofs.Shaped.{Shaped}
use Rattle.report.specs.Records.{zeros}
use Rattle.report.proofs.Writing.Validity.{known_is, valid_keeps}
use Rattle.record_bytes.specs.Packed.{body_bytes, head_bytes, slot_bytes, slots_bytes, packed}
use Rattle.record_bytes.specs.Unpacked.{body_in_bytes, sides_in_bytes, misplaced, slot_at, slots_from, slots_or_misplaced, spares_in_bytes, stray, text_in_bytes, record_from, unpacked_as, unpacked}
use Rattle.record_bytes.proofs.Cells.{wide-number}
use Rattle.record_bytes.proofs.FromBytes.Places.{each_same, byte_behind, first-bytes}
use Rattle.record_bytes.proofs.FromBytes.Refused.{stray_refused}
use Rattle.record_bytes.proofs.RoundTrip.{slot-behind}

-- ---- the shape of the record of any bytes

slots_long : (b : Bool) (ss : List Slot) → length (slots_or_misplaced b ss) ≡ length ss
slots_long true ss = length-set ss 15 misplaced
slots_long false ss = refl

pub unpacked-shaped : (l : List ℕ) → Shaped (unpacked l)
unfolding unpacked_as
unpacked-shaped l = record { slots = slots_long (stray (body_in_bytes l) l) (slots_from l) ∙ length-each 16 (λ i. slot_at l (41 + 12 * i)); text = length-each 18 (λ i. get_or l (233 + i) 0) }

zeros-shaped : Shaped zeros
unfolding zeros
zeros-shaped = record { slots = refl; text = refl }

pub record_shaped : (l : List ℕ) → Shaped (record_from l)
unfolding record_from
record_shaped l = by (eqb (length l) 251)
  where
    by : (b : Bool) → Shaped (cond b (unpacked l) zeros)
    by true = unpacked-shaped l
    by false = zeros-shaped

-- ---- slots

bytes-behind : (n : ℕ) (l : List ℕ) → Bytes l → Bytes (drop n l)
bytes-behind n l b i = rw (get_or-drop n l i 0) (b (n + i))

slot_of_bytes : (l : List ℕ) → Bytes l → 12 ≤ length l → slot_bytes (slot_at l 0) ++ drop 12 l ≡ l
slot_of_bytes [] b h = absurd (omega arith)
slot_of_bytes (v ∷ []) b h = absurd (omega arith)
slot_of_bytes (v ∷ w ∷ []) b h = absurd (omega arith)
slot_of_bytes (v ∷ w ∷ x ∷ []) b h = absurd (omega arith)
slot_of_bytes (v ∷ w ∷ x ∷ y ∷ l) b h =
    ap (λ (t : List ℕ). v ∷ w ∷ x ∷ y ∷ t)
    (ap (λ (t : List ℕ). t ++ drop 8 l) (wide-number 8 l (bytes-behind 4 (v ∷ w ∷ x ∷ y ∷ l) b) (omega arith)) ∙ take-append-drop 8 l)

slots_of_bytes : (n : ℕ) (l : List ℕ) → Bytes l → 12 * n ≤ length l → slots_bytes (each n (λ i. slot_at l (12 * i))) ++ drop (12 * n) l ≡ l
unfolding slots_bytes
slots_of_bytes zero l b h = refl
slots_of_bytes (suc n) l b h =
    let others : each n (λ i. slot_at l (12 * suc i)) ≡ each n (λ i. slot_at (drop 12 l) (12 * i)) =
    each_same n (λ i. slot_at l (12 * suc i)) (λ i. slot_at (drop 12 l) (12 * i)) (λ i. slot-behind 12 l (12 * suc i) (12 * i) (omega arith))
    in
    let rest : slots_bytes (each n (λ i. slot_at l (12 * suc i))) ++ drop (12 * suc n) l ≡ drop 12 l =
    (λ i. slots_bytes (others i) ++ behind n i) ∙ slots_of_bytes n (drop 12 l) (bytes-behind 12 l b) (rw (length-drop 12 l) (omega arith))
    in
    append_assoc (slot_bytes (slot_at l 0)) (slots_bytes (each n (λ i. slot_at l (12 * suc i)))) (drop (12 * suc n) l)
    ∙ ap (λ (t : List ℕ). slot_bytes (slot_at l 0) ++ t) rest
    ∙ slot_of_bytes l b (omega arith)
  where
    sum : (n : ℕ) → 12 * suc n ≡ 12 + 12 * n
    sum n = omega arith

    behind : (n : ℕ) → drop (12 * suc n) l ≡ drop (12 * n) (drop 12 l)
    behind n = ap (λ (m : ℕ). drop m l) (sum n) ∙ sym (drop-drop (12 * n) 12 l)

-- ---- what was accepted

module _ (l : List ℕ) (long : length l ≡ 251) (bytes : Bytes l) (valid : Valid (unpacked l)) where
  body : Body
  body = body_in_bytes l

  keeps : KeepsRules (unpacked l)
  keeps = valid_keeps (unpacked l) (unpacked-shaped l) valid

  has_category : known body ≡ true
  unfolding unpacked_as body
  has_category = known_is (body_in_bytes l) keeps.category

  own_code : (layout body).code ≡ get_or l 0 0
  unfolding body
  own_code =
      let dc : ℕ = get_or l 0 0 in
      let code : ℕ = (layout (body_from (sides_in_bytes l) dc)).code in
      let is_code : 0 < code = ltb-true 0 code has_category in
      let in_List = allowed_in categories dc (sym (known_code (sides_in_bytes l) dc) ∙ ap not (ne_eqb code 0 (λ e. omega (arith, e, is_code)))) in
      ap (λ (t : Layout). t.code) (made_alike (sides_in_bytes l) (sides_at []) dc) ∙ (suits [] dc in_List).code

  none_stray : stray body l ≡ false
  unfolding body unpacked_as
  none_stray = by (stray (body_in_bytes l) l) refl
    where
      by : (b : Bool) → stray (body_in_bytes l) l ≡ b → stray (body_in_bytes l) l ≡ false
      by true e = absurd (not_both (write_answer (unpacked l) 32) _ valid (stray_refused l e (in_allowed preambles (get_or l 1 0) keeps.preamble) has_category))
      by false e = e

  own_bytes : body_bytes body (spares_in_bytes l body) ≡ take 32 (drop 9 l)
  own_bytes = sym (same_eq _ _ (unstray _ none_stray))
    where
      unstray : (b : Bool) → not b ≡ false → b ≡ true
      unstray true e = refl
      unstray false e = absurd (false_not_true (sym e))

  -- from byte 41 on
  slots_and_text : slots_bytes (slots_or_misplaced (stray body l) (slots_from l)) ++ text_in_bytes l ≡ drop 41 l
  slots_and_text =
      let slots : slots_or_misplaced (stray body l) (slots_from l) ≡ each 16 (λ i. slot_at (drop 41 l) (12 * i)) =
      ap (λ (b : Bool). slots_or_misplaced b (slots_from l)) none_stray
      ∙ each_same 16 (λ i. slot_at l (41 + 12 * i)) (λ i. slot_at (drop 41 l) (12 * i)) (λ i. slot-behind 41 l (41 + 12 * i) (12 * i) refl)
      in
      let text : text_in_bytes l ≡ drop 192 (drop 41 l) =
      each_same 18 (λ i. get_or l (233 + i) 0) (λ i. get_or (drop 233 l) i 0) (λ i. byte_behind 233 l (233 + i) i refl)
      ∙ first-bytes 18 (drop 233 l) (rw (length-drop 233 l) (omega (arith, long)))
      ∙ take_all 18 (drop 233 l) (rw (length-drop 233 l) (omega (arith, long)))
      ∙ sym (drop-drop 192 41 l)
      in
      (λ i. slots_bytes (slots i) ++ text i) ∙ slots_of_bytes 16 (drop 41 l) (bytes-behind 41 l bytes) (rw (length-drop 41 l) (omega (arith, long)))

  head-part : head_bytes (unpacked l) ≡ take 9 l
  unfolding unpacked_as body
  head-part =
      ap (λ (c : ℕ). c ∷ get_or l 1 0 ∷ get_or l 2 0 ∷ get_or l 3 0 ∷ get_or l 4 0 ∷ get_or l 5 0 ∷ get_or l 6 0 ∷ get_or l 7 0 ∷ get_or l 8 0 ∷ []) own_code
      ∙ first-bytes 9 l (omega (arith, long))

  pub accepted_bytes : packed (unpacked l) ≡ l
  unfolding packed unpacked_as body
  accepted_bytes =
      let tail : List ℕ = slots_bytes (slots_or_misplaced (stray (body_in_bytes l) l) (slots_from l)) ++ text_in_bytes l in
      append_assoc (head_bytes (unpacked l) ++ body_bytes (body_in_bytes l) (spares_in_bytes l (body_in_bytes l))) (slots_bytes (slots_or_misplaced (stray (body_in_bytes l) l) (slots_from l))) (text_in_bytes l)
      ∙ append_assoc (head_bytes (unpacked l)) (body_bytes (body_in_bytes l) (spares_in_bytes l (body_in_bytes l))) tail
      ∙ (λ i. head-part i ++ (own_bytes i ++ slots_and_text i))
      ∙ ap (λ (t : List ℕ). take 9 l ++ t) (ap (λ (t : List ℕ). take 32 (drop 9 l) ++ t) (sym (drop-drop 32 9 l)) ∙ take-append-drop 32 (drop 9 l))
      ∙ take-append-drop 9 l
