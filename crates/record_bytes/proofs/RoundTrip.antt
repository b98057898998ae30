-- From the bytes back to the record, so that the bytes tell records apart.
use mathlib.Core.Path.{◌≡◌, refl, sym, ap, ◌∙◌}
use Prim.Native.Nat.{ℕ, suc, ◌+◌, ◌-◌, ◌*◌, ◌^◌, ◌<◌}
use native.Mathlib.Omega.{arith}
use native.Mathlib.Nat.{mod-eq_of_lt}
use mathlib.Core.Bool.{Bool, false, not}
use mathlib.Core.List.{List, [], ◌∷◌, ◌++◌, append_assoc}
use lib.ListN.{length, get_or, drop, take, replicate, length-map}
use lib.Seq.{drop_at, drop-drop, take_at}
use Rattle.bits.specs.Frame.{number}
use Rattle.slots.specs.declared.slot.Slot.{Slot}
use Rattle.report.specs.declared.record.Record.{Record}
use Rattle.rows.specs.Values.{each, has_spare, same_bytes, spares_from, widths}
use Rattle.rows.specs.declared.fields.Spares.{Spares}
use Rattle.rows.proofs.Rules.Tests.{same_refl}
use Rattle.lent.specs.Numbers.{wide}
use Rattle.record_bytes.specs.Packed.{body_bytes, cells, slot_bytes, slots_bytes, packed}
use Rattle.record_bytes.specs.Unpacked.{body_in_bytes, sides_in_bytes, size, slot_at, spares_in_bytes, stray, stray_as, slots_from, slots_or_misplaced, text_in_bytes, unpacked_as, unpacked}
use Rattle.record_bytes.proofs.Cells.{FitBytes, cells_back, length-cells, number-wide}
use Rattle.record_bytes.proofs.ToBytes.Whole.{front, most, length_body, length_front, length_most}
use Rattle.record_bytes.proofs.FromBytes.Places.{each_same, byte_behind, number_behind}
use Rattle.report.specs.declared.body.Body.{Body}
use Rattle.report.specs.Categories.{layout, sides_of}
use Rattle.report.proofs.Categories.{body_again, sides_filled, spares_again}

-- ---- the numbers fit their bytes, and a second spare has some

abbrev pub BodyFits : Body → Spares → Type 0
BodyFits b z = FitBytes (widths (layout b).front) (sides_of b z).front × FitBytes (widths (layout b).behind) (sides_of b z).behind

abbrev pub SlotsFit : List Slot → Type 0
SlotsFit [] = Unit
SlotsFit (s ∷ ss) = (s.place < 2 ^ 64) × SlotsFit ss

pub record Fits (r : Record) : Type 0 where
  pub slots : length r.slots ≡ 16
  pub text : length r.text ≡ 18
  pub body : BodyFits r.body r.spares
  pub spare : has_spare (layout r.body).behind ≡ false → r.spares.second ≡ 0
  pub places : SlotsFit r.slots

-- ---- one behind the other

pub slot-behind : (n : ℕ) (l : List ℕ) (j k : ℕ) → j ≡ n + k → slot_at l j ≡ slot_at (drop n l) k
slot-behind n l j k e = λ i. record {
  day = byte_behind n l j k e i;
  hour = byte_behind n l (j + 1) (k + 1) (omega (arith, e)) i;
  minute = byte_behind n l (j + 2) (k + 2) (omega (arith, e)) i;
  strength = byte_behind n l (j + 3) (k + 3) (omega (arith, e)) i;
  place = number_behind n l (j + 4) (k + 4) 8 (omega (arith, e)) i;
}

place_back : (v : ℕ) → v < 2 ^ 64 → number (wide 8 v) ≡ v
place_back v h = number-wide 8 v ∙ mod-eq_of_lt h

slots_back : (ss : List Slot) (rest : List ℕ) → SlotsFit ss → each (length ss) (λ i. slot_at (slots_bytes ss ++ rest) (12 * i)) ≡ ss
unfolding slots_bytes
slots_back [] rest h = refl
slots_back (s ∷ ss) rest h =
    let l : List ℕ = slot_bytes s ++ slots_bytes ss ++ rest in
    let first : slot_at l 0 ≡ s = λ i. record { day = s.day; hour = s.hour; minute = s.minute; strength = s.strength; place = place_back s.place h.0 i } in
    let others : each (length ss) (λ i. slot_at l (12 * suc i)) ≡ ss =
    each_same (length ss) (λ i. slot_at l (12 * suc i)) (λ i. slot_at (drop 12 l) (12 * i)) (λ i. slot-behind 12 l (12 * suc i) (12 * i) (omega arith))
    ∙ slots_back ss rest h.1
    in λ i. first i ∷ others i

text_back : (t : List ℕ) → each (length t) (λ i. get_or t i 0) ≡ t
text_back [] = refl
text_back (v ∷ t) = ap (λ (l : List ℕ). v ∷ l) (text_back t)

-- ---- the record

module _ (r : Record) (f : Fits r) where
  behind-front : packed r ≡ front r ++ (slots_bytes r.slots ++ r.text)
  unfolding packed
  behind-front = append_assoc (front r) (slots_bytes r.slots) r.text

  -- from byte 9 on
  behind-head : drop 9 (packed r) ≡ body_bytes r.body r.spares ++ (slots_bytes r.slots ++ r.text)
  unfolding packed
  behind-head = append_assoc (body_bytes r.body r.spares) (slots_bytes r.slots) r.text

  sides_part : sides_in_bytes (packed r) (layout r.body) ≡ sides_of r.body r.spares
  sides_part =
      let l = layout r.body in
      let v = sides_of r.body r.spares in
      let a : List ℕ = cells (widths l.front) v.front in
      let b : List ℕ = cells (widths l.behind) v.behind in
      let z : List ℕ = replicate (32 - length (a ++ b)) 0 in
      let c : List ℕ = slots_bytes r.slots ++ r.text in
      let start : drop 9 (packed r) ≡ a ++ (b ++ (z ++ c)) = behind-head ∙ append_assoc (a ++ b) z c ∙ append_assoc a b (z ++ c) in
      let n : length a ≡ size (widths l.front) = length-cells (widths l.front) v.front (length-map l.front (λ x. x.width) ∙ sym (sides_filled r.body r.spares).0) in
      let more : drop (9 + size (widths l.front)) (packed r) ≡ b ++ (z ++ c) =
      sym (drop-drop (size (widths l.front)) 9 (packed r)) ∙ ap (drop (size (widths l.front))) start ∙ drop_at a (b ++ (z ++ c)) (size (widths l.front)) n
      in
      λ i. record {
        front = cells_back (packed r) 9 (widths l.front) v.front (b ++ (z ++ c)) start f.body.0 i;
        behind = cells_back (packed r) (9 + size (widths l.front)) (widths l.behind) v.behind (z ++ c) more f.body.1 i;
      }

  body_part : body_in_bytes (packed r) ≡ r.body
  unfolding packed
  body_part = body_again r.body r.spares (sides_in_bytes (packed r)) sides_part

  spares-part : spares_in_bytes (packed r) r.body ≡ r.spares
  spares-part = ap (spares_from (layout r.body)) sides_part ∙ spares_again r.body r.spares f.spare

  stray-part : stray r.body (packed r) ≡ false
  stray-part =
      ap (λ (z : Spares). stray_as r.body z (packed r)) spares-part
      ∙ ap (λ (l : List ℕ). not (same_bytes l (body_bytes r.body r.spares))) (ap (take 32) behind-head ∙ take_at (body_bytes r.body r.spares) (slots_bytes r.slots ++ r.text) 32 (length_body r.body r.spares))
      ∙ ap not (same_refl (body_bytes r.body r.spares))

  slots_part : slots_from (packed r) ≡ r.slots
  slots_part =
      each_same 16 (λ i. slot_at (packed r) (41 + 12 * i)) (λ i. slot_at (drop 41 (packed r)) (12 * i)) (λ i. slot-behind 41 (packed r) (41 + 12 * i) (12 * i) refl)
      ∙ ap (λ (l : List ℕ). each 16 (λ i. slot_at (drop 41 l) (12 * i))) behind-front
      ∙ ap (λ (l : List ℕ). each 16 (λ i. slot_at l (12 * i))) (drop_at (front r) (slots_bytes r.slots ++ r.text) 41 (length_front r))
      ∙ ap (λ (n : ℕ). each n (λ i. slot_at (slots_bytes r.slots ++ r.text) (12 * i))) (sym f.slots)
      ∙ slots_back r.slots r.text f.places

  text-part : text_in_bytes (packed r) ≡ r.text
  unfolding packed
  text-part =
      each_same 18 (λ i. get_or (packed r) (233 + i) 0) (λ i. get_or (drop 233 (packed r)) i 0) (λ i. byte_behind 233 (packed r) (233 + i) i refl)
      ∙ ap (λ (l : List ℕ). each 18 (λ i. get_or l i 0)) (drop_at (most r) r.text 233 (length_most r f.slots))
      ∙ ap (λ (n : ℕ). each n (λ i. get_or r.text i 0)) (sym f.text)
      ∙ text_back r.text

  by_body : unpacked_as (packed r) r.body ≡ r
  unfolding packed unpacked_as
  by_body = λ i. record {
    preamble = r.preamble;
    reserved = r.reserved;
    common = r.common;
    body = r.body;
    slots = (ap (λ (b : Bool). slots_or_misplaced b (slots_from (packed r))) stray-part ∙ slots_part) i;
    text = text-part i;
    spares = spares-part i;
  }

  pub back : unpacked (packed r) ≡ r
  back = ap (unpacked_as (packed r)) body_part ∙ by_body

pub told_apart : (r s : Record) → Fits r → Fits s → packed r ≡ packed s → r ≡ s
told_apart r s f g e = sym (back r f) ∙ ap unpacked e ∙ back s g
