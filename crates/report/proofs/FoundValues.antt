-- The value of an 8: what stands at its place, in the frame that was read or the record that was written.
use Rattle.std.specs.Prelude.{Err}
use mathlib.Core.Path.{◌≡◌, refl, sym, subst}
use mathlib.Core.Logic.{◌⊎◌, inl, inr, ⊎_elim}
use mathlib.Core.Bool.{Bool, true, false}
use Prim.Native.Nat.{ℕ, ◌<◌, ◌≤◌}
use native.Mathlib.Omega.{arith}
use mathlib.Core.List.{List, [], ◌∷◌, map}
use lib.ListN.{length, take}
use lib.Dec.{ltb}
use borrow.Author.Tests.{ltb-true, ltb-false}
use Rattle.bits.specs.Frame.{field_of}
use Rattle.rows.specs.declared.refusal.Refusal.TheVariants.{Range}
use Rattle.rows.specs.Layout.{Layout, all_rows, common, ending, no_slots}
use Rattle.rows.specs.Values.{Values, cut, flat, head_values, last_values, values_of}
use Rattle.rows.specs.Faults.{Fault, RowFault, SlotsFault}
use Rattle.rows.specs.Found.{FoundAt, Starts}
use Rattle.rows.proofs.Layouts.Rows.{values-flat}
use Rattle.rows.proofs.Layouts.Lengths.{frame-filled}
use Rattle.rows.proofs.Rules.Found.{table_found, field_found, nowhere, same_place, same_value}
use Rattle.nankai.specs.Nankai.{nankai}
use Rattle.nankai.specs.declared.PageNumbers.{PageNumbers}
use Rattle.report.specs.declared.record.Record.{Record}
use Rattle.report.specs.declared.body.Body.{Body}
use Rattle.report.specs.declared.body.Body.TheVariants.{Nankai}
use Rattle.report.specs.Categories.{layout, body_from, sides_of}
use Rattle.slots.specs.Slots.{slots_values}
use Rattle.report.specs.Records.{values}
use Rattle.report.specs.Runs.Reading.{read_answer}
use Rattle.report.specs.Runs.Writing.{write_answer}
use Rattle.report.proofs.Reading.Frames.{layout_of, frame_values, fault_of_8}
use Rattle.report.proofs.Shaped.{Shaped, record_filled}
use Rattle.report.proofs.Writing.WriteReasons.{fault_of_8 as write-fault-of-8}

pub frame_found : (s : List ℕ) (p x : ℕ) → read_answer s ≡ Err (Range p x) → FoundAt 0 (all_rows (layout_of s)) (map (cut s) (all_rows (layout_of s))) p x
frame_found s p x e =
    rw (values-flat s (layout_of s)) at (table_found p x (layout_of s) (frame_values s) (frame-filled s (layout_of s)) (fault_of_8 s p x e))

pub frame_field : (s : List ℕ) (p x : ℕ) → read_answer s ≡ Err (Range p x) → (w : ℕ) × (Starts (all_rows (layout_of s)) p w × (x ≡ field_of s p w))
frame_field s p x e = field_found s (all_rows (layout_of s)) 0 p x (frame_found s p x e)

pub record_found : (r : Record) (size p x : ℕ) → Shaped r → write_answer r size ≡ Err (Range p x)
    → FoundAt 0 (all_rows (layout r.body)) (flat (values r)) p x
record_found r size p x h e = table_found p x (layout r.body) (values r) (record_filled r h) (write-fault-of-8 r size p x h e)

-- ---- "A refused category 4 total gives the total"

either_way : (n t : ℕ) → ((n ≤ t) × (t ≤ 63) → ⊥) → (t < n) ⊎ (63 < t)
either_way n t h = by (ltb t n) refl
  where
    by : (b : Bool) → ltb t n ≡ b → (t < n) ⊎ (63 < t)
    by true e = inl (ltb-true t n e)
    by false e = inr (above (ltb 63 t) refl)
      where
        above : (c : Bool) → ltb 63 t ≡ c → 63 < t
        above true f = ltb-true 63 t f
        above false f = absurd (h (ltb-false t n e, ltb-false 63 t f))

-- no other row starts at bit 207
total_of : (v : Values) (n t z x : ℕ) → v.slots ≡ [] → v.behind ≡ n ∷ t ∷ z ∷ [] → Fault nankai v (Range 207 x) → (x ≡ t) × ((t < n) ⊎ (63 < t))
total_of v n t z x none e f =
    ⊎_elim (λ u. absurd (nowhere [] (common nankai) v.head 207 x refl u))
    (⊎_elim (λ u. absurd (nowhere [] nankai.front v.front 207 x refl u))
    (⊎_elim (λ u. absurd (no_slots_lem v.slots none u))
    (⊎_elim (λ u. absurd (nowhere [] nankai.text v.text 207 x refl u))
    (⊎_elim (λ u. in_behind (rw e at u)) (λ u. absurd (nowhere [] ending v.last 207 x refl u))))))
    f
  where
    no_slots_lem : (vs : List (List ℕ)) → vs ≡ [] → SlotsFault no_slots vs (Range 207 x) → ⊥
    no_slots_lem vs e u = rw e at u

    in_behind : RowFault [] nankai.behind (n ∷ t ∷ z ∷ []) (Range 207 x) → (x ≡ t) × ((t < n) ⊎ (63 < t))
    in_behind = ⊎_elim
        (λ u. absurd (omega (arith, same_place u.1)))
        (⊎_elim (λ u. (sym (same_value u.1), either_way n t u.0)) (⊎_elim (λ u. absurd (omega (arith, same_place u.1))) (λ u. absurd u)))

of_category_4 : (s : List ℕ) → field_of s 17 4 ≡ 4 → layout_of s ≡ nankai
unfolding body_from
of_category_4 s c = rw c refl

pub frame-total : (s : List ℕ) (x : ℕ) → field_of s 17 4 ≡ 4 → read_answer s ≡ Err (Range 207 x)
    → (x ≡ field_of s 207 6) × ((field_of s 207 6 < field_of s 201 6) ⊎ (63 < field_of s 207 6))
unfolding values_of
frame-total s x c e =
    total_of (values_of s nankai) (field_of s 201 6) (field_of s 207 6) (field_of s 213 1) x refl refl
    (subst (λ (l : Layout). Fault l (values_of s l) (Range 207 x)) (of_category_4 s c) (fault_of_8 s 207 x e))

-- the values of a record whose body is this
abbrev with_body : Record → Body → Values
with_body r d = record {
  head = head_values r.common (layout d).code;
  front = (sides_of d r.spares).front;
  slots = slots_values (layout d).slots r.slots;
  text = take (length (layout d).text) r.text;
  behind = (sides_of d r.spares).behind;
  last = last_values r.reserved;
}

pub record_total : (r : Record) (p : PageNumbers) (size x : ℕ) → Shaped r → r.body ≡ Nankai p → write_answer r size ≡ Err (Range 207 x)
    → (x ≡ p.total) × ((p.total < p.number) ⊎ (63 < p.total))
unfolding values
record_total r p size x h b e =
    total_of (with_body r (Nankai p)) p.number p.total r.spares.second x refl refl
    (subst (λ (d : Body). Fault (layout d) (with_body r d) (Range 207 x)) b (write-fault-of-8 r size 207 x h e))
