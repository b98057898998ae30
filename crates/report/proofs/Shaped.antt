-- Records as lists have a shape: sixteen slots, 18 text bytes; and each row of a table has its value.
use Rattle.category.specs.Text.{text_of}
use Rattle.report.specs.declared.body.Body.{Body}
use Rattle.rows.proofs.Layouts.Lengths.{Filled}
use Rattle.rows.specs.Layout.{Layout, Row}
use mathlib.Core.List.{List, [], map}
use Rattle.report.specs.declared.record.Record.{Record}
use mathlib.Core.Path.{◌≡◌, ap, refl}
use mathlib.Core.Logic.{◌⊎◌, inl, inr}
use native.Mathlib.Omega.{arith}
use Rattle.rows.specs.Values.{cut, filled}
use Rattle.report.specs.Categories.{layout}
use lib.ListN.{length, take}
use lib.Seq.{length-take-le}
use Rattle.nankai.specs.Nankai.{nankai}
use Rattle.report.specs.Records.{record_as, values}
use Rattle.report.proofs.Categories.{sides_filled, text_apart}
use Rattle.slots.proofs.Tables.{slots_counted, slots_filled, slots_sixteen}
use Rattle.report.proofs.Tables.{suited_slots}
use Prim.Native.Nat.{ℕ}

-- what an array of the code tells by its type
pub record Shaped (r : Record) : Type 0 where
  pub slots : length r.slots ≡ 16
  pub text : length r.text ≡ 18

-- ---- the record of a frame is shaped

text_eighteen : (s : List ℕ) (l : Layout) → (l.text ≡ []) ⊎ (l.text ≡ nankai.text) → length (text_of s l) ≡ 18
text_eighteen s l (inl e) = ap (λ (rs : List Row). length (filled 18 (map (cut s) rs))) e
text_eighteen s l (inr e) = ap (λ (rs : List Row). length (filled 18 (map (cut s) rs))) e

pub frame-shaped : (s : List ℕ) (b : Body) → Shaped (record_as s b)
unfolding record_as
frame-shaped s b = record { slots = slots_sixteen (layout b).slots (suited_slots b) s; text = text_eighteen s (layout b) (text_apart b) }

-- ---- each row has its value

text-filled : (rs : List Row) (text : List ℕ) → (rs ≡ []) ⊎ (rs ≡ nankai.text) → length text ≡ 18 → length (take (length rs) text) ≡ length rs
text-filled rs text (inl e) n = rw e refl
text-filled rs text (inr e) n = rw e (length-take-le 18 text (omega arith))

pub record_filled : (r : Record) → Shaped r → Filled (layout r.body) (values r)
unfolding values
record_filled r s =
    let l = layout r.body in
    record {
      head = refl;
      front = (sides_filled r.body r.spares).0;
      slots = slots_counted l.slots (suited_slots r.body) r.slots s.slots;
      fields = slots_filled l.slots (suited_slots r.body) l.slots.first (take l.slots.count r.slots);
      text = text-filled l.text r.text (text_apart r.body) s.text;
      behind = (sides_filled r.body r.spares).1;
      last = refl;
    }
