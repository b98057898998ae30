-- A record that can be written fits its bytes: it is the record of a frame, and what stands in a frame's bits has room in the
-- bytes for it.
use mathlib.Core.Path.{◌≡◌, refl, sym, ap, subst}
use Prim.Native.Nat.{ℕ, zero, suc, ◌-◌, ◌*◌, ◌^◌, ◌<◌}
use mathlib.Core.Bool.{Bool, true, false, ◌&&◌, ◌||◌}
use mathlib.Core.List.{List, [], ◌∷◌, ◌++◌, map}
use lib.Dec.{eqb, leb, ltb}
use lib.ListN.{get_or, replicate}
use native.Mathlib.Omega.{arith}
use lib.Pow.{pow_pos}
use borrow.Author.Tests.{eqb-true, leb-true, ltb-true}
use Rattle.bits.specs.Frame.{bytes_of}
use Rattle.bits.proofs.Frames.{field_lt}
use Rattle.bits.proofs.Windows.{narrower}
use Rattle.rows.specs.Layout.{Row, Layout, Slots, shifted, slot_rows}
use Rattle.rows.specs.Values.{Values, cut, each, flags, spread, widths, values_of}
use Rattle.rows.specs.Runs.Fields.{bytes_for}
use Rattle.rows.proofs.Rules.Outcomes.{and_both}
use Rattle.slots.specs.Slots.{no_slot, slot_of, slots_of}
use Rattle.report.specs.declared.record.Record.{Record}
use Rattle.report.specs.Categories.{layout, sides_of}
use Rattle.report.specs.Conforms.{Conforms}
use Rattle.report.specs.Records.{body_of, record_as, record_of, values}
use Rattle.report.specs.Runs.Writing.{frame, Valid}
use Rattle.report.proofs.Categories.{all, layouts, listed}
use Rattle.report.proofs.Shaped.{Shaped, frame-shaped}
use Rattle.report.proofs.RoundTrips.ReadThenWritten.{same_values, frame_keeps}
use Rattle.report.proofs.Writing.Validity.{known_is}
use Rattle.report.proofs.RoundTrips.WrittenThenRead.{returns}
use Rattle.record_bytes.proofs.Cells.{FitBytes, has_room}
use Rattle.record_bytes.proofs.RoundTrip.{BodyFits, Fits, SlotsFit}

-- ---- 64 bits at most, computed of all tables

abbrev narrow : List Row → Bool
narrow [] = true
narrow (r ∷ rs) = leb r.width 64 && narrow rs

-- what stands without a category is never written
abbrev narrow_table : Layout → Bool
narrow_table l = eqb l.code 0 || (narrow l.front && (narrow l.behind && narrow l.slots.rows))

all-narrow : all narrow_table layouts ≡ true
all-narrow = refl

record Narrow (l : Layout) : Type 0 where
  front : narrow l.front ≡ true
  behind : narrow l.behind ≡ true
  slots : narrow l.slots.rows ≡ true

is_narrow : (l : Layout) (b : Bool) → eqb l.code 0 ≡ b → ltb 0 l.code ≡ true → b || (narrow l.front && (narrow l.behind && narrow l.slots.rows)) ≡ true → Narrow l
is_narrow l true e k h = absurd (omega (arith, eqb-true l.code 0 e, ltb-true 0 l.code k))
is_narrow l false e k h =
    let n = and_both (narrow l.front) _ h in
    let m = and_both (narrow l.behind) _ n.1 in
    record { front = n.0; behind = m.0; slots = m.1 }

-- of a frame that is read
table : (s : List ℕ) → Conforms s → Narrow (layout (body_of s))
unfolding record_as
table s c = is_narrow (layout (body_of s)) _ refl (known_is (body_of s) (frame_keeps s c).category) (listed narrow_table all-narrow (body_of s))

-- ---- fields

in_bytes : (s : List ℕ) (rs : List Row) → narrow rs ≡ true → FitBytes (widths rs) (map (cut s) rs)
in_bytes s [] n = tt
in_bytes s (r ∷ rs) n =
    let q = and_both (leb r.width 64) (narrow rs) n in
    (narrower (cut s r) r.width (8 * bytes_for r.width) (field_lt s r.first r.width) (has_room r.width (leb-true r.width 64 q.0)), in_bytes s rs q.1)

body_fits : (s : List ℕ) → Conforms s → BodyFits (body_of s) (record_of s).spares
unfolding record_as values values_of
body_fits s c =
    let l = layout (body_of s) in
    let front : map (cut s) l.front ≡ (sides_of (body_of s) (record_of s).spares).front = sym (ap (λ (v : Values). v.front) (same_values s c)) in
    let behind : map (cut s) l.behind ≡ (sides_of (body_of s) (record_of s).spares).behind = sym (ap (λ (v : Values). v.behind) (same_values s c)) in
    (subst (FitBytes (widths l.front)) front (in_bytes s l.front (table s c).front), subst (FitBytes (widths l.behind)) behind (in_bytes s l.behind (table s c).behind))

-- ---- slots

abbrev Small : List ℕ → Type 0
Small vs = (i : ℕ) → get_or vs i 0 < 2 ^ 64

none_small : Small []
none_small i = pow_pos 64

spread_small : (bs : List Bool) (vs : List ℕ) → Small vs → Small (spread bs vs)
spread_small [] vs h i = pow_pos 64
spread_small (false ∷ bs) vs h zero = pow_pos 64
spread_small (false ∷ bs) vs h (suc i) = spread_small bs vs h i
spread_small (true ∷ bs) [] h zero = pow_pos 64
spread_small (true ∷ bs) [] h (suc i) = spread_small bs [] none_small i
spread_small (true ∷ bs) (v ∷ vs) h zero = h 0
spread_small (true ∷ bs) (v ∷ vs) h (suc i) = spread_small bs vs (λ j. h (suc j)) i

rows_small : (s : List ℕ) (a : ℕ) (rs : List Row) → narrow rs ≡ true → Small (map (cut s) (shifted a rs))
rows_small s a [] n i = pow_pos 64
rows_small s a (r ∷ rs) n zero =
    narrower _ r.width 64 (field_lt s _ r.width) (leb-true r.width 64 (and_both (leb r.width 64) (narrow rs) n).0)
rows_small s a (r ∷ rs) n (suc i) = rows_small s a rs (and_both (leb r.width 64) (narrow rs) n).1 i

empty_fit : (m : ℕ) → SlotsFit (replicate m no_slot)
empty_fit zero = tt
empty_fit (suc m) = (pow_pos 64, empty_fit m)

each_fits : (k : Slots) (s : List ℕ) (m n : ℕ) (g : ℕ → ℕ) → narrow k.rows ≡ true → SlotsFit (each n (λ i. slot_of k s (g i)) ++ replicate m no_slot)
each_fits k s m zero g h = empty_fit m
each_fits k s m (suc n) g h = (spread_small (flags k.parts) (map (cut s) (slot_rows k (g 0))) (rows_small s (g 0) k.rows h) 4, each_fits k s m n (λ i. g (suc i)) h)

-- ---- the record

read_fits : (s : List ℕ) → Conforms s → Fits (record_of s)
unfolding record_as slots_of
read_fits s c =
    let l = layout (body_of s) in
    record {
      slots = (frame-shaped s (body_of s)).slots;
      text = (frame-shaped s (body_of s)).text;
      body = body_fits s c;
      spare = (frame_keeps s c).tidy.spare;
      places = each_fits l.slots s (16 - l.slots.count) l.slots.count _ (table s c).slots;
    }

pub valid_fits : (r : Record) → Shaped r → Valid r → Fits r
valid_fits r s v = subst Fits (returns r s v).again (read_fits (bytes_of (frame r)) (returns r s v).conforms)
