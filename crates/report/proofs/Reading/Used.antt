-- What the number of used slots says: of any record, and of a frame that is read.
use Rattle.std.specs.Prelude.{Some}
use Rattle.report.specs.declared.body.Body.{Body}
use mathlib.Core.Bool.{Bool, ◌||◌, false, true}
use Rattle.report.specs.Conforms.{Conforms}
use mathlib.Core.List.{List, [], ◌∷◌, map}
use mathlib.Core.Logic.{◌⊎◌, inl, inr}
use Rattle.bits.specs.Frame.{field_of}
use Rattle.rows.specs.Layout.{Layout, Slots, ◌to◌, slot_rows}
use Rattle.rows.specs.Kept.{In, Kept, SlotsKept}
use Prim.Native.Nat.{◌*◌, ◌+◌, ◌/◌, ◌<◌, ◌≤◌, ℕ}
use mathlib.Core.Path.{◌∙◌, ◌≡◌, ap, ap₂, refl, subst, sym}
use native.Mathlib.Omega.{arith}
use Rattle.slots.proofs.Used.{behind_used, frame_used, names, used_at-most, used_kept}
use Rattle.report.specs.Records.{body_by, body_of, record_as, record_of}
use Rattle.rows.specs.Values.{cut, each, values_of}
use Rattle.rows.specs.Runs.Verdict.{empty}
use lib.Dec.{eqb}
use borrow.Author.Tests.{eqb-true, eqb-false}
use Rattle.rows.proofs.Layouts.Lengths.{each_at, frame-filled, length-each}
use Rattle.rows.proofs.Rules.Spans.{one_span}
use lib.ListN.{get_or, length, length-map}
use Rattle.ash_fall.specs.AshFall.{ash_fall}
use Rattle.ash_fall.specs.Meaning.{prefecture_of}
use Rattle.ash_fall.proofs.Claims.{a_prefecture_is_1_to_47, each_place_has_a_prefecture}
use Rattle.intensity.specs.Intensity.{intensity}
use Rattle.tsunami.specs.Tsunami.{tsunami}
use Rattle.tsunami.specs.Meaning.{arrival_of, height_of}
use Rattle.tsunami.specs.declared.meaning.Arrival.TheVariants.{At, Arrived}
use Rattle.tsunami.specs.declared.meaning.Height.TheVariants.{Code, Unknown}
use Rattle.volcano.specs.Volcano.{volcano}
use Rattle.volcano.specs.Meaning.{activity_time_of, validity_of}
use Rattle.volcano.specs.declared.meaning.ActivityTime.TheVariants.{At as AtTime, Unknown as UnknownTime}
use Rattle.volcano.specs.declared.meaning.Validity.TheVariants.{OutOfRange as NoAmbiguity}
use Rattle.volcano.proofs.Claims.{AllCodes, Timely, an_activity_keeps_its_rules, an_ambiguity_is_told, day_0_with_hour_31_and_minute_63_is_unknown, each_activity_time_is_told}
use Rattle.flood.specs.Flood.{flood}
use Rattle.flood.proofs.Claims.{an_area_keeps_its_rules as a-flood-area-keeps-its-rules}
use Rattle.tsunami.proofs.Claims.{an_area_keeps_its_rules, each_height_is_told_by_its_code, each_time_is_told, height_14_is_unknown, hour_31_with_minute_63_has_arrived}
use Rattle.report.specs.Categories.{body_from, layout}
use Rattle.report.proofs.Categories.{listed}
use Rattle.slots.proofs.Tables.{slot_agrees, slots_agree}
use Rattle.report.proofs.Tables.{slots_named, suited_slots}
use Rattle.slots.specs.Slots.{no_slot, slot_parts, slot_values, slots_values, used_among}
use Rattle.report.specs.Meaning.{used_of}
use Rattle.report.specs.declared.record.Record.{Record}

pub few : (r : Record) → length r.slots ≡ 16 → used_of r ≤ 16
unfolding used_of
few r n = omega (arith, used_at-most (map slot_parts r.slots), length-map r.slots slot_parts)

-- the values of a frame's slots
abbrev slots_at : List ℕ → Slots → List (List ℕ)
slots_at s t = each t.count (λ i. map (cut s) (slot_rows t (t.first + t.bits * i)))

named : (k : Slots) (b c : Bool) (i : ℕ) → eqb k.count 0 ≡ b → b || c ≡ true → i < k.count → c ≡ true
named k true c i e h l = absurd (omega (arith, eqb-true k.count 0 e))
named k false c i e h l = h

body_behind_used : (s : List ℕ) (b : Body) → SlotsKept (layout b).slots (slots_at s (layout b).slots)
    → (i : ℕ) → used_among (slots_at s (layout b).slots) ≤ i → i < (layout b).slots.count → empty (get_or (slots_at s (layout b).slots) i []) ≡ true
unfolding values_of
body_behind_used s b h i u l =
    let k = (layout b).slots in
    let test = listed (λ l. eqb l.slots.count 0 || names l.slots.rows) slots_named b in
    behind_used k (slots_at s k) (frame-filled s (layout b)).fields (named k (eqb k.count 0) (names k.rows) i refl test l) h i u
    (subst (λ (n : ℕ). i < n) (sym (length-each k.count _)) l)

-- the slots of a category behind those used are empty
pub others-empty : (s : List ℕ) → Conforms s → (i : ℕ) → used_of (record_of s) ≤ i → i < (layout (body_of s)).slots.count
    → empty (get_or (slots_values (layout (body_of s)).slots (record_of s).slots) i []) ≡ true
unfolding used_of record_as values_of
others-empty s c i u l =
    let k = (layout (body_of s)).slots in
    let t = suited_slots (body_of s) in
    ap (λ (vs : List (List ℕ)). empty (get_or vs i [])) (slots_agree k t s)
    ∙ body_behind_used s (body_of s) c.rows.slots i (subst (λ (n : ℕ). n ≤ i) (frame_used k t s) u) l

-- ---- each used slot keeps its category's rules

pub used_slot_kept : (s : List ℕ) → Conforms s → (i : ℕ) → i < used_of (record_of s)
    → Kept [] (layout (body_of s)).slots.rows (slot_values (layout (body_of s)).slots (get_or (record_of s).slots i no_slot))
unfolding used_of record_as values_of
used_slot_kept s c i u =
    let k = (layout (body_of s)).slots in
    let t = suited_slots (body_of s) in
    let counted : i < used_among (slots_at s k) = subst (λ (n : ℕ). i < n) (frame_used k t s) u in
    let inside : i < k.count = omega (arith, counted, used_at-most (slots_at s k), length-each k.count (λ i. map (cut s) (slot_rows k (k.first + k.bits * i)))) in
    subst (Kept [] k.rows) (each_at k.count _ [] i inside ∙ sym (slot_agrees k t s i inside)) (used_kept k (slots_at s k) c.rows.slots i counted)

-- where the category has this table
used_slot_of : (s : List ℕ) → Conforms s → (l : Layout) → layout (body_of s) ≡ l → (i : ℕ) → i < used_of (record_of s)
    → Kept [] l.slots.rows (slot_values l.slots (get_or (record_of s).slots i no_slot))
used_slot_of s c l e i u =
    subst (λ (l : Layout). Kept [] l.slots.rows (slot_values l.slots (get_or (record_of s).slots i no_slot))) e (used_slot_kept s c i u)

table_by_code : (s : List ℕ) (dc : ℕ) → field_of s 17 4 ≡ dc → layout (body_of s) ≡ layout (body_by s dc)
table_by_code s dc e = ap (λ (n : ℕ). layout (body_by s n)) e

pub used_prefecture : (s : List ℕ) → Conforms s → field_of s 17 4 ≡ 3 → (i : ℕ) → i < used_of (record_of s)
    → (1 ≤ (get_or (record_of s).slots i no_slot).place) × ((get_or (record_of s).slots i no_slot).place ≤ 47)
unfolding body_from
used_prefecture s c e i u = one_span 1 47 _ (used_slot_of s c intensity (table_by_code s 3 e) i u).1.0

abbrev pub InPrefecture : ℕ → Type 0
InPrefecture place = (p : ℕ) × ((prefecture_of place ≡ Some p) × ((1 ≤ p) × (p ≤ 47)))

lies : (place : ℕ) → In (110000 to 4799999 ∷ []) place → InPrefecture place
lies place h =
    let inside = one_span 110000 4799999 place h in
    let named : prefecture_of place ≡ Some (place / 100000) = each_place_has_a_prefecture place (omega arith) inside.1 in
    (place / 100000, (named, (a_prefecture_is_1_to_47 place (place / 100000) named).1))

pub used_place : (s : List ℕ) → Conforms s → field_of s 17 4 ≡ 9 → (i : ℕ) → i < used_of (record_of s) → InPrefecture (get_or (record_of s).slots i no_slot).place
unfolding body_from
used_place s c e i u = lies _ (used_slot_of s c ash_fall (table_by_code s 9 e) i u).1.1.0

pub used_volcano-place : (s : List ℕ) → Conforms s → field_of s 17 4 ≡ 8 → (i : ℕ) → i < used_of (record_of s) → InPrefecture (get_or (record_of s).slots i no_slot).place
unfolding body_from
used_volcano-place s c e i u = lies _ (used_slot_of s c volcano (table_by_code s 8 e) i u).0

pub used_flood-area : (s : List ℕ) → Conforms s → field_of s 17 4 ≡ 11 → (i : ℕ) → i < used_of (record_of s)
    → let a = get_or (record_of s).slots i no_slot in ((1 ≤ a.strength) × (a.strength ≤ 15)) × ((10175000100 ≤ a.place) × (a.place ≤ 899999999999))
unfolding body_from
used_flood-area s c e i u =
    let a = get_or (record_of s).slots i no_slot in
    (a-flood-area-keeps-its-rules a.strength a.place).0 (used_slot_of s c flood (table_by_code s 11 e) i u)

-- ---- the time of a volcano report, and its ambiguity

pub told_activity : (s : List ℕ) → Conforms s → field_of s 17 4 ≡ 8
    → let time = activity_time_of (field_of s 53 5) (field_of s 58 5) (field_of s 63 6) in
    ((time ≡ UnknownTime) ⊎ (time ≡ AtTime (field_of s 53 5) (field_of s 58 5) (field_of s 63 6))) × (validity_of (field_of s 50 3) ≡ NoAmbiguity → ⊥)
unfolding body_from values_of
told_activity s c e =
    let kept : Kept [] volcano.front (map (cut s) volcano.front) = subst (λ (l : Layout). Kept [] l.front (map (cut s) l.front)) (table_by_code s 8 e) c.rows.front in
    let k = (an_activity_keeps_its_rules (field_of s 43 7) (field_of s 50 3) (field_of s 53 5) (field_of s 58 5) (field_of s 63 6) (field_of s 69 7) (field_of s 76 12)).0 kept in
    (told (field_of s 53 5) (field_of s 58 5) (field_of s 63 6) k.1.1.0, an_ambiguity_is_told (field_of s 50 3) k.1.0)
  where
    told : (d h m : ℕ) → AllCodes d h m ⊎ Timely d h m → (activity_time_of d h m ≡ UnknownTime) ⊎ (activity_time_of d h m ≡ AtTime d h m)
    told d h m (inl k) = inl (coded d h m k)
      where
        coded : (d h m : ℕ) → AllCodes d h m → activity_time_of d h m ≡ UnknownTime
        coded d h m k = simp (k.0, k.1.0, k.1.1) day_0_with_hour_31_and_minute_63_is_unknown
    told d h m (inr t) = inr (each_activity_time_is_told d h m t)

-- what the arrival and the height of an area say, where it keeps its rules
arrives : (hour minute : ℕ) → ((hour ≡ 31) × (minute ≡ 63)) ⊎ ((hour ≤ 23) × (minute ≤ 59))
    → (arrival_of hour minute ≡ Arrived) ⊎ (arrival_of hour minute ≡ At hour minute)
arrives hour minute (inl e) = inl (ap₂ arrival_of e.0 e.1 ∙ hour_31_with_minute_63_has_arrived)
arrives hour minute (inr h) = inr (each_time_is_told hour minute h.0 h.1)

measured : (code : ℕ) → 1 ≤ code → code ≤ 15 → (height_of code ≡ Unknown) ⊎ (height_of code ≡ Code code)
measured code low high = by (eqb code 14) refl
  where
    by : (b : Bool) → eqb code 14 ≡ b → (height_of code ≡ Unknown) ⊎ (height_of code ≡ Code code)
    by true e = inl (ap height_of (eqb-true code 14 e) ∙ height_14_is_unknown)
    by false e = inr (each_height_is_told_by_its_code code low high (eqb-false code 14 e))

pub used_area : (s : List ℕ) → Conforms s → field_of s 17 4 ≡ 5 → (i : ℕ) → i < used_of (record_of s)
    → let a = get_or (record_of s).slots i no_slot in
    ((arrival_of a.hour a.minute ≡ Arrived) ⊎ (arrival_of a.hour a.minute ≡ At a.hour a.minute))
    × (((height_of a.strength ≡ Unknown) ⊎ (height_of a.strength ≡ Code a.strength)) × ((100 ≤ a.place) × (a.place ≤ 1000)))
unfolding body_from
used_area s c e i u =
    let a = get_or (record_of s).slots i no_slot in
    let k = (an_area_keeps_its_rules a.day a.hour a.minute a.strength a.place).0 (used_slot_of s c tsunami (table_by_code s 5 e) i u) in
    (arrives a.hour a.minute k.1.0, (measured a.strength k.1.1.0.0 k.1.1.0.1, k.1.1.1))
