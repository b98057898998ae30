-- What is proved of the definitions of this crate, each claim with the sentence of document 01 that it settles.
use Rattle.std.specs.Prelude.{Ok, Err}
use mathlib.Core.Path.{◌≡◌, ap, refl}
use mathlib.Core.Bool.{true, false}
use mathlib.Core.Logic.{◌⊎◌, ◌↔◌}
use mathlib.Core.List.{List, [], map, ◌∷◌, ◌++◌}
use Prim.Native.Nat.{ℕ, ◌-◌, ◌^◌, ◌≤◌, ◌<◌}
use lib.ListN.{length, get_or, drop}
use types.Run.{OneOf}
use Rattle.bits.specs.Frame.{Bytes, bytes_of, field_of}
use Rattle.rows.specs.declared.refusal.Refusal.{Refusal}
use Rattle.rows.specs.declared.refusal.Refusal.TheVariants.{Range, Gap, Unused, Sentence, Checksum, Satellite}
use Rattle.report.specs.declared.record.Record.{Record}
use Rattle.rows.specs.Refusals.{says, answers, Verdict}
use Rattle.rows.specs.Layout.{all_rows, tiles, all_fit, lowest, Row, Rule, spare_row, Member, codes_of, group, ungrouped}
use Rattle.report.specs.Records.{body_of, record_as, record_of, zeros, values}
use Rattle.rows.specs.Values.{cut, flat, has_spare, spares_at, values_of}
use Rattle.rows.specs.Found.{FoundAt, Normal, Starts}
use Rattle.rows.proofs.Rules.Found.{Coded, normal_or_coded, one_width}
use Rattle.nankai.specs.declared.PageNumbers.{PageNumbers}
use Rattle.report.specs.declared.body.Body.TheVariants.{Nankai}
use Rattle.report.proofs.FoundValues.{frame_field, frame_found, frame-total, record_found, record_total}
use Rattle.rows.specs.Runs.Verdict.{allowed, empty, walk}
use Rattle.report.specs.Meaning.{used_of}
use Rattle.report.specs.Runs.Reading.{read_answer, read_says, reading, read_of, seen}
use Rattle.report.specs.Conforms.{Conforms}
use Rattle.rows.specs.Faults.{Fault, Lowest, Met}
use Rattle.report.specs.Reasons.{read_questions, WhyNotRead, write_questions, WhyNotWritten}
use Rattle.report.specs.Runs.Writing.{frame, known, written, write_answer, write_of, write_says, Valid}
use Rattle.report.specs.Rules.{KeepsRules}
use Rattle.report.proofs.Reading.Frames.{layout_of, frame_values, conforming_fine, fine_conforming, reason, faulty, faultless, no_gap}
use Rattle.rows.proofs.Layouts.Lengths.{Filled, frame-filled}
use Rattle.slots.proofs.Used.{counted_used}
use Rattle.report.proofs.Reading.Used.{InPrefecture, others-empty, told_activity, used_area, used_flood-area, used_place, used_prefecture, used_slot_kept, used_volcano-place}
use Rattle.rows.proofs.Rules.Numbers.{answered_value, answers_not_nine, not_nine, numbered_without_sentences, says_apart, says-numbered, zero_fine}
use Rattle.report.proofs.Reading.Looks.{read_look, refused_look}
use Rattle.report.proofs.Reading.ReadNumbers.{read_ten, refused_zeros}
use Rattle.report.proofs.Reading.ReadSteps.{answer_found}
use Rattle.report.proofs.PaperValues.{found, expected, paper_values, every-row}
use Rattle.report.proofs.Writing.WriteNumbers.{write_numbers, write_numbered}
use Rattle.report.proofs.RoundTrips.ReadThenWritten.{valid_written, written_again}
use Rattle.report.proofs.RoundTrips.WrittenThenRead.{returns, read_again}
use Rattle.report.proofs.RoundTrips.OneToOne.{WrittenBy, frame_of_record, same_frame, same_record, conforming_written, written-bytes}
use Rattle.report.specs.declared.body.Body.{Body}
use Rattle.report.proofs.Shaped.{Shaped, frame-shaped, record_filled}
use Rattle.report.proofs.Categories.{Each, all, first_spare, layouts, samples, second_spare, spares_told}
use Rattle.report.proofs.RoundTrips.Witnesses.{WrittenAndRead, full, full_written_and_read, samples_written_and_read}
use Rattle.report.proofs.Spares.{first_too_wide, no_second, on_the_wire, second_too_wide, sparing}
use Rattle.rows.proofs.Rules.Spares.{spare_bit, spare_rows, spare_width}
use Rattle.report.proofs.SpareValues.{spare_values, every-row as every-spare-row}
use Rattle.bits.proofs.Frames.{field_lt}
use Rattle.report.specs.Categories.{categories, layout, preambles}
use Rattle.slots.specs.Slots.{no_slot, slot_parts, slots_values, slot_values}
use Rattle.slots.specs.declared.slot.Slot.{Slot}
use Rattle.ash_fall.specs.AshFall.{ash_fall}
use Rattle.rows.specs.Kept.{AllNormal, In, Keeps, Kept, latest}
use Rattle.rows.proofs.Rules.Groups.{group_kept, group_of_codes, mixed_group, passed}
use Rattle.tsunami.specs.Tsunami.{tsunami}
use Rattle.tsunami.specs.Meaning.{arrival_of, height_of}
use Rattle.tsunami.specs.declared.meaning.Arrival.TheVariants.{At, Arrived}
use Rattle.tsunami.specs.declared.meaning.Height.TheVariants.{Code, Unknown}
use Rattle.report.proofs.TsunamiValues.{tsunami_values, every-row as every-tsunami-row}
use Rattle.volcano.specs.Volcano.{volcano}
use Rattle.volcano.specs.Meaning.{activity_time_of, validity_of}
use Rattle.volcano.specs.declared.meaning.ActivityTime.TheVariants.{At as AtTime, Unknown as UnknownTime}
use Rattle.volcano.specs.declared.meaning.Validity.TheVariants.{OutOfRange as NoAmbiguity}
use Rattle.report.proofs.VolcanoValues.{volcano_values, every-row as every-volcano-row}
use Rattle.flood.specs.Flood.{flood}
use Rattle.report.proofs.FloodValues.{flood_values, every-row as every-flood-row}
use Rattle.intensity.specs.Intensity.{intensity}
use Rattle.report.proofs.Tables.{all_rows_rise, passing, tables_tile as tiled, rules_fit as fit}
use Rattle.report.proofs.Writing.Validity.{record_layout, record_values, valid_keeps, keeps_valid, reason as write-reason, faulty as write-faulty, faultless as write-faultless, fault_free}
use Rattle.report.proofs.Writing.WriteReasons.{reserving, no_gap as write-no-gap, above_63}

-- ---- the tables

-- "A frame is 250 bits, .. numbered from 0": the rows of each category tile bits 8 to 225, without gap or overlap. Bits 0 to
-- 7 are the preamble, bits 226 to 249 the parity.
pub tables_tile : all (λ l. tiles 8 226 (all_rows l)) layouts ≡ true
tables_tile = tiled

-- "9 bits each: 0 or 101-500", and so in every row: the greatest value that a rule lets through fits the width.
pub rules_fit : all (λ l. all_fit (all_rows l)) layouts ≡ true
rules_fit = fit

-- "The frame on the wire" has a rule for each field, and each is asked for: a frame has a value for every row ..
pub values_never_run_short : (s : List ℕ) (b : Body) → Filled (layout b) (values_of s (layout b))
values_never_run_short s b = frame-filled s (layout b)

-- .. and so has a record with "sixteen slots (hour, strength or intensity, place) and 18 text bytes".
pub record_values_never_run_short : (r : Record) → length r.slots ≡ 16 → length r.text ≡ 18 → Filled (layout r.body) (values r)
record_values_never_run_short r n m = record_filled r (record { slots = n; text = m })

-- "hour, strength or intensity, place": what a slot of the record holds is told by its fields of those names and no other; "in category 3 each
-- slot's hour is zero".
pub slots_of_category_3_are_intensity_and_prefecture : (s : Slot) → slot_values intensity.slots s ≡ s.strength ∷ s.place ∷ []
slots_of_category_3_are_intensity_and_prefecture s = refl

pub slots_of_category_9_are_hour_strength_and_place : (s : Slot) → slot_values ash_fall.slots s ≡ s.hour ∷ s.strength ∷ s.place ∷ []
slots_of_category_9_are_hour_strength_and_place s = refl

pub slots_of_category_5_are_day_hour_minute_height_and_region : (s : Slot) → slot_values tsunami.slots s ≡ s.day ∷ s.hour ∷ s.minute ∷ s.strength ∷ s.place ∷ []
slots_of_category_5_are_day_hour_minute_height_and_region s = refl

pub slots_of_category_8_are_places : (s : Slot) → slot_values volcano.slots s ≡ s.place ∷ []
slots_of_category_8_are_places s = refl

pub slots_of_category_11_are_level_and_region : (s : Slot) → slot_values flood.slots s ≡ s.strength ∷ s.place ∷ []
slots_of_category_11_are_level_and_region s = refl

-- "Rc and It take the values which that table gives for this category": of the eight that Rc can hold and the four of It, each category
-- lets these through.
pub each_category_has_its_own_rc : map {B = ℕ × List ℕ} (λ l. (l.code, passing (allowed l.rcs) 0 8)) (drop 1 layouts)
    ≡ (2, 2 ∷ 7 ∷ []) ∷ (3, 2 ∷ 7 ∷ []) ∷ (4, 2 ∷ 7 ∷ []) ∷ (5, 1 ∷ 3 ∷ 7 ∷ []) ∷ (8, 2 ∷ 3 ∷ 7 ∷ []) ∷ (9, 2 ∷ 7 ∷ []) ∷ (11, 2 ∷ 3 ∷ 7 ∷ []) ∷ []
unfolding allowed
each_category_has_its_own_rc = refl

pub each_category_has_its_own_it : map {B = ℕ × List ℕ} (λ l. (l.code, passing (allowed l.types) 0 4)) (drop 1 layouts)
    ≡ (2, 0 ∷ 2 ∷ []) ∷ (3, 0 ∷ 2 ∷ []) ∷ (4, 0 ∷ 2 ∷ []) ∷ (5, 0 ∷ 2 ∷ []) ∷ (8, 0 ∷ 1 ∷ 2 ∷ []) ∷ (9, 0 ∷ 1 ∷ 2 ∷ []) ∷ (11, 0 ∷ 1 ∷ 2 ∷ []) ∷ []
unfolding allowed
each_category_has_its_own_it = refl

-- "Keep every spare's bits": which bits of each category are spare, the first one and how many.
pub each_category_has_its_own_spares : map {B = ℕ × List (ℕ × ℕ)} (λ l. (l.code, spare_rows (all_rows l))) (drop 1 layouts)
    ≡ (2, (43, 10) ∷ (163, 51) ∷ [])
    ∷ (3, (43, 10) ∷ (213, 1) ∷ [])
    ∷ (4, (43, 10) ∷ (213, 1) ∷ [])
    ∷ (5, (43, 10) ∷ [])
    ∷ (8, (43, 7) ∷ (203, 11) ∷ [])
    ∷ (9, (43, 10) ∷ (199, 15) ∷ [])
    ∷ (11, (43, 10) ∷ (185, 29) ∷ []) ∷ []
each_category_has_its_own_spares = refl

-- ---- groups: "An arrival code that speaks for hour and minute together must have both; a mixture is refused"

-- A group of any number of fields, wherever it stands in a table, is kept exactly where all of its fields have their codes or each is in
-- its normal range ..
pub a_group_is_all_codes_or_all_in_range : (rs : List Row) (ws : List ℕ) (a : ℕ) (past : List ℕ) (ms : List Member) (vs : List ℕ) → length vs ≡ length ms
    → Kept past (group a ms ++ rs) (vs ++ ws) ↔ ((vs ≡ codes_of ms) ⊎ AllNormal ms vs) × Kept (passed vs past) rs ws
a_group_is_all_codes_or_all_in_range rs ws a past ms vs n = group_kept rs ws a past ms vs n

-- .. with all codes nothing is refused in it ..
pub a_group_of_codes_passes : (rs : List Row) (ws : List ℕ) (a : ℕ) (past : List ℕ) (ms : List Member)
    → walk past (group a ms ++ rs) (codes_of ms ++ ws) ≡ walk (passed (codes_of ms) past) rs ws
a_group_of_codes_passes rs ws a past ms = group_of_codes rs ws a past ms

-- .. and "a mixed arrival time is 8 at its first field that is out of the normal range": any other values are refused where they would be
-- if there were no codes.
pub a_mixture_is_refused_by_the_normal_ranges : (rs : List Row) (ws : List ℕ) (a : ℕ) (past : List ℕ) (ms : List Member) (vs : List ℕ) → length vs ≡ length ms
    → (vs ≡ codes_of ms → ⊥) → walk past (group a ms ++ rs) (vs ++ ws) ≡ walk past (ungrouped a ms ++ rs) (vs ++ ws)
a_mixture_is_refused_by_the_normal_ranges rs ws a past ms vs n x = mixed_group rs ws a past ms vs n x

-- A field passes exactly where its value is in its normal range, or its group has its codes.
pub passes_in_its_normal_range_or_with_its_codes : (r : Rule) (past : List ℕ) (v : ℕ) (next : List ℕ) → Keeps r past v next ↔ Normal r (latest past) v ⊎ Coded r past v next
passes_in_its_normal_range_or_with_its_codes r past v next = normal_or_coded r past v next

-- ---- reading

-- "a conforming frame is read" ..
pub conforming_is_read : (s : List ℕ) → Conforms s → read_answer s ≡ Ok tt
conforming_is_read s c = conforming_fine s c

-- .. and gives the record of its own fields: "one that gives a fixed record fails it too".
pub conforming_gives_its_record : (s : List ℕ) → Conforms s → read_of s ≡ record { answer = Ok tt; «record» = record_of s }
conforming_gives_its_record s c = ap (λ (v : Verdict). reading v (record_of s)) (conforming_fine s c)

-- "given when", of the numbers 1 to 8 and 10: a frame that breaks a rule is refused, so what is read keeps every one.
pub read_conforms : (s : List ℕ) → read_answer s ≡ Ok tt → Conforms s
read_conforms s e = fine_conforming s e

-- "A refusal is given only when its row's reason is there." "Reading a frame: 1 to 7 in that order", then 8 and 10 by lowest
-- bit: the condition of the number fails, every earlier one holds, and no fault has a lower bit than that of an 8 or 10.
pub refused_for_a_reason : (s : List ℕ) (x : Refusal) → read_answer s ≡ Err x → WhyNotRead s x
refused_for_a_reason s x e = reason s x e

-- By lowest bit, from the fault: a frame that passes 1 to 7 and has a fault is refused, for one with the lowest bit.
pub faulty_is_refused : (s : List ℕ) (y : Refusal) → Met (read_questions s) → Fault (layout_of s) (frame_values s) y
    → (x : Refusal) × (read_answer s ≡ Err x) × Lowest (layout_of s) (frame_values s) x
faulty_is_refused s y m f = faulty s y m f

-- "where no row tested by a call applies, the call succeeds"
pub faultless_is_read : (s : List ℕ) → Met (read_questions s)
    → ((x : Refusal) → Fault (layout_of s) (frame_values s) x → ⊥) → read_answer s ≡ Ok tt
faultless_is_read s m h = faultless s m h

-- "Every field check hands back the value found beside the place": a row of the frame's table starts at the place of an 8, and the value
-- is the field of that row's width there ..
pub a_refused_value_is_the_field_at_its_place : (s : List ℕ) (p x : ℕ) → read_answer s ≡ Err (Range p x)
    → (w : ℕ) × (Starts (all_rows (layout_of s)) p w × (x ≡ field_of s p w))
a_refused_value_is_the_field_at_its_place s p x e = frame_field s p x e

-- .. the only one that starts there ..
pub one_row_starts_at_a_place : (b : Body) (p w u : ℕ) → Starts (all_rows (layout b)) p w → Starts (all_rows (layout b)) p u → w ≡ u
one_row_starts_at_a_place b p w u f g = one_width 8 226 (all_rows (layout b)) p w u (all_rows_rise b) f g

-- .. which is not in the row's normal range ..
pub a_refused_value_is_out_of_range : (s : List ℕ) (p x : ℕ) → read_answer s ≡ Err (Range p x)
    → FoundAt 0 (all_rows (layout_of s)) (map (cut s) (all_rows (layout_of s))) p x
a_refused_value_is_out_of_range s p x e = frame_found s p x e

-- .. and "A refused category 4 total gives the total": below the page number, or above 63.
pub a_refused_total_is_told : (s : List ℕ) (x : ℕ) → field_of s 17 4 ≡ 4 → read_answer s ≡ Err (Range 207 x)
    → (x ≡ field_of s 207 6) × ((field_of s 207 6 < field_of s 201 6) ⊎ (63 < field_of s 207 6))
a_refused_total_is_told s x c e = frame-total s x c e

-- "For a slot the gap is tested before its fields."
pub gap_before_fields : (s : List ℕ) (p v : ℕ) → read_answer s ≡ Err (Range p v) → Fault (layout_of s) (frame_values s) (Gap p) → ⊥
gap_before_fields s p v e f = no_gap s p v e f

-- ---- slots

-- Not "an empty slot named by the first row of a table": each slot that is counted has something in it, in any record.
pub counted_slots_are_used : (r : Record) (i : ℕ) → i < used_of r → empty (get_or (map slot_parts r.slots) i []) ≡ false
unfolding used_of
counted_slots_are_used r i h = counted_used (map slot_parts r.slots) i h

-- "In a used slot each field must be in its range": in a frame that is read, those that are counted keep their rows' rules.
pub used_slots_keep_their_rules : (s : List ℕ) → Conforms s → (i : ℕ) → i < used_of (record_of s)
    → Kept [] (layout_of s).slots.rows (slot_values (layout_of s).slots (get_or (record_of s).slots i no_slot))
used_slots_keep_their_rules s c i u = used_slot_kept s c i u

-- So each used slot of an intensity report has a "prefecture (6, 1-47)" ..
pub used_prefectures_are_1_to_47 : (s : List ℕ) → Conforms s → field_of s 17 4 ≡ 3 → (i : ℕ) → i < used_of (record_of s)
    → (1 ≤ (get_or (record_of s).slots i no_slot).place) × ((get_or (record_of s).slots i no_slot).place ≤ 47)
used_prefectures_are_1_to_47 s c e i u = used_prefecture s c e i u

-- .. and each used slot of an ash fall report a place that lies in one: "A place divided by 100000, remainder dropped, is its
-- prefecture, 1 to 47".
pub used_places_lie_in_a_prefecture : (s : List ℕ) → Conforms s → field_of s 17 4 ≡ 9 → (i : ℕ) → i < used_of (record_of s)
    → InPrefecture (get_or (record_of s).slots i no_slot).place
used_places_lie_in_a_prefecture s c e i u = used_place s c e i u

-- .. as does each of a volcano report ..
pub used_places_of_a_volcano_report_lie_in_a_prefecture : (s : List ℕ) → Conforms s → field_of s 17 4 ≡ 8 → (i : ℕ) → i < used_of (record_of s)
    → InPrefecture (get_or (record_of s).slots i no_slot).place
used_places_of_a_volcano_report_lie_in_a_prefecture s c e i u = used_volcano-place s c e i u

-- .. and each used area of a tsunami report an arrival that is told, a height that is told or known to be unknown, and a region: "five
-- areas, each with arrival time, height code and forecast region".
pub used_areas_are_told : (s : List ℕ) → Conforms s → field_of s 17 4 ≡ 5 → (i : ℕ) → i < used_of (record_of s)
    → let a = get_or (record_of s).slots i no_slot in
    ((arrival_of a.hour a.minute ≡ Arrived) ⊎ (arrival_of a.hour a.minute ≡ At a.hour a.minute))
    × (((height_of a.strength ≡ Unknown) ⊎ (height_of a.strength ≡ Code a.strength)) × ((100 ≤ a.place) × (a.place ≤ 1000)))
used_areas_are_told s c e i u = used_area s c e i u

-- .. and each used area of a flood report a level and a region: "up to three areas with level and region".
pub used_areas_of_a_flood_report_have_level_and_region : (s : List ℕ) → Conforms s → field_of s 17 4 ≡ 11 → (i : ℕ) → i < used_of (record_of s)
    → let a = get_or (record_of s).slots i no_slot in ((1 ≤ a.strength) × (a.strength ≤ 15)) × ((10175000100 ≤ a.place) × (a.place ≤ 899999999999))
used_areas_of_a_flood_report_have_level_and_region s c e i u = used_flood-area s c e i u

-- "An activity time may be unknown .. A mixture is refused": in a volcano report that is read the three fields say a time or that it is
-- unknown, and the ambiguity says how much of it is valid.
pub activity_times_are_told : (s : List ℕ) → Conforms s → field_of s 17 4 ≡ 8
    → let time = activity_time_of (field_of s 53 5) (field_of s 58 5) (field_of s 63 6) in
    ((time ≡ UnknownTime) ⊎ (time ≡ AtTime (field_of s 53 5) (field_of s 58 5) (field_of s 63 6))) × (validity_of (field_of s 50 3) ≡ NoAmbiguity → ⊥)
activity_times_are_told s c e = told_activity s c e

-- "After an empty slot every slot is empty": in a frame that is read, none behind the counted ones has.
pub other_slots_are_empty : (s : List ℕ) → Conforms s → (i : ℕ) → used_of (record_of s) ≤ i → i < (layout_of s).slots.count
    → empty (get_or (slots_values (layout_of s).slots (record_of s).slots) i []) ≡ true
other_slots_are_empty s c i u l = others-empty s c i u l

-- ---- numbers

-- "What each number says": no two refusals have the same number, place, value, page and mark.
pub answers_tell_refusals_apart : (x y : Refusal) → says x ≡ says y → x ≡ y
answers_tell_refusals_apart x y e = says_apart x y e

-- A refusal has one of the numbers of that table, so none has number 0 ..
pub refusals_are_1_to_20 : (x : Refusal) → (1 ≤ (says x).number) × ((says x).number ≤ 20)
refusals_are_1_to_20 x = says-numbered x

-- .. of which 18 to 20 speak of a receiver's sentence: a refusal of a frame, a record, a store or a line has one of 1 to 17
pub refusals_are_1_to_17 : (x : Refusal) → (x ≡ Sentence → ⊥) → (x ≡ Checksum → ⊥) → (x ≡ Satellite → ⊥) → (1 ≤ (says x).number) × ((says x).number ≤ 17)
refusals_are_1_to_17 = numbered_without_sentences

-- .. and where a promise says 0 nothing is refused: "answer (0 when read)".
pub zero_says_that_nothing_is_refused : (v : Verdict) → (answers v).number ≡ 0 → v ≡ Ok tt
zero_says_that_nothing_is_refused v e = zero_fine v e

-- .. and no number but 8 has a value.
pub only_8_has_a_value : (v : Verdict) → ((answers v).number ≡ 8 → ⊥) → (answers v).value ≡ 0
only_8_has_a_value v h = answered_value v h

-- "Reading a frame: 1 to 7 in that order", then 8 and 10: no other number is answered ..
pub answers_are_0_to_10 : (s : List ℕ) → (read_says s).number ≤ 10
answers_are_0_to_10 s = read_ten s

-- .. and "9 no longer occurs", in reading or anywhere else.
pub no_refusal_is_9 : (x : Refusal) → (says x).number ≡ 9 → ⊥
no_refusal_is_9 x e = not_nine x e

pub no_answer_is_9 : (v : Verdict) → (answers v).number ≡ 9 → ⊥
no_answer_is_9 v e = answers_not_nine v e

-- "A refused reading gives a record of zeros."
pub a_refused_reading_gives_zeros : (s : List ℕ) (x : Refusal) → (read_of s).answer ≡ Err x → (read_of s).«record» ≡ zeros
a_refused_reading_gives_zeros s x e = refused_zeros (read_answer s) (record_of s) x e

-- A look, of which a listing is made, says what reading says: whatever the bytes are, the answer is that of reading ..
pub a_look_answers_as_reading_does : (s : List ℕ) → (seen (read_of s)).answer ≡ read_answer s
a_look_answers_as_reading_does s = answer_found (read_answer s) (record_of s)

-- .. where that is a refusal there is nothing else to see ..
pub nothing_else_is_seen_of_a_refused_frame : (s : List ℕ) (x : Refusal) → read_answer s ≡ Err x → seen (read_of s) ≡ record { answer = Err x; category = 0; count = 0; used = 0 }
nothing_else_is_seen_of_a_refused_frame = refused_look

-- .. and of a frame that is read, the category that stands in it, how many slots that has, and "slots used".
pub a_look_sees_category_and_slots : (s : List ℕ) → read_answer s ≡ Ok tt
    → seen (read_of s) ≡ record { answer = Ok tt; category = field_of s 17 4; count = (layout (body_of s)).slots.count; used = used_of (record_of s) }
a_look_sees_category_and_slots = read_look

-- "All of these stand in one table over the definitions, with a single proved claim": P1 to P12.
pub paper_values_hold : map found paper_values ≡ map expected paper_values
paper_values_hold = every-row

-- The same of category 5: its arrival codes and their mixtures, and every bound of its table.
pub tsunami-values_hold : map found tsunami_values ≡ map expected tsunami_values
tsunami-values_hold = every-tsunami-row

-- Of category 8: every mixture of a time and its codes, and every bound of its table ..
pub volcano-values_hold : map found volcano_values ≡ map expected volcano_values
volcano-values_hold = every-volcano-row

-- .. and of category 11: regions of forty bits, half-filled areas, and every bound of its table.
pub flood-values_hold : map found flood_values ≡ map expected flood_values
flood-values_hold = every-flood-row

-- Spares at their bounds, and together with other faults.
pub spare_values_hold : map found spare_values ≡ map expected spare_values
spare_values_hold = every-spare-row

-- ---- spares: "Keep every spare's bits in the record and write them back"

-- Whatever stands in a spare of a frame keeps its rule: no frame is refused for it ..
pub any_spare_of_a_frame_passes : (s : List ℕ) (a w : ℕ) (past next : List ℕ) → Keeps (spare_row a w).rule past (field_of s a w) next
any_spare_of_a_frame_passes s a w past next = field_lt s a w

-- .. it is kept in the record ..
pub the_record_has_the_spares_of_its_frame : (s : List ℕ) → Conforms s → (record_of s).spares ≡ record { first = first_spare s (field_of s 17 4); second = second_spare s (field_of s 17 4) }
unfolding record_as
the_record_has_the_spares_of_its_frame s c = spares_told s (field_of s 17 4) c.category

-- .. and is written back: what a valid record has in its spares, its frame has in its spare bits.
pub the_frame_has_the_spares_of_its_record : (r : Record) → Shaped r → Valid r → spares_at (bytes_of (frame r)) (layout r.body) ≡ r.spares
the_frame_has_the_spares_of_its_record r s v = on_the_wire r s v

-- "in writing, a spare too wide for its field is 8 at its first bit": any valid record, with such a first spare instead of its own ..
pub a_first_spare_too_wide_is_8 : (r : Record) → Valid r → (n : ℕ) → 2 ^ spare_width (layout r.body).front ≤ n
    → write_answer (sparing r (record { first = n; second = r.spares.second })) 32 ≡ Err (Range (spare_bit (layout r.body).front) n)
a_first_spare_too_wide_is_8 r v n h = first_too_wide r v n h

-- .. and any one of a category that has a second spare, with such a one.
pub a_second_spare_too_wide_is_8 : (r : Record) → Valid r → (n : ℕ) → has_spare (layout r.body).behind ≡ true → 2 ^ spare_width (layout r.body).behind ≤ n
    → write_answer (sparing r (record { first = r.spares.first; second = n })) 32 ≡ Err (Range (spare_bit (layout r.body).behind) n)
a_second_spare_too_wide_is_8 r v n s h = second_too_wide r v n s h

-- "record has something where its category has nothing": a second spare where the category has none is 11.
pub a_second_spare_of_a_category_without_one_is_11 : (r : Record) → In preambles r.preamble → known r.body ≡ true → has_spare (layout r.body).behind ≡ false
    → (r.spares.second ≡ 0 → ⊥) → write_answer r 32 ≡ Err Unused
a_second_spare_of_a_category_without_one_is_11 r p k s h = no_second r p k s h

-- ---- writing

-- "A record is valid when writing it to 32 bytes is not refused": then it keeps every rule of document 01 ..
pub valid_keeps_rules : (r : Record) → Shaped r → Valid r → KeepsRules r
valid_keeps_rules r s v = valid_keeps r s v

-- .. and "where no row tested by a call applies, the call succeeds".
pub keeping_rules_is_valid : (r : Record) → Shaped r → KeepsRules r → Valid r
keeping_rules_is_valid r s k = keeps_valid r s k

-- "Writing: 1, 3, 7, 11, then 8 and 10 by lowest bit": the condition of the number fails, every earlier one holds, and no
-- fault has a lower bit than that of an 8 or 10.
pub writing_refused_for_a_reason : (r : Record) (size : ℕ) (x : Refusal) → Shaped r → write_answer r size ≡ Err x → WhyNotWritten r size x
writing_refused_for_a_reason r size x s e = write-reason r size s x e

-- "8 and 10 by lowest bit", from the fault: a record that passes 1, 3, 7 and 11 and has a fault is refused, for one with the
-- lowest bit.
pub faulty_is_refused_in_writing : (r : Record) (size : ℕ) (y : Refusal) → Shaped r → Met (write_questions r size) → Fault (record_layout r) (record_values r) y
    → (x : Refusal) × (write_answer r size ≡ Err x) × Lowest (record_layout r) (record_values r) x
faulty_is_refused_in_writing r size y s m f = write-faulty r size s y m f

-- "where no row tested by a call applies, the call succeeds" ..
pub faultless_is_written : (r : Record) (size : ℕ) → Shaped r → Met (write_questions r size)
    → ((x : Refusal) → Fault (record_layout r) (record_values r) x → ⊥) → write_answer r size ≡ Ok tt
faultless_is_written r size s m h = write-faultless r size s m h

-- .. and there alone
pub written_is_faultless : (r : Record) (size : ℕ) → Shaped r → write_answer r size ≡ Ok tt
    → Met (write_questions r size) × ((x : Refusal) → Fault (record_layout r) (record_values r) x → ⊥)
written_is_faultless r size s e = fault_free r size s e

-- "the gap again before a slot's fields"
pub gap_before_fields_in_writing : (r : Record) (size p v : ℕ) → Shaped r → write_answer r size ≡ Err (Range p v)
    → Fault (record_layout r) (record_values r) (Gap p) → ⊥
gap_before_fields_in_writing r size p v s e f = write-no-gap r size p v s e f

-- The value of an 8 stands in the record, for the row that starts at its place, and is not in that row's normal range ..
pub a_value_refused_in_writing_stands_in_the_record : (r : Record) (size p x : ℕ) → Shaped r → write_answer r size ≡ Err (Range p x)
    → FoundAt 0 (all_rows (layout r.body)) (flat (values r)) p x
a_value_refused_in_writing_stands_in_the_record r size p x s e = record_found r size p x s e

-- .. and that of a total is the total, below the page number or above 63.
pub a_total_refused_in_writing_is_told : (r : Record) (p : PageNumbers) (size x : ℕ) → Shaped r → r.body ≡ Nankai p
    → write_answer r size ≡ Err (Range 207 x) → (x ≡ p.total) × ((p.total < p.number) ⊎ (63 < p.total))
a_total_refused_in_writing_is_told r p size x s b e = record_total r p size x s b e

-- "a Reserved above 63 is 8 at bit 220": any valid record, with such a Reserved instead of its own.
pub reserved_above_63 : (r : Record) (n : ℕ) → Valid r → 63 < n → write_answer (reserving r n) 32 ≡ Err (Range 220 n)
reserved_above_63 r n v h = above_63 r n v h

-- "Writing: 1, 3, 7, 11, then 8 and 10": no other number is answered.
pub write_answers : (r : Record) (size : ℕ) → OneOf write_numbers (write_says r size).number
write_answers r size = write_numbered r size

-- "the final contents of every buffer lent to it": the frame of a valid record, whatever stood there; a refused writing
-- leaves the buffer as it was.
pub valid_is_written : (r : Record) (buffer : List ℕ) → Valid r → length buffer ≡ 32 → write_of r buffer ≡ bytes_of (frame r)
valid_is_written r buffer v l = valid_written r buffer v l

pub refused_leaves_the_buffer : (r : Record) (buffer : List ℕ) (x : Refusal) → write_answer r (length buffer) ≡ Err x → write_of r buffer ≡ buffer
refused_leaves_the_buffer r buffer x e = ap (λ (v : Verdict). written v r buffer) e

-- ---- there and back

-- "sixteen slots (hour, strength or intensity, place) and 18 text bytes": the record of a frame has that shape.
pub read_records_are_shaped : (s : List ℕ) → Shaped (record_of s)
read_records_are_shaped s = frame-shaped s (body_of s)

-- "The base reads and writes DC Report frames": what was read is written without refusal, and gives every bit back. Message type,
-- version and parity are not in a record, nor need they be.
pub written_again_is_the_frame : (s buffer : List ℕ) → Bytes s → (read_of s).answer ≡ Ok tt → length buffer ≡ 32
    → (write_answer (read_of s).«record» (length buffer) ≡ Ok tt) × (write_of (read_of s).«record» buffer ≡ s)
written_again_is_the_frame s buffer b e l = written_again s buffer b e l

-- What a valid record writes is read without refusal, and gives every field back. "What its category does not use is zero."
pub read_again_is_the_record : (r : Record) (buffer : List ℕ) → Shaped r → Valid r → length buffer ≡ 32
    → read_of (write_of r buffer) ≡ record { answer = Ok tt; «record» = r }
read_again_is_the_record r buffer s v l = read_again r buffer s v l

-- No record has two frames: a frame that reads as r is the one that r writes.
pub one_record_one_frame : (s : List ℕ) (r : Record) → Bytes s → read_of s ≡ record { answer = Ok tt; «record» = r } → s ≡ bytes_of (frame r)
one_record_one_frame s r b e = frame_of_record s r b e

-- So nothing that a frame says is lost in its record ..
pub different_frames_different_records : (s t : List ℕ) → Bytes s → Bytes t → Conforms s → Conforms t → record_of s ≡ record_of t → s ≡ t
different_frames_different_records s t b c d f e = same_frame s t b c d f e

-- .. and nothing that a valid record says is lost in its frame.
pub different_records_different_frames : (r q : Record) → Shaped r → Shaped q → Valid r → Valid q → bytes_of (frame r) ≡ bytes_of (frame q) → r ≡ q
different_records_different_frames r q s t v w e = same_record r q s t v w e

-- The conforming frames are the written ones: each is the frame of a valid record ..
pub conforming_frames_are_written : (s : List ℕ) → Bytes s → Conforms s → (r : Record) × WrittenBy s r
conforming_frames_are_written s b c = conforming_written s b c

-- .. and what a valid record writes conforms, and is bytes.
pub written_frames_conform : (r : Record) → Shaped r → Valid r → Conforms (bytes_of (frame r))
written_frames_conform r s v = (returns r s v).conforms

pub written_frames_are_bytes : (r : Record) → Bytes (bytes_of (frame r))
written_frames_are_bytes r = written-bytes r

-- There are such records and frames: one of each category ..
pub each_category_has_a_sample : map (λ r. (layout r.body).code) samples ≡ map lowest categories
each_category_has_a_sample = refl

-- .. is valid and written, its frame conforms, and is read as that record.
pub each_sample_is_written_and_read : Each WrittenAndRead samples
each_sample_is_written_and_read = samples_written_and_read

-- So is each with every spare bit set: "One added field would empty our crawl" no more.
pub each_sample_with_every_spare_bit_set_is_written_and_read : Each WrittenAndRead (map full samples)
each_sample_with_every_spare_bit_set_is_written_and_read = full_written_and_read

pub those_samples_have_every_spare_bit_set : map (λ r. r.spares) (map full samples)
    ≡ record { first = 1023; second = 2 ^ 51 - 1 }
    ∷ record { first = 1023; second = 1 }
    ∷ record { first = 1023; second = 1 }
    ∷ record { first = 1023; second = 0 }
    ∷ record { first = 127; second = 2047 }
    ∷ record { first = 1023; second = 32767 }
    ∷ record { first = 1023; second = 2 ^ 29 - 1 } ∷ []
those_samples_have_every_spare_bit_set = refl
