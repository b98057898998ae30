-- What is claimed of one call, over the words and bytes that a program in C sees. What calls in a row come to is claimed in `calls`.
use Rattle.bulletin.specs.declared.take.Took.TheVariants.{New, Same, Disputed}
use Rattle.std.specs.Prelude.{Ok, Err}
use mathlib.Core.Path.{◌≡◌, refl, sym, ap, ◌∙◌}
use mathlib.Core.Bool.{true}
use mathlib.Core.Logic.{◌↔◌, ◌⊎◌, ⊎_elim}
use mathlib.Core.List.{List, [], ◌∷◌}
use lib.Dec.{lit≤}
use lib.ListN.{get_or, length}
use Prim.Native.Nat.{ℕ, ◌+◌, ◌*◌, ◌/◌, ◌^◌, ◌≤◌, ◌<◌}
use Rattle.rows.specs.declared.refusal.Refusal.{Refusal}
use Rattle.rows.specs.declared.refusal.Said.{Said}
use Rattle.rows.specs.declared.refusal.Refusal.TheVariants.{Range}
use Rattle.rows.specs.Refusals.{at, plain, says, answers, Verdict}
use Rattle.rows.proofs.Rules.Numbers.{answered_value}
use Rattle.report.specs.Runs.Reading.{read_answer, read_of, read_says}
use Rattle.report.specs.Runs.Writing.{write_answer, write_says}
use Rattle.line.specs.Lines.{line_reading, line_says, line_write_says}
use Rattle.rows.specs.Kept.{In}
use Rattle.sentence.specs.Sentences.{satellites, sentence_answer, sentence_reading, sentence_says, send_says}
use Rattle.record_bytes.specs.Packed.{packed}
use Rattle.pages.specs.Names.{name_says}
use Rattle.bulletin.specs.Stores.{sound_store}
use Rattle.bulletin.specs.Takings.{take_of, take_says, Taken}
use Rattle.bulletin.specs.Merges.{merge_says}
use Rattle.record_bytes.specs.Unpacked.{record_from}
use Rattle.bulletin.specs.Counts.{count_of}
use Rattle.bulletin.specs.Text.{text_answer}
use Rattle.store_bytes.specs.Stores.{name_from, store_or_zeros}
use Rattle.parity.specs.Parity.{parity_of}
use Rattle.inserter.specs.Answers.{CallResult, answer_word, call_result, count_answer, InBytes, IsRefusal, merge_into, open_into, open_value, parity_answer, read_into, read_line_into, read_line_value, read_sentence_into, read_sentence_value, read_value, take_into, take_value, taken_word, text_into, word_bytes, write_into, write_line_into, write_sentence_into, write_sentence_value, write_value}
use Rattle.inserter.specs.Meanings.{activity_answer, arrival_answer, depth_answer, height_answer, magnitude_answer, standing_answer, standing_word, prefecture_answer, slots_answer, validity_answer}
use Rattle.bits.specs.Frame.{field_of}
use Rattle.slots.specs.Slots.{no_slot}
use Rattle.report.specs.Conforms.{Conforms}
use Rattle.report.specs.Meaning.{used_of}
use Rattle.report.specs.Records.{record_of}
use Rattle.report.proofs.Claims.{used_places_lie_in_a_prefecture, used_places_of_a_volcano_report_lie_in_a_prefecture}
use Rattle.place_list.proofs.Claims.{place_0_is_outside, place_100000_is_unlisted, place_110001_is_unlisted}
use Rattle.report.specs.Runs.Writing.{write_of}
use Rattle.place_list.proofs.Entries.{Entry}
use Rattle.inserter.proofs.Meant as Meant
use Rattle.inserter.proofs.Unlisted.{read_all_the_same, unlisted_report}
use Rattle.inserter.proofs.Received.{no_record}
use Rattle.inserter.proofs.Said as Said
use Rattle.inserter.proofs.SentenceDoors as SentenceDoors
use Rattle.inserter.proofs.ValuesSaid as ValuesSaid
use Rattle.inserter.proofs.Kept as Kept
use Rattle.inserter.proofs.Refusing as Refusing
use Rattle.inserter.proofs.Counting as Counting

-- ---- "a refused call changes no lent buffer and no store": ten calls are lent a buffer to write to, and these are all of them

pub a_refused_reading_leaves_the_bytes : (frame buffer : List ℕ) → IsRefusal (read_into frame buffer).answer → (read_into frame buffer).buffer ≡ buffer
a_refused_reading_leaves_the_bytes frame buffer h = Kept.reading_leaves (read_of frame) buffer h

pub a_refused_line_leaves_the_bytes : (line buffer : List ℕ) → IsRefusal (read_line_into line buffer).answer → (read_line_into line buffer).buffer ≡ buffer
a_refused_line_leaves_the_bytes line buffer h = Kept.reading_leaves (line_reading line) buffer h

pub a_refused_writing_leaves_the_bytes : (bytes buffer : List ℕ) → IsRefusal (write_into bytes buffer).answer → (write_into bytes buffer).buffer ≡ buffer
a_refused_writing_leaves_the_bytes = Kept.writing_leaves

pub a_refused_frame_leaves_the_bytes : (frame buffer : List ℕ) → IsRefusal (write_line_into frame buffer).answer → (write_line_into frame buffer).buffer ≡ buffer
a_refused_frame_leaves_the_bytes = Kept.line_leaves

pub a_refused_sentence_leaves_the_bytes : (sentence buffer : List ℕ) → IsRefusal (read_sentence_into sentence buffer).answer → (read_sentence_into sentence buffer).buffer ≡ buffer
a_refused_sentence_leaves_the_bytes = SentenceDoors.reading_a_sentence_leaves

pub a_refused_sending_leaves_the_bytes : (satellite : ℕ) (frame buffer : List ℕ) → IsRefusal (write_sentence_into satellite frame buffer).answer → (write_sentence_into satellite frame buffer).buffer ≡ buffer
a_refused_sending_leaves_the_bytes = SentenceDoors.sending_leaves

pub a_refused_opening_leaves_the_bytes : (name buffer : List ℕ) → IsRefusal (open_into name buffer).answer → (open_into name buffer).buffer ≡ buffer
a_refused_opening_leaves_the_bytes = Kept.opening_leaves

pub a_refused_taking_leaves_the_bytes : (buffer bytes : List ℕ) → IsRefusal (take_into buffer bytes).answer → (take_into buffer bytes).buffer ≡ buffer
a_refused_taking_leaves_the_bytes = Kept.taking_leaves

pub a_refused_merge_leaves_the_bytes : (buffer other : List ℕ) → IsRefusal (merge_into buffer other).answer → (merge_into buffer other).buffer ≡ buffer
a_refused_merge_leaves_the_bytes = Kept.merging_leaves

pub a_refused_text_leaves_the_bytes : (store buffer : List ℕ) → IsRefusal (text_into store buffer).answer → (text_into store buffer).buffer ≡ buffer
a_refused_text_leaves_the_bytes = Kept.text_leaves

-- ---- no refusal looks like a success, and no success like a refusal

-- "with its first bit", "with the lowest such page and whether it is absent or disputed": number, place, page and mark stand in a byte each, where a
-- caller finds them ..
pub a_word_has_number_place_page_and_mark : (s : Said) → InBytes s
    → word_bytes (answer_word s) ≡ s.number ∷ s.place ∷ s.page ∷ s.mark ∷ []
a_word_has_number_place_page_and_mark = Refusing.four_bytes

-- .. so two refusals never give the same word and the same value ..
pub words_and_values_tell_refusals_apart : (x y : Refusal) → InBytes (says x) → InBytes (says y) → answer_word (says x) ≡ answer_word (says y)
    → (says x).value ≡ (says y).value → x ≡ y
words_and_values_tell_refusals_apart = Refusing.words_apart

-- .. every refusal has a number above 0 there ..
pub a_refusal_is_told_as_one : (x : Refusal) → IsRefusal (answer_word (says x))
a_refusal_is_told_as_one = Refusing.refusal_is_high

pub a_wrong_call_is_told_as_a_refusal : IsRefusal (answer_word (plain 255))
a_wrong_call_is_told_as_a_refusal = Refusing.wrong_call_is_high

-- .. and what succeeds has none: 0 where there is nothing to say ..
pub zero_is_told_of_success : (v : Verdict) → (v ≡ Ok tt → answer_word (answers v) ≡ 0) × (answer_word (answers v) ≡ 0 → v ≡ Ok tt)
zero_is_told_of_success v = (Refusing.low_word v, Refusing.fine_word v)

-- .. and each call that answers with a verdict says the number of its function there, with place, page and mark ..
pub reading_says_its_number : (frame buffer : List ℕ) → length buffer ≡ 251 → (read_into frame buffer).answer ≡ answer_word (read_says frame)
reading_says_its_number = Said.read_told

pub a_line_says_its_number : (line buffer : List ℕ) → length buffer ≡ 251 → (read_line_into line buffer).answer ≡ answer_word (line_says line)
a_line_says_its_number = Said.line_told

pub writing_says_its_number : (bytes buffer : List ℕ) → (write_into bytes buffer).answer ≡ answer_word (write_says (record_from bytes) (length buffer))
writing_says_its_number = Said.write_told

pub writing_a_line_says_its_number : (frame buffer : List ℕ) → (write_line_into frame buffer).answer ≡ answer_word (line_write_says frame (length buffer))
writing_a_line_says_its_number frame buffer = refl

pub writing_a_sentence_says_its_number : (satellite : ℕ) (frame buffer : List ℕ) → (write_sentence_into satellite frame buffer).answer ≡ answer_word (send_says satellite frame (length buffer))
writing_a_sentence_says_its_number satellite frame buffer = refl

-- (reading a sentence says the number where it refuses, the buffer untouched ..
pub a_refused_sentence_says_its_number : (sentence buffer : List ℕ) (x : Refusal) → length buffer ≡ 251 → sentence_answer sentence ≡ Err x
    → read_sentence_into sentence buffer ≡ call_result (answer_word (says x)) buffer
a_refused_sentence_says_its_number sentence buffer x long e = SentenceDoors.refused_told sentence buffer long x e

-- .. and where it does not, the satellite, 55 to 61, beside the record's bytes)
pub a_sentence_that_is_read_says_its_satellite : (sentence buffer : List ℕ) → length buffer ≡ 251 → sentence_answer sentence ≡ Ok tt
    → (read_sentence_into sentence buffer ≡ call_result (sentence_reading sentence).satellite (packed (sentence_reading sentence).reading.«record»))
    × ((55 ≤ (sentence_reading sentence).satellite) × ((sentence_reading sentence).satellite ≤ 61))
a_sentence_that_is_read_says_its_satellite sentence buffer long e = (SentenceDoors.read_told sentence buffer long e, SentenceDoors.satellite_told sentence e)

pub opening_says_its_number : (name buffer : List ℕ) → length name ≡ 8 → length buffer ≡ 1205 → (open_into name buffer).answer ≡ answer_word (name_says (name_from name))
opening_says_its_number = Said.open_told

pub merging_says_its_number : (buffer other : List ℕ) → (merge_into buffer other).answer ≡ answer_word (merge_says (store_or_zeros buffer) (store_or_zeros other))
merging_says_its_number = Said.merge_told

-- .. but 255 where a name, or a buffer for an answer, has another length ..
pub a_name_of_another_length_is_255 : (name buffer : List ℕ) → (length name ≡ 8 → ⊥) → (open_into name buffer).answer ≡ answer_word (plain 255)
a_name_of_another_length_is_255 = Said.no_name

pub a_record_of_another_length_is_255 : (frame buffer : List ℕ) → (length buffer ≡ 251 → ⊥) → (read_into frame buffer).answer ≡ answer_word (plain 255)
a_record_of_another_length_is_255 frame buffer n = Said.no_room (read_of frame) buffer n

pub a_record_of_another_length_for_a_sentence_is_255 : (sentence buffer : List ℕ) → (length buffer ≡ 251 → ⊥) → read_sentence_into sentence buffer ≡ call_result (answer_word (plain 255)) buffer
a_record_of_another_length_for_a_sentence_is_255 sentence buffer n = sym (no_record sentence buffer n)

-- .. 1, 2 or 3 of a taking, or why it is refused ..
pub a_taking_is_told : (buffer bytes : List ℕ)
    → ((take_of (store_or_zeros buffer) (record_from bytes)).answer ≡ Ok New → (take_into buffer bytes).answer ≡ 1)
    × ((take_of (store_or_zeros buffer) (record_from bytes)).answer ≡ Ok Same → (take_into buffer bytes).answer ≡ 2)
    × ((take_of (store_or_zeros buffer) (record_from bytes)).answer ≡ Ok Disputed → (take_into buffer bytes).answer ≡ 3)
    × ((x : Refusal) → (take_of (store_or_zeros buffer) (record_from bytes)).answer ≡ Err x → (take_into buffer bytes).answer ≡ answer_word (says x))
a_taking_is_told buffer bytes = (Said.take_told buffer bytes (Ok New), Said.take_told buffer bytes (Ok Same), Said.take_told buffer bytes (Ok Disputed), λ x. Said.take_told buffer bytes (Err x))

pub a_taking_is_no_refusal : (t : Taken) → ((x : Refusal) → t ≡ Err x → ⊥) → taken_word t ≤ 3
a_taking_is_no_refusal = Refusing.taken_is_low

-- .. held, disputed and lowest of a report, each at most 63 ..
pub a_report_is_no_refusal : (store : List ℕ) → (count_of (store_or_zeros store)).answer ≡ Ok tt
    → ((count_of (store_or_zeros store)).held ≤ 63) × ((count_of (store_or_zeros store)).disputed ≤ 63) × ((count_of (store_or_zeros store)).lowest ≤ 63) × (count_answer store < 2 ^ 24)
a_report_is_no_refusal = Counting.report_is_low

-- .. which stand where a refusal has place, page and mark ..
pub a_report_has_held_disputed_and_lowest : (store : List ℕ) → (count_of (store_or_zeros store)).answer ≡ Ok tt
    → word_bytes (count_answer store) ≡ 0 ∷ (count_of (store_or_zeros store)).held ∷ (count_of (store_or_zeros store)).disputed ∷ (count_of (store_or_zeros store)).lowest ∷ []
a_report_has_held_disputed_and_lowest = Counting.report_in_bytes

pub a_refused_report_says_why : (store : List ℕ) (x : Refusal) → (count_of (store_or_zeros store)).answer ≡ Err x → count_answer store ≡ answer_word (says x)
a_refused_report_says_why = Said.count_refused

-- .. and the length of a text, which is "at most 1,134 bytes"
pub a_length_is_no_refusal : (store : List ℕ) (size : ℕ) → (text_answer (store_or_zeros store) size).length ≤ 1134
a_length_is_no_refusal store size = Counting.text_is_low store size

pub a_text_is_told_by_its_length : (store buffer : List ℕ) → (text_answer (store_or_zeros store) (length buffer)).answer ≡ Ok tt
    → (text_into store buffer).answer ≡ (text_answer (store_or_zeros store) (length buffer)).length
a_text_is_told_by_its_length = Said.text_told

pub a_refused_text_says_why : (store buffer : List ℕ) (x : Refusal) → (text_answer (store_or_zeros store) (length buffer)).answer ≡ Err x
    → (text_into store buffer).answer ≡ answer_word (says x)
a_refused_text_says_why = Said.text_refused

-- a parity is told as it is, and has 24 bits; a slice that is no frame is 1
pub a_frame_is_told_its_parity : (frame : List ℕ) → length frame ≡ 32 → parity_answer frame ≡ parity_of frame
a_frame_is_told_its_parity = Said.parity_told

pub no_frame_has_a_parity : (frame : List ℕ) → (length frame ≡ 32 → ⊥) → parity_answer frame ≡ answer_word (plain 1)
no_frame_has_a_parity = Said.no_parity

pub a_parity_is_no_refusal : (frame : List ℕ) → parity_of frame < 2 ^ 24
a_parity_is_no_refusal = Counting.parity_is_low

-- ---- the value of an 8

-- "reading, writing and opening pass it on": beside a call that refuses with 8 the question for the value answers it, ..
pub a_refused_frame_tells_its_value : (frame buffer : List ℕ) (p x : ℕ) → length buffer ≡ 251 → read_answer frame ≡ Err (Range p x)
    → ((read_into frame buffer).answer ≡ answer_word (at 8 p x)) × (read_value frame ≡ x)
a_refused_frame_tells_its_value frame buffer p x long e =
    (Said.read_told frame buffer long ∙ ap (λ (v : Verdict). answer_word (answers v)) e, ap (λ (v : Verdict). (answers v).value) e)

pub a_refused_line_tells_its_value : (line buffer : List ℕ) (p x : ℕ) → length buffer ≡ 251 → line_says line ≡ at 8 p x
    → ((read_line_into line buffer).answer ≡ answer_word (at 8 p x)) × (read_line_value line ≡ x)
a_refused_line_tells_its_value line buffer p x long e = (Said.line_told line buffer long ∙ ap answer_word e, ap (λ (s : Said). s.value) e)

pub a_refused_sentence_tells_its_value : (sentence buffer : List ℕ) (p x : ℕ) → length buffer ≡ 251 → sentence_answer sentence ≡ Err (Range p x)
    → ((read_sentence_into sentence buffer).answer ≡ answer_word (at 8 p x)) × (read_sentence_value sentence ≡ x)
a_refused_sentence_tells_its_value sentence buffer p x long e =
    (ap (λ (l : CallResult). l.answer) (SentenceDoors.refused_told sentence buffer long (Range p x) e), ap (λ (v : Verdict). (answers v).value) e)

-- (whatever the buffer, since 16 comes last)
pub a_refused_sending_tells_its_value : (satellite : ℕ) (frame buffer : List ℕ) (p x : ℕ) → In satellites satellite → read_answer frame ≡ Err (Range p x)
    → ((write_sentence_into satellite frame buffer).answer ≡ answer_word (at 8 p x)) × (write_sentence_value satellite frame ≡ x)
a_refused_sending_tells_its_value satellite frame buffer p x listed e =
    (ap (λ (v : Verdict). answer_word (answers v)) (ValuesSaid.frame_refused satellite frame (length buffer) (Range p x) listed e), ap (λ (v : Verdict). (answers v).value) (ValuesSaid.frame_refused satellite frame 78 (Range p x) listed e))

pub a_refused_record_tells_its_value : (bytes buffer : List ℕ) (p x : ℕ) → write_answer (record_from bytes) (length buffer) ≡ Err (Range p x)
    → ((write_into bytes buffer).answer ≡ answer_word (at 8 p x)) × (write_value bytes (length buffer) ≡ x)
a_refused_record_tells_its_value bytes buffer p x e =
    (Said.write_told bytes buffer ∙ ap (λ (v : Verdict). answer_word (answers v)) e, ap (λ (v : Verdict). (answers v).value) e)

pub a_refused_name_tells_its_value : (name buffer : List ℕ) (p x : ℕ) → length name ≡ 8 → length buffer ≡ 1205 → name_says (name_from name) ≡ at 8 p x
    → ((open_into name buffer).answer ≡ answer_word (at 8 p x)) × (open_value name ≡ x)
a_refused_name_tells_its_value name buffer p x long room e =
    (Said.open_told name buffer long room ∙ ap answer_word e, ValuesSaid.named_value name long ∙ ap (λ (s : Said). s.value) e)

pub a_name_of_another_length_has_no_value : (name : List ℕ) → (length name ≡ 8 → ⊥) → open_value name ≡ 0
a_name_of_another_length_has_no_value = ValuesSaid.no_name_value

-- .. which for a taking is that of writing the record: "Taking a record: 14, then what writing that record to 32 bytes would refuse" ..
pub a_taking_tells_the_value_of_the_record : (store bytes : List ℕ) → sound_store (store_or_zeros store) ≡ true → take_value store bytes ≡ write_value bytes 32
a_taking_tells_the_value_of_the_record store bytes h = sym (ValuesSaid.take_value_lem (store_or_zeros store) (record_from bytes) h)

-- .. and asked behind a refused taking it is the same as before.
pub a_refused_taking_keeps_its_value : (buffer bytes : List ℕ) → IsRefusal (take_into buffer bytes).answer
    → take_value (take_into buffer bytes).buffer bytes ≡ take_value buffer bytes
a_refused_taking_keeps_its_value buffer bytes h = ap (λ (b : List ℕ). take_value b bytes) (Kept.taking_leaves buffer bytes h)

-- "All other numbers carry zero": where 8 is not what is said, the question answers 0.
pub no_value_beside_another_number : ((frame : List ℕ) → ((read_says frame).number ≡ 8 → ⊥) → read_value frame ≡ 0)
    × ((line : List ℕ) → ((line_says line).number ≡ 8 → ⊥) → read_line_value line ≡ 0)
    × ((sentence : List ℕ) → ((sentence_says sentence).number ≡ 8 → ⊥) → read_sentence_value sentence ≡ 0)
    × ((satellite : ℕ) (frame : List ℕ) → ((send_says satellite frame 78).number ≡ 8 → ⊥) → write_sentence_value satellite frame ≡ 0)
    × ((bytes : List ℕ) (size : ℕ) → ((write_says (record_from bytes) size).number ≡ 8 → ⊥) → write_value bytes size ≡ 0)
    × ((name : List ℕ) → ((name_says (name_from name)).number ≡ 8 → ⊥) → open_value name ≡ 0)
    × ((store bytes : List ℕ) → ((take_says (store_or_zeros store) (record_from bytes)).number ≡ 8 → ⊥) → take_value store bytes ≡ 0)
no_value_beside_another_number = (
  λ frame. answered_value (read_answer frame),
  ValuesSaid.line_without_8,
  ValuesSaid.sentence_without_8,
  ValuesSaid.sending_without_8,
  λ bytes size. answered_value (write_answer (record_from bytes) size),
  ValuesSaid.opening_without_8,
  λ store bytes. ValuesSaid.taking_without_8 (store_or_zeros store) (record_from bytes),
)

-- ---- what a number says

-- "Depth 0 is a depth; 511 is unknown and 501 means deeper than 500 km": 1 and the kilometres, 2, 3, and 0 for what is no depth
pub a_depth_is_told_in_kilometres : (code : ℕ) → code ≤ 500 → depth_answer code ≡ 2 ^ 16 + code
a_depth_is_told_in_kilometres = Meant.in_kilometres

pub depth_501_is_told_as_deeper : depth_answer 501 ≡ 2 * 2 ^ 16
depth_501_is_told_as_deeper = Meant.deeper

pub depth_511_is_told_as_unknown : depth_answer 511 ≡ 3 * 2 ^ 16
depth_511_is_told_as_unknown = Meant.depth-unknown

pub no_other_depth_is_told : (code : ℕ) → 501 < code → (code ≡ 511 → ⊥) → depth_answer code ≡ 0
no_other_depth_is_told = Meant.no_depth

-- "Magnitude 127 is unknown, 126 is above 8.0 where no moment magnitude is known"
pub a_magnitude_is_told_in_tenths : (code : ℕ) → 1 ≤ code → code ≤ 101 → magnitude_answer code ≡ 2 ^ 16 + code
a_magnitude_is_told_in_tenths = Meant.in_tenths

pub magnitude_126_is_told_as_above_8 : magnitude_answer 126 ≡ 2 * 2 ^ 16
magnitude_126_is_told_as_above_8 = Meant.above_eight

pub magnitude_127_is_told_as_unknown : magnitude_answer 127 ≡ 3 * 2 ^ 16
magnitude_127_is_told_as_unknown = Meant.magnitude-unknown

pub no_other_magnitude_is_told : (code : ℕ) → ((1 ≤ code) × (code ≤ 101) → ⊥) → (code ≡ 126 → ⊥) → (code ≡ 127 → ⊥) → magnitude_answer code ≡ 0
no_other_magnitude_is_told = Meant.no_magnitude

-- "A place divided by 100000, remainder dropped, is its prefecture", and nothing else has one
pub a_prefecture_is_told_by_its_number : (place : ℕ) → 100000 ≤ place → place ≤ 4799999 → prefecture_answer place ≡ place / 100000
a_prefecture_is_told_by_its_number = Meant.in_prefecture_lem

pub no_other_prefecture_is_told : (place : ℕ) → ((100000 ≤ place) × (place ≤ 4799999) → ⊥) → prefecture_answer place ≡ 0
no_other_prefecture_is_told = Meant.nowhere

-- "Answer listed, unlisted but within a prefecture, or outside": 1, 2 and 0, each exactly there ..
pub a_place_is_told_as_1_exactly_where_it_is_listed : (place : ℕ) → standing_answer place ≡ 1 ↔ Entry place
a_place_is_told_as_1_exactly_where_it_is_listed = Meant.told_listed

pub a_place_is_told_as_2_exactly_where_it_is_unlisted_within_a_prefecture : (place : ℕ) → standing_answer place ≡ 2 ↔ ((Entry place → ⊥) × ((1 ≤ place / 100000) × (place / 100000 ≤ 47)))
a_place_is_told_as_2_exactly_where_it_is_unlisted_within_a_prefecture = Meant.told_unlisted

pub a_place_is_told_as_0_exactly_where_no_prefecture_is : (place : ℕ) → standing_answer place ≡ 0 ↔ prefecture_answer place ≡ 0
a_place_is_told_as_0_exactly_where_no_prefecture_is = Meant.outside_nowhere

-- .. so 100000, which the table does not have, lies in prefecture 1
pub place_100000_is_told_as_unlisted_in_prefecture_1 : (standing_answer 100000 ≡ 2) × (prefecture_answer 100000 ≡ 1)
place_100000_is_told_as_unlisted_in_prefecture_1 = (ap standing_word place_100000_is_unlisted, Meant.in_prefecture_lem 100000 (lit≤ tt) (lit≤ tt))

-- "The standard allows unlisted codes, so reading refuses no more than it did": a report with such a place is written, and read ..
pub a_report_with_an_unlisted_place_is_read : (standing_answer (get_or unlisted_report.slots 0 no_slot).place ≡ 2)
    × ((buffer : List ℕ) → length buffer ≡ 32 → read_of (write_of unlisted_report buffer) ≡ record { answer = Ok tt; «record» = unlisted_report })
a_report_with_an_unlisted_place_is_read = (ap standing_word place_110001_is_unlisted, read_all_the_same)

-- .. whatever place a volcano or an ash fall report that is read names is 1 or 2 ..
pub a_used_place_is_never_told_as_0 : (s : List ℕ) → Conforms s → (field_of s 17 4 ≡ 8) ⊎ (field_of s 17 4 ≡ 9) → (i : ℕ) → i < used_of (record_of s) → standing_answer (get_or (record_of s).slots i no_slot).place ≡ 0 → ⊥
a_used_place_is_never_told_as_0 s c category i u =
    ⊎_elim
    (λ e. Meant.used_not_outside _ (used_places_of_a_volcano_report_lie_in_a_prefecture s c e i u))
    (λ e. Meant.used_not_outside _ (used_places_lie_in_a_prefecture s c e i u))
    category

-- .. and what an empty slot has is 0, never the first row of the table
pub an_empty_slot_is_told_as_0 : standing_answer no_slot.place ≡ 0
an_empty_slot_is_told_as_0 = ap standing_word place_0_is_outside

-- "values with names, not hours": 1 with hour and minute of the arrival, 4 where the wave has arrived, and 0 for "a mixture" and
-- whatever else says nothing
pub an_arrival_is_told_by_hour_and_minute : (hour minute : ℕ) → hour ≤ 23 → minute ≤ 59 → arrival_answer hour minute ≡ 2 ^ 16 + (hour * 2 ^ 8 + minute)
an_arrival_is_told_by_hour_and_minute = Meant.at_a_time

pub hour_31_with_minute_63_is_told_as_arrived : arrival_answer 31 63 ≡ 4 * 2 ^ 16
hour_31_with_minute_63_is_told_as_arrived = Meant.has_arrived

pub no_other_arrival_is_told : (hour minute : ℕ) → ((hour ≡ 31) × (minute ≡ 63) → ⊥) → ((hour ≤ 23) × (minute ≤ 59) → ⊥) → arrival_answer hour minute ≡ 0
no_other_arrival_is_told = Meant.no_arrival

-- a height is told by its code of table 4.1.2-23, 14 as unknown, and 0 is said of what is no height
pub a_height_is_told_by_its_code : (code : ℕ) → 1 ≤ code → code ≤ 15 → (code ≡ 14 → ⊥) → height_answer code ≡ 2 ^ 16 + code
a_height_is_told_by_its_code = Meant.by_code

pub height_14_is_told_as_unknown : height_answer 14 ≡ 3 * 2 ^ 16
height_14_is_told_as_unknown = Meant.height-unknown

pub no_other_height_is_told : (code : ℕ) → ((1 ≤ code) × (code ≤ 15) → ⊥) → height_answer code ≡ 0
no_other_height_is_told = Meant.no_height

-- "An activity time may be unknown": 1 with day, hour and minute in the bits that a frame has for them, 3 where it is unknown, and 0 for a
-- mixture and whatever else says nothing
pub an_activity_is_told_by_day_hour_and_minute : (day hour minute : ℕ) → 1 ≤ day → day ≤ 31 → hour ≤ 23 → minute ≤ 59
    → activity_answer day hour minute ≡ 2 ^ 16 + (day * 2 ^ 11 + hour * 2 ^ 6 + minute)
an_activity_is_told_by_day_hour_and_minute = Meant.active-at

pub day_0_with_hour_31_and_minute_63_is_told_as_unknown : activity_answer 0 31 63 ≡ 3 * 2 ^ 16
day_0_with_hour_31_and_minute_63_is_told_as_unknown = Meant.time-unknown

pub no_other_activity_time_is_told : (day hour minute : ℕ) → ((day ≡ 0) × ((hour ≡ 31) × (minute ≡ 63)) → ⊥) → (((1 ≤ day) × (day ≤ 31)) × ((hour ≤ 23) × (minute ≤ 59)) → ⊥)
    → activity_answer day hour minute ≡ 0
no_other_activity_time_is_told = Meant.no_time

-- how much of it is valid by the ambiguity: 3 for day, hour and minute, 2 for day and hour, 1 for the day, 0 for nothing, each behind a 1 that
-- says that the code is one
pub up_to_ambiguity_3_all_is_told_as_valid : (code : ℕ) → code ≤ 3 → validity_answer code ≡ 2 ^ 16 + 3
up_to_ambiguity_3_all_is_told_as_valid = Meant.all_valid

pub with_ambiguity_4_day_and_hour_are_told_as_valid : validity_answer 4 ≡ 2 ^ 16 + 2
with_ambiguity_4_day_and_hour_are_told_as_valid = Meant.two_valid

pub with_ambiguity_5_the_day_is_told_as_valid : validity_answer 5 ≡ 2 ^ 16 + 1
with_ambiguity_5_the_day_is_told_as_valid = Meant.day_valid

pub with_ambiguity_6_and_7_nothing_is_told_as_valid : (validity_answer 6 ≡ 2 ^ 16) × (validity_answer 7 ≡ 2 ^ 16)
with_ambiguity_6_and_7_nothing_is_told_as_valid = Meant.none_valid

pub no_other_ambiguity_is_told : (code : ℕ) → 7 < code → validity_answer code ≡ 0
no_other_ambiguity_is_told = Meant.no_ambiguity

pub sixteen_slots_are_told_at_most : (bytes : List ℕ) → slots_answer bytes ≤ 16
sixteen_slots_are_told_at_most = Meant.sixteen_at-most
