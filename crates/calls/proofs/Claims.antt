-- What calls through the doors come to, one behind the other, over the bytes that a program in C sees.
use mathlib.Core.Path.{◌≡◌}
use mathlib.Core.List.{List, [], ◌∷◌, ◌++◌, map}
use mathlib.Core.Logic.{◌⊎◌}
use Prim.Native.Nat.{ℕ, ◌*◌, ◌^◌, ◌≤◌, ◌<◌}
use lib.ListN.{length, drop}
use Rattle.bits.specs.Frame.{Bytes}
use Rattle.pages.specs.declared.name.Name.{Name}
use Rattle.histories.specs.Soundness.{InRange}
use Rattle.histories.specs.Reports.{Reports, Tells}
use Rattle.bulletin.specs.declared.store.Store.{Store}
use Rattle.bulletin.specs.Takings.{take_says}
use Rattle.bulletin.specs.Merges.{merge_says}
use Rattle.bulletin.specs.Counts.{count_says, Counted}
use Rattle.bulletin.specs.Text.{text_says}
use Rattle.report.specs.declared.record.Record.{Record}
use Rattle.report.specs.Runs.Reading.{read_says}
use Rattle.report.specs.Runs.Writing.{write_says}
use Rattle.line.specs.Lines.{line_says, line_write_says}
use Rattle.pages.specs.Names.{name_says}
use Rattle.report.specs.Conforms.{Conforms}
use Rattle.report.specs.Records.{record_of}
use Rattle.record_bytes.specs.Packed.{packed}
use Rattle.damage.specs.Damage.{Damaged}
use Rattle.histories.specs.Frames.{Frame, store_after}
use Rattle.record_bytes.specs.Unpacked.{record_from}
use Rattle.store_bytes.specs.Stores.{name_from, store_bytes}
use Rattle.report.specs.Meaning.{used_of}
use Rattle.inserter.specs.Meanings.{slots_answer}
use Rattle.inserter.specs.Answers.{call_result, count_answer, merge_into, open_into, read_into, read_line_into, read_sentence_into, text_into, word_bytes, write_into, write_line_into, write_sentence_into}
use Rattle.calls.specs.Calls.{takes_into}
use Rattle.calls.proofs.RoundTrip as RoundTrip
use Rattle.calls.proofs.Damage as Damage
use Rattle.calls.proofs.Takings as Takings
use Rattle.calls.proofs.Numbers as Numbers

-- "a conforming frame is read": `lz_read` answers 0 and hands over its record ..
pub a_conforming_frame_is_read : (frame bytes : List ℕ) → Conforms frame → length bytes ≡ 251 → read_into frame bytes ≡ call_result 0 (packed (record_of frame))
a_conforming_frame_is_read = RoundTrip.conforming_read

-- .. of which `lz_slots_used` says how many slots are used ..
pub a_read_record_tells_its_used_slots : (frame bytes : List ℕ) → Conforms frame → length bytes ≡ 251 → slots_answer (read_into frame bytes).buffer ≡ used_of (record_of frame)
a_read_record_tells_its_used_slots = RoundTrip.slots_told

-- .. "the record written again is the same 250 bits": what `lz_read` answers 0 to, `lz_write` gives back, all 32 bytes ..
pub read_then_written_is_the_frame : (frame bytes buffer : List ℕ) → Bytes frame → length buffer ≡ 32 → (read_into frame bytes).answer ≡ 0
    → write_into (read_into frame bytes).buffer buffer ≡ call_result 0 frame
read_then_written_is_the_frame = RoundTrip.read_then_written

-- .. "a valid record written and read is the same record": and the other way round, all 251
pub written_then_read_is_the_record : (bytes buffer again : List ℕ) → Bytes bytes → length again ≡ 251 → (write_into bytes buffer).answer ≡ 0
    → read_into (write_into bytes buffer).buffer again ≡ call_result 0 bytes
written_then_read_is_the_record = RoundTrip.written_then_read

-- "As text it is 63 hexadecimal digits": what `lz_write_line` wrote, `lz_read_line` reads as `lz_read` does the frame
pub a_printed_line_is_read_as_its_frame : (frame line bytes : List ℕ) → Bytes frame → length line ≡ 63 → (write_line_into frame line).answer ≡ 0
    → read_line_into (write_line_into frame line).buffer bytes ≡ read_into frame bytes
a_printed_line_is_read_as_its_frame = RoundTrip.printed_then_read

-- "A sentence we wrote is read back to the same satellite and frame": what `lz_write_sentence` wrote, `lz_read_sentence` answers with the satellite, and hands
-- over what `lz_read` does of the frame
pub a_sent_sentence_is_read_as_its_frame : (satellite : ℕ) (frame sentence bytes : List ℕ) → Bytes frame → length sentence ≡ 78 → length bytes ≡ 251 → (write_sentence_into satellite frame sentence).answer ≡ 0
    → read_sentence_into (write_sentence_into satellite frame sentence).buffer bytes ≡ call_result satellite (read_into frame bytes).buffer
a_sent_sentence_is_read_as_its_frame = RoundTrip.sent_then_read

-- "change at least one bit, all changed bits lying within 24 consecutive bits of the 250": what `lz_read` answers 0 to it answers 3 or 4 to with
-- such a change, and leaves the lent bytes
pub a_damaged_frame_is_refused : (frame damaged bytes : List ℕ) (k : ℕ) → length bytes ≡ 251 → (read_into frame bytes).answer ≡ 0 → Damaged k frame damaged
    → (read_into damaged bytes ≡ call_result (3 * 2 ^ 24) bytes) ⊎ (read_into damaged bytes ≡ call_result (4 * 2 ^ 24) bytes)
a_damaged_frame_is_refused = Damage.damaged_read

-- "every name in range is opened": `lz_open` answers 0 and leaves the store that took no frame yet
pub a_name_in_range_is_opened : (name buffer : List ℕ) → length name ≡ 8 → length buffer ≡ 1205 → InRange (name_from name)
    → open_into name buffer ≡ call_result 0 (store_bytes (store_after (name_from name) []))
a_name_in_range_is_opened = Takings.in_range_opened

-- Condition 3 holds of the bytes in a C program: a store that `lz_open` opened, and to which any records' bytes were then passed by `lz_take`, is the
-- store after those frames, of which `histories` speaks
pub an_opened_store_has_the_bytes_of_its_frames : (name buffer : List ℕ) (passed : List (List ℕ)) → (open_into name buffer).answer ≡ 0
    → (frames : List Frame) × (map (λ (f : Frame). f.came) frames ≡ map record_from passed) × (InRange (name_from name))
    × (takes_into (open_into name buffer).buffer passed ≡ store_bytes (store_after (name_from name) frames))
an_opened_store_has_the_bytes_of_its_frames = Takings.opened_and_taken

-- .. and `lz_merge` of two such stores of one bulletin leaves the bytes of the store after the frames of both: "a merged store counts as having taken
-- the frames of both"
pub merged_stores_have_the_bytes_of_both : (n : Name) (a b : List Frame) → InRange n
    → merge_into (store_bytes (store_after n a)) (store_bytes (store_after n b)) ≡ call_result 0 (store_bytes (store_after n (a ++ b)))
merged_stores_have_the_bytes_of_both n a b r = Takings.merged-bytes n r a b

-- Of such a store `lz_count` answers what the frames tell ..
pub such_a_store_reports_its_frames : (n : Name) (frames : List Frame) → InRange n
    → (c : Counted) × Reports n frames c × (word_bytes (count_answer (store_bytes (store_after n frames))) ≡ 0 ∷ c.held ∷ c.disputed ∷ c.lowest ∷ [])
such_a_store_reports_its_frames n frames r = Takings.reported-bytes n r frames

-- .. and `lz_text` the text that it tells, with "the bytes after its length untouched"
pub such_a_store_tells_its_text : (n : Name) (frames : List Frame) (text buffer : List ℕ) → InRange n → Tells (store_after n frames) text → length text ≤ length buffer
    → text_into (store_bytes (store_after n frames)) buffer ≡ call_result (length text) (text ++ drop (length text) buffer)
such_a_store_tells_its_text n frames text buffer r t h = Takings.told_bytes n r frames text buffer t h

-- ---- numbers: 18 to 20 speak of a receiver's sentence, and the nine answers that were there before it still have 0 to 17

-- Reading any bytes as a frame is answered with 0 to 17 ..
pub a_reading_is_answered_0_to_17 : (frame : List ℕ) → (read_says frame).number ≤ 17
a_reading_is_answered_0_to_17 = Numbers.read_numbered

-- .. writing any record, of the right shape or not, to a buffer of any size ..
pub a_writing_is_answered_0_to_17 : (r : Record) (size : ℕ) → (write_says r size).number ≤ 17
a_writing_is_answered_0_to_17 = Numbers.write_numbered

-- .. reading any bytes as a line ..
pub a_line_read_is_answered_0_to_17 : (line : List ℕ) → (line_says line).number ≤ 17
a_line_read_is_answered_0_to_17 = Numbers.line_numbered

-- .. writing any bytes as a line, with any room ..
pub a_line_written_is_answered_0_to_17 : (frame : List ℕ) (room : ℕ) → (line_write_says frame room).number ≤ 17
a_line_written_is_answered_0_to_17 = Numbers.line_write_numbered

-- .. opening a store of any name ..
pub an_opening_is_answered_0_to_17 : (name : Name) → (name_says name).number ≤ 17
an_opening_is_answered_0_to_17 = Numbers.name_numbered

-- .. taking any record into any store, sound or not ..
pub a_taking_is_answered_0_to_17 : (s : Store) (r : Record) → (take_says s r).number ≤ 17
a_taking_is_answered_0_to_17 = Numbers.take_numbered

-- .. merging any two stores ..
pub a_merge_is_answered_0_to_17 : (a b : Store) → (merge_says a b).number ≤ 17
a_merge_is_answered_0_to_17 = Numbers.merge_numbered

-- .. the report of any store ..
pub a_count_is_answered_0_to_17 : (s : Store) → (count_says s).number ≤ 17
a_count_is_answered_0_to_17 = Numbers.count_numbered

-- .. and the text of any store, in a buffer of any size.
pub a_text_is_answered_0_to_17 : (s : Store) (size : ℕ) → (text_says s size).number ≤ 17
a_text_is_answered_0_to_17 = Numbers.text_numbered

-- So a number above 17, as 18 to 20 are, is answered by none of these nine, whatever it is asked of.
pub a_number_above_17_is_answered_by_none_of_these : (n : ℕ) → 17 < n → Numbers.AnsweredByNone n
a_number_above_17_is_answered_by_none_of_these = Numbers.above_17
