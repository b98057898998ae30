-- What this crate claims of its definitions. Each is proved in the file that its last line names.
use Rattle.std.specs.Prelude.{Err}
use mathlib.Core.Path.{◌≡◌}
use mathlib.Core.Bool.{true}
use Prim.Native.Nat.{ℕ, ◌*◌, ◌≤◌}
use mathlib.Core.List.{List}
use lib.ListN.{length, get_or}
use Rattle.rows.specs.declared.refusal.Refusal.TheVariants.{Unused}
use Rattle.report.specs.declared.record.Record.{Record}
use Rattle.rows.specs.Runs.Verdict.{allowed}
use Rattle.report.specs.Runs.Writing.{known, write_answer, Valid}
use Rattle.report.proofs.Shaped.{Shaped}
use Rattle.bits.specs.Frame.{Bytes}
use Rattle.record_bytes.specs.Packed.{packed}
use Rattle.record_bytes.specs.Unpacked.{body_in_bytes, stray, unpacked}
use Rattle.report.specs.Categories.{preambles}
use Rattle.rows.specs.Runs.Fields.{bytes_for}
use Rattle.record_bytes.proofs.Cells as Cells
use Rattle.record_bytes.proofs.ToBytes.Whole as Whole
use Rattle.record_bytes.proofs.RoundTrip as RoundTrip
use Rattle.record_bytes.proofs.FromBytes.Refused as Refusing
use Rattle.record_bytes.proofs.ValidFits as ValidFits
use Rattle.record_bytes.proofs.Accepted as Accepted

-- A record with "sixteen slots (hour, strength or intensity, place) and 18 text bytes" has 251 bytes, whatever its category.
pub packed_has_251_bytes : (r : Record) → length r.slots ≡ 16 → length r.text ≡ 18 → length (packed r) ≡ 251
packed_has_251_bytes = Whole.length-packed

-- Nothing is lost: records whose numbers fit their bytes are told apart by the bytes.
pub bytes_tell_records_apart : (r s : Record) → RoundTrip.Fits r → RoundTrip.Fits s → packed r ≡ packed s → r ≡ s
bytes_tell_records_apart = RoundTrip.told_apart

-- The way there and back: such a record is given back by its bytes.
pub packed_then_unpacked : (r : Record) → RoundTrip.Fits r → unpacked (packed r) ≡ r
packed_then_unpacked = RoundTrip.back

-- Every record that can be written, so every one that was read, is such a record ..
pub valid_records_fit_their_bytes : (r : Record) → Shaped r → Valid r → RoundTrip.Fits r
valid_records_fit_their_bytes = ValidFits.valid_fits

-- .. and bytes whose record can be written are that record's bytes.
pub accepted_bytes_are_given_back : (l : List ℕ) → length l ≡ 251 → Bytes l → Valid (unpacked l) → packed (unpacked l) ≡ l
accepted_bytes_are_given_back = Accepted.accepted_bytes

-- Something behind the category's last field in bytes 9 to 40 is 11, and in its turn: "1, 3, 7, 11, then 8 and 10 by lowest bit".
pub stray_bytes_are_refused : (l : List ℕ) → stray (body_in_bytes l) l ≡ true → allowed preambles (get_or l 1 0) ≡ true → known (body_in_bytes l) ≡ true
    → write_answer (unpacked l) 32 ≡ Err Unused
stray_bytes_are_refused = Refusing.stray_refused

-- What a field's bits can hold, its bytes can hold, whatever category has it.
pub each_field_has_room_in_its_bytes : (w : ℕ) → w ≤ 64 → w ≤ 8 * bytes_for w
each_field_has_room_in_its_bytes = Cells.has_room
