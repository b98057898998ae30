-- Frames and records are one to one.
use Rattle.std.specs.Prelude.{Ok}
use mathlib.Core.Path.{◌≡◌, sym, ap, ◌∙◌}
use Prim.Native.Nat.{ℕ}
use mathlib.Core.List.{List}
use Rattle.bits.specs.Frame.{Bytes, bytes_of}
use Rattle.bits.proofs.Frames.{bytes_of_frame}
use Rattle.report.specs.declared.record.Record.{Record}
use Rattle.report.specs.Records.{body_of, record_of}
use Rattle.report.specs.Runs.Reading.{read_of, Reading}
use Rattle.report.specs.Conforms.{Conforms}
use Rattle.report.specs.Runs.Writing.{frame, Valid}
use Rattle.report.proofs.RoundTrips.ReadThenWritten.{reads, record_read, frame_valid, frame_again}
use Rattle.report.proofs.RoundTrips.WrittenThenRead.{returns}
use Rattle.report.proofs.Shaped.{Shaped, frame-shaped}

-- a frame that is read is the frame that its record writes
pub frame_of_record : (s : List ℕ) (r : Record) → Bytes s → read_of s ≡ record { answer = Ok tt; «record» = r } → s ≡ bytes_of (frame r)
frame_of_record s r b e =
    let a : (read_of s).answer ≡ (Ok tt) = ap (λ (x : Reading). x.answer) e in
    let q : record_of s ≡ r = sym (record_read s a) ∙ ap (λ (x : Reading). x.«record») e in
    sym (frame_again s b (reads s a)) ∙ ap (λ (r : Record). bytes_of (frame r)) q

pub same_frame : (s t : List ℕ) → Bytes s → Bytes t → Conforms s → Conforms t → record_of s ≡ record_of t → s ≡ t
same_frame s t b c d f e = sym (frame_again s b d) ∙ ap (λ (r : Record). bytes_of (frame r)) e ∙ frame_again t c f

pub same_record : (r q : Record) → Shaped r → Shaped q → Valid r → Valid q → bytes_of (frame r) ≡ bytes_of (frame q) → r ≡ q
same_record r q h k v w e = sym (returns r h v).again ∙ ap record_of e ∙ (returns q k w).again

-- ---- the frames are those that are written

pub record WrittenBy (s : List ℕ) (r : Record) : Type 0 where
  pub shaped : Shaped r
  pub valid : Valid r
  pub written : s ≡ bytes_of (frame r)

pub conforming_written : (s : List ℕ) → Bytes s → Conforms s → (r : Record) × WrittenBy s r
conforming_written s b c = (record_of s, record { shaped = frame-shaped s (body_of s); valid = frame_valid s c; written = sym (frame_again s b c) })

pub written-bytes : (r : Record) → Bytes (bytes_of (frame r))
written-bytes r = (bytes_of_frame (frame r)).bytes
