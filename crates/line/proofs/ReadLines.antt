-- What lines are read as.
use Rattle.std.specs.Prelude.{Ok, Err}
use mathlib.Core.Path.{◌≡◌, refl, sym, ap, ◌∙◌}
use mathlib.Core.Bool.{Bool, true, false}
use mathlib.Core.List.{List}
use Prim.Native.Nat.{ℕ, ◌%◌}
use native.Mathlib.Omega.{arith}
use lib.ListN.{length, replicate}
use Rattle.bits.specs.Frame.{Bytes, bytes_of, field_of}
use Rattle.rows.specs.declared.refusal.Refusal.{Refusal}
use Rattle.rows.specs.declared.refusal.Refusal.TheVariants.{Line}
use Rattle.report.specs.declared.record.Record.{Record}
use Rattle.rows.specs.Refusals.{answers, Verdict}
use Rattle.report.specs.Records.{record_of, zeros}
use Rattle.report.specs.Runs.Reading.{read_answer, reading, read_of, Reading}
use Rattle.report.specs.Runs.Writing.{frame, Valid}
use Rattle.report.proofs.Claims.{answers_are_0_to_10, a_refused_reading_gives_zeros, valid_is_written, read_again_is_the_record, written_frames_conform, written_frames_are_bytes}
use Rattle.line.specs.Lines.{is_line, frame_of_line, line_reading, line_of, capitals}
use Rattle.line.proofs.ThereAndBack.{is_line_lem, frame_back, same_frame, same_line}
use Rattle.line.proofs.DigitBits.{half_field}
use Rattle.report.proofs.Shaped.{Shaped}
use Rattle.report.proofs.Reading.ReadSteps.{answer_found}

pub line_reads : (l : List ℕ) → is_line l ≡ true → line_reading l ≡ read_of (frame_of_line l)
unfolding line_reading
line_reads l h = rw h

pub no_line_reads : (l : List ℕ) → is_line l ≡ false → line_reading l ≡ reading (Err Line) zeros
unfolding line_reading
no_line_reads l h = rw h

-- ---- 17 is the answer of no frame

never_17 : (s : List ℕ) → (read_of s).answer ≡ Err Line → ⊥
never_17 s e = omega (arith, answers_are_0_to_10 s, ap (λ (v : Verdict). (answers v).number) (sym (answer_found (read_answer s) (record_of s)) ∙ e))

pub only_17 : (l : List ℕ) → (line_reading l).answer ≡ Err Line → is_line l ≡ false
only_17 l e = by (is_line l) refl
  where
    by : (t : Bool) → is_line l ≡ t → is_line l ≡ false
    by true h = absurd (never_17 (frame_of_line l) (sym (ap (λ (r : Reading). r.answer) (line_reads l h)) ∙ e))
    by false h = h

pub refused_zeros : (l : List ℕ) (x : Refusal) → (line_reading l).answer ≡ Err x → (line_reading l).«record» ≡ zeros
refused_zeros l x e = by (is_line l) refl
  where
    by : (t : Bool) → is_line l ≡ t → (line_reading l).«record» ≡ zeros
    by true h =
        ap (λ (r : Reading). r.«record») (line_reads l h)
        ∙ a_refused_reading_gives_zeros (frame_of_line l) x (sym (ap (λ (r : Reading). r.answer) (line_reads l h)) ∙ e)
    by false h = ap (λ (r : Reading). r.«record») (no_line_reads l h)

-- ---- either case

pub capitals_read : (l : List ℕ) → line_reading (capitals l) ≡ line_reading l
unfolding line_reading
capitals_read l = rw (same_line l, same_frame l)

-- ---- there and back

low_four : (x : ℕ) → x % 64 ≡ 0 → x % 16 ≡ 0
low_four x e = omega arith

pub no_digit_lost : (s : List ℕ) → field_of s 250 6 ≡ 0 → field_of s 252 4 ≡ 0
no_digit_lost s e = low_four _ e

pub frame_again : (s : List ℕ) → length s ≡ 32 → Bytes s → field_of s 252 4 ≡ 0 → frame_of_line (line_of s) ≡ s
frame_again s n b e = frame_back s n b (half_field s n b 63 (omega arith) ∙ e)

pub reads_as_frame : (s : List ℕ) → length s ≡ 32 → Bytes s → field_of s 252 4 ≡ 0 → line_reading (line_of s) ≡ read_of s
reads_as_frame s n b e = line_reads (line_of s) (is_line_lem s n b) ∙ ap read_of (frame_again s n b e)

pub record_again : (r : Record) → Shaped r → Valid r → line_reading (line_of (bytes_of (frame r))) ≡ record { answer = Ok tt; «record» = r }
record_again r h v =
    let s = bytes_of (frame r) in
    let k = written_frames_conform r h v in
    reads_as_frame s k.long (written_frames_are_bytes r) (no_digit_lost s k.padding)
    ∙ ap read_of (sym (valid_is_written r (replicate 32 0) v refl))
    ∙ read_again_is_the_record r (replicate 32 0) h v refl
