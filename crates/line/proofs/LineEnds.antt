-- What reading a line and looking at it hand back, from what its frame comes to.
use Rattle.std.specs.Prelude.{Some, None, Ok, Err, replicate}
use Rattle.std.specs.Option.{ok_or}
use Rattle.std.specs.Result.{result_unwrap_or}
use mathlib.Core.Path.{◌≡◌, refl, sym, ap, ◌∙◌}
use mathlib.Core.Bool.{Bool, true, false, cond}
use mathlib.Core.List.{List}
use Prim.Native.Nat.{ℕ}
use Rattle.rows.specs.declared.refusal.Refusal.{Refusal}
use Rattle.rows.specs.declared.refusal.Refusal.TheVariants.{Line}
use Rattle.rows.specs.Refusals.{answers, outcome}
use Rattle.rows.specs.Runs.Questions.{◌then◌, unless}
use Rattle.rows.proofs.Rules.Outcomes.{made_outcome, refused_outcome, said_outcome, not_both}
use Rattle.report.specs.Records.{record_of, zeros}
use Rattle.report.specs.Runs.Reading.{look_told, looked, nothing_looked, read_answer, reading, read_of, seen, unread, Reading}
use Rattle.report.proofs.Reading.ReadSteps.{answer_found, nothing_seen}
use Rattle.line.specs.Lines.{is_line, frame_in, frame_of_line, framing_says, no_line, framing, line_reading, line_says, Framing}

abbrev with_frame : List ℕ → Framing
with_frame l = record { answer = Ok tt; frame = frame_of_line l }

-- the frame, or 17
pub framing_told : (l : List ℕ) → outcome (framing l).answer (framing l).frame ≡ ok_or (frame_in l) Line
unfolding framing
framing_told l = by (is_line l)
  where
    by : (t : Bool) → outcome (cond t (with_frame l) no_line).answer (cond t (with_frame l) no_line).frame ≡ ok_or (cond t (Some (frame_of_line l)) None) Line
    by true = refl
    by false = refl

pub framing_said : (l : List ℕ) → framing_says l ≡ answers (ok_or (frame_in l) Line)
framing_said l = by (is_line l)
  where
    by : (t : Bool) → answers (unless t Line) ≡ answers (ok_or (cond t (Some (frame_of_line l)) None) Line)
    by true = refl
    by false = refl

-- with zeros where there is none
pub frame_or_zeros : (l : List ℕ) → result_unwrap_or (ok_or (frame_in l) Line) (replicate 32 0) ≡ (framing l).frame
unfolding framing
frame_or_zeros l = by (is_line l)
  where
    by : (t : Bool) → result_unwrap_or (ok_or (cond t (Some (frame_of_line l)) None) Line) (replicate 32 0) ≡ (cond t (with_frame l) no_line).frame
    by true = refl
    by false = refl

-- a line that has a frame is read as that frame
pub reads_on : (l f : List ℕ) → outcome (framing l).answer (framing l).frame ≡ Ok f → line_reading l ≡ read_of f
unfolding framing line_reading
reads_on l f e = by (is_line l) e
  where
    by : (t : Bool) → outcome (cond t (with_frame l) no_line).answer (cond t (with_frame l) no_line).frame ≡ Ok f → cond t (read_of (frame_of_line l)) (reading (Err Line) zeros) ≡ read_of f
    by true m = ap read_of (sym (made_outcome (Ok tt) (frame_of_line l) f m).1)
    by false m = absurd (not_both (Err Line) Line (made_outcome (Err Line) (replicate 32 0) f m).0 refl)

-- one that has none is refused, and nothing is read of it
pub reads_no_more : (l : List ℕ) (x : Refusal) → outcome (framing l).answer (framing l).frame ≡ Err x → line_reading l ≡ unread (Err Line)
unfolding framing line_reading
reads_no_more l x e = by (is_line l) e
  where
    by : (t : Bool) → outcome (cond t (with_frame l) no_line).answer (cond t (with_frame l) no_line).frame ≡ Err x → cond t (read_of (frame_of_line l)) (reading (Err Line) zeros) ≡ unread (Err Line)
    by true m = absurd (not_both (Ok tt) x refl (refused_outcome (Ok tt) (frame_of_line l) x m))
    by false m = refl

-- nor is anything seen of it
pub looks_no_more : (l : List ℕ) (x : Refusal) → outcome (framing l).answer (framing l).frame ≡ Err x → nothing_looked ≡ looked (seen (line_reading l))
looks_no_more l x e = ap looked (nothing_seen (Err Line)) ∙ ap (λ (r : Reading). looked (seen r)) (sym (reads_no_more l x e))

-- ---- what that says

line_found : (l : List ℕ) → answers (line_reading l).answer ≡ line_says l
unfolding line_reading
line_found l = by (is_line l)
  where
    by : (t : Bool) → answers (cond t (read_of (frame_of_line l)) (reading (Err Line) zeros)).answer ≡ answers (unless t Line then read_answer (frame_of_line l))
    by true = ap answers (answer_found (read_answer (frame_of_line l)) (record_of (frame_of_line l)))
    by false = refl

pub line_said : (l : List ℕ) → line_says l ≡ answers (outcome (line_reading l).answer (line_reading l).«record»)
line_said l = sym (said_outcome (line_reading l).answer (line_reading l).«record» ∙ line_found l)

pub look_said : (l : List ℕ) → line_says l ≡ answers (look_told (seen (line_reading l)))
look_said l = sym (said_outcome (line_reading l).answer _ ∙ line_found l)
