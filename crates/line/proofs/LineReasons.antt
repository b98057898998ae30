-- What a line is, byte by byte, and why one is refused.
use Rattle.std.specs.Prelude.{Ok, Err}
use mathlib.Core.Path.{◌≡◌, refl, sym, ap, ◌∙◌}
use mathlib.Core.Bool.{Bool, true, false}
use mathlib.Core.List.{List, [], ◌∷◌}
use mathlib.Core.Logic.{◌↔◌, inl, inr}
use Prim.Native.Nat.{ℕ, zero, suc, ◌<◌}
use native.Mathlib.Omega.{arith}
use lib.ListN.{length, get_or}
use lib.Dec.{eqb, leb}
use borrow.Author.Tests.{eqb-true, eq-eqb, leb-true, le-leb}
use Rattle.bits.specs.Frame.{field_of}
use Rattle.rows.specs.declared.refusal.Refusal.{Refusal}
use Rattle.rows.specs.declared.refusal.Refusal.TheVariants.{Length, Padding, Short, Line}
use Rattle.rows.specs.Kept.{In}
use Rattle.rows.specs.Faults.{Met}
use Rattle.rows.specs.Runs.Verdict.{allowed}
use Rattle.rows.proofs.Rules.Outcomes.{and_both, both_and, false_not_true, same_refusal}
use Rattle.rows.proofs.Rules.Spans.{allowed_in, in_allowed}
use Rattle.rows.proofs.Rules.Ordered.{Answers, question, last_question, met_exactly, first_not_met}
use Rattle.report.specs.Records.{record_of}
use Rattle.report.specs.Runs.Reading.{read_answer, read_of, Reading}
use Rattle.report.proofs.Claims.{refused_for_a_reason}
use Rattle.line.specs.Lines.{digits, all_digits, is_line, frame_of_line, line_reading, line_answer}
use Rattle.line.specs.Reasons.{SixtyThreeDigits, WhyNotReadAsLine, print_questions, WhyNotPrinted}
use Rattle.line.proofs.ReadLines.{line_reads, no_line_reads, only_17}
use Rattle.report.proofs.Reading.ReadSteps.{answer_found}

-- ---- the test of a line

digit_each : (l : List ℕ) → all_digits l ≡ true → (i : ℕ) → i < length l → In digits (get_or l i 0)
unfolding all_digits
digit_each [] e i h = absurd (none h)
  where
    none : i < 0 → ⊥
    none h = omega arith
digit_each (b ∷ l) e zero h = allowed_in digits b (and_both (allowed digits b) (all_digits l) e).0
digit_each (b ∷ l) e (suc i) h = digit_each l (and_both (allowed digits b) (all_digits l) e).1 i (omega arith)

each_digit : (l : List ℕ) → ((i : ℕ) → i < length l → In digits (get_or l i 0)) → all_digits l ≡ true
unfolding all_digits
each_digit [] h = refl
each_digit (b ∷ l) h = both_and (allowed digits b) (all_digits l) (in_allowed digits b (h 0 (omega arith))) (each_digit l (λ i k. h (suc i) (omega arith)))

tested-digits : (l : List ℕ) → is_line l ≡ true → SixtyThreeDigits l
unfolding is_line
tested-digits l e =
    let q = and_both (eqb (length l) 63) (all_digits l) e in
    let long : length l ≡ 63 = eqb-true (length l) 63 q.0 in
    record { long = long; each = λ i h. digit_each l q.1 i (omega arith) }

digits-tested : (l : List ℕ) → SixtyThreeDigits l → is_line l ≡ true
unfolding is_line
digits-tested l d = both_and (eqb (length l) 63) (all_digits l) (eq-eqb (length l) 63 d.long) (each_digit l (λ i h. d.each i (omega (arith, d.long))))

pub tested_exactly : (l : List ℕ) → is_line l ≡ true ↔ SixtyThreeDigits l
tested_exactly l = (tested-digits l, digits-tested l)

-- ---- 17, then as its frame

pub digits_read : (l : List ℕ) → SixtyThreeDigits l → line_reading l ≡ read_of (frame_of_line l)
digits_read l d = line_reads l (digits-tested l d)

not_a_line : (l : List ℕ) → is_line l ≡ false → SixtyThreeDigits l → ⊥
not_a_line l e d = false_not_true (sym e ∙ digits-tested l d)

pub refused_17 : (l : List ℕ) → (line_reading l).answer ≡ Err Line ↔ (SixtyThreeDigits l → ⊥)
refused_17 l = (λ e. not_a_line l (only_17 l e), λ n. by n (is_line l) refl)
  where
    by : (SixtyThreeDigits l → ⊥) → (t : Bool) → is_line l ≡ t → (line_reading l).answer ≡ Err Line
    by n true e = absurd (n (tested-digits l e))
    by n false e = ap (λ (r : Reading). r.answer) (no_line_reads l e)

pub read_reason : (l : List ℕ) (x : Refusal) → (line_reading l).answer ≡ Err x → WhyNotReadAsLine l x
read_reason l x e = by (is_line l) refl
  where
    by : (t : Bool) → is_line l ≡ t → WhyNotReadAsLine l x
    by true h =
        inr (
          tested-digits l h,
          refused_for_a_reason (frame_of_line l) x
              (sym (answer_found (read_answer (frame_of_line l)) (record_of (frame_of_line l))) ∙ sym (ap (λ (r : Reading). r.answer) (line_reads l h)) ∙ e),
        )
    by false h = inl (not_a_line l h, same_refusal x Line (sym e ∙ ap (λ (r : Reading). r.answer) (no_line_reads l h)))

-- ---- writing: 1, 2, 16

print_answered : (s : List ℕ) (room : ℕ) → Answers (line_answer s room) (print_questions s room) (Ok tt)
unfolding line_answer
print_answered s room =
    question (eqb (length s) 32) (length s ≡ 32) Length (eqb-true (length s) 32) (eq-eqb (length s) 32)
    (question (eqb (field_of s 250 6) 0) (field_of s 250 6 ≡ 0) Padding (eqb-true (field_of s 250 6) 0) (eq-eqb (field_of s 250 6) 0)
    (last_question (leb 63 room) _ Short (leb-true 63 room) (le-leb 63 room)))

pub print_exactly : (s : List ℕ) (room : ℕ) → line_answer s room ≡ (Ok tt) ↔ Met (print_questions s room)
print_exactly s room = met_exactly (print_answered s room)

pub print_reason : (s : List ℕ) (room : ℕ) (x : Refusal) → line_answer s room ≡ Err x → WhyNotPrinted s room x
print_reason s room = first_not_met (print_answered s room)
