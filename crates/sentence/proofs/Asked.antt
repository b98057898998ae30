-- Why a sentence is refused: the questions in their order.
use Rattle.std.specs.Prelude.{Ok, Err}
use Rattle.rows.specs.Refusals.{Verdict}
use mathlib.Core.Path.{◌≡◌, sym, ap, subst, ◌∙◌}
use mathlib.Core.Bool.{true}
use mathlib.Core.List.{List, [], ◌∷◌}
use mathlib.Core.Logic.{◌↔◌, ◌⊎◌, inl, inr, ⊎_elim}
use Prim.Native.Nat.{ℕ, ◌≤◌}
use borrow.Author.Tests.{eqb-true, eq-eqb, leb-true, le-leb}
use lib.Dec.{eqb, leb}
use Rattle.rows.specs.declared.refusal.Refusal.{Refusal}
use Rattle.rows.specs.declared.refusal.Refusal.TheVariants.{Short, Line, Sentence, Checksum, Satellite}
use Rattle.rows.specs.Kept.{In}
use Rattle.rows.specs.Faults.{◌or◌, First, Met}
use Rattle.rows.specs.Runs.Questions.{◌then◌, unless}
use Rattle.rows.specs.Runs.Verdict.{allowed}
use Rattle.rows.proofs.Rules.Outcomes.{then_assoc, refused_one, unless_fine, fine_both, fine_then, met_then}
use Rattle.rows.proofs.Rules.Ordered.{Answers, unquestioned, question, last_question, met_exactly, first_not_met}
use Rattle.rows.proofs.Rules.Spans.{allowed_in, in_allowed}
use Rattle.report.specs.Conforms.{Conforms}
use Rattle.report.specs.Reasons.{WhyNotRead}
use Rattle.report.specs.Runs.Reading.{read_answer}
use Rattle.report.proofs.Claims.{refused_for_a_reason}
use Rattle.report.proofs.Reading.Frames.{conforming_fine, fine_conforming}
use Rattle.line.specs.Lines.{is_line, frame_of_line, line_reading}
use Rattle.line.specs.Reasons.{SixtyThreeDigits}
use Rattle.line.proofs.LineReasons.{tested_exactly, read_reason}
use Rattle.sentence.specs.Sentences.{satellites, checksum, between, digits_in, satellite_in, told_in, has_form, around_answer, sentence_answer, send_answer}
use Rattle.sentence.specs.Reasons.{Formed, Listed, sentence_questions, WhyNotReadAsSentence, WhyNotSent}
use Rattle.sentence.proofs.Forms.{formed, form_of}
use Rattle.sentence.proofs.Hearing.{line_answer_lem}
use Rattle.sentence.proofs.Satellites.{named_number, number_named}

-- ---- reading

-- what is asked of the digits, behind the rest
abbrev digits_answer : List ℕ → Verdict
digits_answer s = unless (is_line (digits_in s)) Line then read_answer (frame_of_line (digits_in s))

is_listed : (s : List ℕ) → allowed satellites (satellite_in s) ≡ true → Listed s
is_listed s e = let i = allowed_in satellites (satellite_in s) e in (satellite_in s, i, number_named s i)

listed_is : (s : List ℕ) → Listed s → allowed satellites (satellite_in s) ≡ true
listed_is s l = ap (allowed satellites) (named_number s l.0 l.1 l.2) ∙ in_allowed satellites l.0 l.1

asked_in_turn : (s : List ℕ)
    → unless (has_form s) Sentence then unless (eqb (checksum (between s)) (told_in s)) Checksum then unless (allowed satellites (satellite_in s)) Satellite then digits_answer s ≡ sentence_answer s
unfolding sentence_answer around_answer
asked_in_turn s =
    sym (then_assoc (unless (has_form s) Sentence) (unless (eqb (checksum (between s)) (told_in s)) Checksum then unless (allowed satellites (satellite_in s)) Satellite) (digits_answer s)
    ∙ ap (λ (v : Verdict). unless (has_form s) Sentence then v) (then_assoc (unless (eqb (checksum (between s)) (told_in s)) Checksum) (unless (allowed satellites (satellite_in s)) Satellite) (digits_answer s)))

sentence_asked : (s : List ℕ) → Answers (sentence_answer s) (sentence_questions s) (digits_answer s)
sentence_asked s =
    subst (λ (v : Verdict). Answers v (sentence_questions s) (digits_answer s)) (asked_in_turn s)
    (question (has_form s) (Formed s) Sentence (formed s) (form_of s)
    (question (eqb (checksum (between s)) (told_in s)) (checksum (between s) ≡ told_in s) Checksum (eqb-true (checksum (between s)) (told_in s)) (eq-eqb (checksum (between s)) (told_in s))
    (question (allowed satellites (satellite_in s)) (Listed s) Satellite (is_listed s) (listed_is s) (unquestioned (digits_answer s)))))

pub read_why_not : (s : List ℕ) (x : Refusal) → sentence_answer s ≡ Err x → WhyNotReadAsSentence s x
read_why_not s x e = (sentence_asked s).refused x _ e (λ d. read_reason (digits_in s) x (line_answer_lem (digits_in s) ∙ d))

pub read_exactly : (s : List ℕ) → sentence_answer s ≡ (Ok tt) ↔ (Met (sentence_questions s) × (SixtyThreeDigits (digits_in s) × Conforms (frame_of_line (digits_in s))))
read_exactly s = (met, all)
  where
    d : List ℕ
    d = digits_in s

    met : sentence_answer s ≡ Ok tt → Met (sentence_questions s) × (SixtyThreeDigits d × Conforms (frame_of_line d))
    met e =
        let a = (sentence_asked s).fine e in
        let p = fine_both (unless (is_line d) Line) (read_answer (frame_of_line d)) a.1 in
        (a.0, ((tested_exactly d).0 (unless_fine (is_line d) Line p.0), fine_conforming (frame_of_line d) p.1))

    all : Met (sentence_questions s) × (SixtyThreeDigits d × Conforms (frame_of_line d)) → sentence_answer s ≡ Ok tt
    all m = (sentence_asked s).met m.0 ∙ met_then (is_line d) Line (read_answer (frame_of_line d)) ((tested_exactly d).1 m.1.0) ∙ conforming_fine (frame_of_line d) m.1.1

-- where 18, 19 and 20 are not there, the digits decide
pub digits_decide : (s : List ℕ) → Met (sentence_questions s) → sentence_answer s ≡ (line_reading (digits_in s)).answer
digits_decide s m = (sentence_asked s).met m ∙ sym (line_answer_lem (digits_in s))

-- ---- writing

module _ (n : ℕ) (f : List ℕ) (room : ℕ) where
  room_asked : Answers (unless (leb 78 room) Short) ((78 ≤ room) or Short ∷ []) (Ok tt)
  room_asked = last_question (leb 78 room) (78 ≤ room) Short (leb-true 78 room) (le-leb 78 room)

  send_asked : Answers (send_answer n f room) (In satellites n or Satellite ∷ []) (read_answer f then unless (leb 78 room) Short)
  unfolding send_answer
  send_asked = question (allowed satellites n) (In satellites n) Satellite (allowed_in satellites n) (in_allowed satellites n) (unquestioned (read_answer f then unless (leb 78 room) Short))

  behind_it : (x : Refusal) → read_answer f then unless (leb 78 room) Short ≡ Err x → WhyNotRead f x ⊎ (Conforms f × First ((78 ≤ room) or Short ∷ []) x ⊥)
  behind_it x e = ⊎_elim (λ r. inl (refused_for_a_reason f x r)) (λ r. inr (fine_conforming f r.0, first_not_met room_asked x r.1)) (refused_one (read_answer f) (unless (leb 78 room) Short) x e)

  pub send_why_not : (x : Refusal) → send_answer n f room ≡ Err x → WhyNotSent n f room x
  send_why_not x e = send_asked.refused x _ e (behind_it x)

  pub sent_exactly : send_answer n f room ≡ (Ok tt) ↔ (In satellites n × (Conforms f × (78 ≤ room)))
  sent_exactly = (met, all)
    where
      met : send_answer n f room ≡ Ok tt → In satellites n × (Conforms f × (78 ≤ room))
      met e =
          let a = send_asked.fine e in
          let p = fine_both (read_answer f) (unless (leb 78 room) Short) a.1 in
          (a.0.0, (fine_conforming f p.0, ((met_exactly room_asked).0 p.1).0))

      all : In satellites n × (Conforms f × (78 ≤ room)) → send_answer n f room ≡ Ok tt
      all m = send_asked.met (m.0, tt) ∙ ap (λ (v : Verdict). v then unless (leb 78 room) Short) (conforming_fine f m.1.0) ∙ fine_then (unless (leb 78 room) Short) ∙ (met_exactly room_asked).1 (m.1.1, tt)
