-- A sentence that was read is answered with its satellite, and any other as its reading is.
use Rattle.std.specs.Prelude.{Ok, Err}
use mathlib.Core.Path.{◌≡◌, refl, sym, ap, ◌∙◌}
use mathlib.Core.Bool.{Bool, cond}
use mathlib.Core.List.{List}
use Prim.Native.Nat.{ℕ}
use native.Mathlib.Omega.{arith}
use borrow.Author.Tests.{eq-eqb, ne_eqb}
use lib.Dec.{eqb}
use lib.ListN.{length}
use Rattle.rows.specs.declared.refusal.Refusal.{Refusal}
use Rattle.rows.specs.Refusals.{outcome, plain, says, Verdict}
use Rattle.report.specs.Runs.Reading.{unread, Reading}
use Rattle.line.specs.Lines.{line_reading}
use Rattle.record_bytes.specs.Packed.{packed}
use Rattle.sentence.specs.Sentences.{digits_in, around_of, satellite_of, Received}
use Rattle.sentence.proofs.Hearing.{reads_on, reads_no_more}
use Rattle.inserter.specs.Answers.{CallResult, answer_word, call_result, handed_over, reading_into, read_line_into, with_satellite, received_into, read_sentence_into}
use Rattle.inserter.proofs.Reading.{reading_fits}
use Rattle.inserter.proofs.Refusing.{refusal_is_high}

-- a word of 0 is told of what was read alone
read_by : (v : Verdict) (bytes buffer : List ℕ) → (handed_over v bytes buffer).answer ≡ 0 → v ≡ Ok tt
read_by (Ok tt) bytes buffer e = refl
read_by (Err x) bytes buffer e = absurd (omega (arith, refusal_is_high x, e))

read_fine : (r : Reading) (buffer after : List ℕ) (answer : ℕ) → length buffer ≡ 251 → call_result answer after ≡ reading_into r buffer → answer ≡ 0 → r.answer ≡ Ok tt
read_fine r buffer after answer long handed z = read_by r.answer (packed r.«record») buffer (sym (ap (λ (c : CallResult). c.answer) (handed ∙ reading_fits r buffer long)) ∙ z)

-- ---- the ways out of reading a sentence

pub no_record : (s buffer : List ℕ) → (length buffer ≡ 251 → ⊥) → call_result (answer_word (plain 255)) buffer ≡ read_sentence_into s buffer
unfolding received_into reading_into
no_record s buffer n = simp (ne_eqb (length buffer) 251 n)

module _ (s buffer : List ℕ) where
  -- 18, 19, 20
  pub not_read : (x : Refusal) → length buffer ≡ 251 → outcome (around_of s).answer (around_of s).satellite ≡ Err x → call_result (answer_word (says x)) buffer ≡ read_sentence_into s buffer
  unfolding received_into
  not_read x long e =
      sym (ap (λ (b : Bool). call_result (cond b 0 (answer_word (says x))) buffer) (ne_eqb (answer_word (says x)) 0 (λ z. omega (arith, refusal_is_high x, z))))
      ∙ sym (ap (with_satellite 0) (reading_fits (unread (Err x)) buffer long))
      ∙ sym (ap (λ (r : Received). with_satellite r.satellite (reading_into r.reading buffer)) (reads_no_more s x e))

  -- as the line of its digits
  module _ (n : ℕ) (e : outcome (around_of s).answer (around_of s).satellite ≡ Ok n) (after : List ℕ) (answer : ℕ) (handed : call_result answer after ≡ read_line_into (digits_in s) buffer) where
    whole : call_result (cond (eqb answer 0) (satellite_of (line_reading (digits_in s)).answer n) answer) after ≡ read_sentence_into s buffer
    unfolding received_into
    whole =
        ap (with_satellite (satellite_of (line_reading (digits_in s)).answer n)) handed
        ∙ sym (ap (λ (r : Received). with_satellite r.satellite (reading_into r.reading buffer)) (reads_on s n e))

    pub told_number : length buffer ≡ 251 → answer ≡ 0 → call_result n after ≡ read_sentence_into s buffer
    told_number long z =
        let fine = read_fine (line_reading (digits_in s)) buffer after answer long handed z in
        sym (λ i. call_result (cond (eq-eqb answer 0 z i) (satellite_of (fine i) n) answer) after) ∙ whole

    pub told_why_not : (answer ≡ 0 → ⊥) → call_result answer after ≡ read_sentence_into s buffer
    told_why_not m = sym (ap (λ (b : Bool). call_result (cond b (satellite_of (line_reading (digits_in s)).answer n) answer) after) (ne_eqb answer 0 m)) ∙ whole
