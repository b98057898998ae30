-- What a caller sees of a sentence: the satellite of one that is read, the number of one that is refused, and which bytes stay.
use Rattle.std.specs.Prelude.{Ok, Err}
use mathlib.Core.Path.{◌≡◌, refl, ap, ◌∙◌}
use mathlib.Core.Bool.{Bool, true, false, cond}
use mathlib.Core.List.{List}
use Prim.Native.Nat.{ℕ, ◌≤◌}
use native.Mathlib.Omega.{arith}
use borrow.Author.Tests.{eqb-true}
use lib.Dec.{eqb}
use lib.ListN.{length}
use Rattle.rows.specs.declared.refusal.Refusal.{Refusal}
use Rattle.rows.specs.Refusals.{says, answers, Verdict}
use Rattle.record_bytes.specs.Packed.{packed}
use Rattle.sentence.specs.Sentences.{sentence_reading, sentence_answer, send_answer, sent}
use Rattle.sentence.proofs.Claims.{reading_a_sentence_answers_so}
use Rattle.sentence.proofs.Read.{satellite_low, satellite_high}
use Rattle.inserter.specs.Answers.{CallResult, IsRefusal, answer_word, call_result, handed_over, reading_into, with_satellite, received_into, read_sentence_into, write_sentence_into}
use Rattle.inserter.proofs.Kept.{reading_leaves}
use Rattle.inserter.proofs.Reading.{reading_fits}
use Rattle.inserter.proofs.Refusing.{refusal_is_high}

-- ---- a refusal leaves the bytes

with_kept : (n : ℕ) (c : CallResult) (buffer : List ℕ) → n ≤ 61 → (IsRefusal c.answer → c.buffer ≡ buffer) → IsRefusal (with_satellite n c).answer → (with_satellite n c).buffer ≡ buffer
with_kept n c buffer low keeps = by (eqb c.answer 0)
  where
    by : (b : Bool) → IsRefusal (cond b n c.answer) → c.buffer ≡ buffer
    by true h = absurd (omega (arith, low, h))
    by false h = keeps h

pub reading_a_sentence_leaves : (s buffer : List ℕ) → IsRefusal (read_sentence_into s buffer).answer → (read_sentence_into s buffer).buffer ≡ buffer
unfolding received_into
reading_a_sentence_leaves s buffer h = with_kept (sentence_reading s).satellite (reading_into (sentence_reading s).reading buffer) buffer (satellite_low s) (reading_leaves (sentence_reading s).reading buffer) h

sent_kept : (v : Verdict) (n : ℕ) (f buffer : List ℕ) → IsRefusal (answer_word (answers v)) → sent v n f buffer ≡ buffer
sent_kept (Ok tt) n f buffer h = absurd (omega (arith, h))
sent_kept (Err x) n f buffer h = refl

pub sending_leaves : (n : ℕ) (f buffer : List ℕ) → IsRefusal (write_sentence_into n f buffer).answer → (write_sentence_into n f buffer).buffer ≡ buffer
sending_leaves n f buffer h = sent_kept (send_answer n f (length buffer)) n f buffer h

-- ---- what is told, in a buffer of 251 bytes

module _ (s buffer : List ℕ) (long : length buffer ≡ 251) where
  handed : (v : Verdict) → sentence_answer s ≡ v → reading_into (sentence_reading s).reading buffer ≡ handed_over v (packed (sentence_reading s).reading.«record») buffer
  handed v e =
      reading_fits (sentence_reading s).reading buffer long
      ∙ ap (λ (w : Verdict). handed_over w (packed (sentence_reading s).reading.«record») buffer) (reading_a_sentence_answers_so s ∙ e)

  pub read_told : sentence_answer s ≡ Ok tt → read_sentence_into s buffer ≡ call_result (sentence_reading s).satellite (packed (sentence_reading s).reading.«record»)
  unfolding received_into
  read_told e = ap (with_satellite (sentence_reading s).satellite) (handed (Ok tt) e)

  pub refused_told : (x : Refusal) → sentence_answer s ≡ Err x → read_sentence_into s buffer ≡ call_result (answer_word (says x)) buffer
  unfolding received_into
  refused_told x e =
      ap (with_satellite (sentence_reading s).satellite) (handed (Err x) e)
      ∙ by (eqb (answer_word (says x)) 0) refl
    where
      by : (b : Bool) → eqb (answer_word (says x)) 0 ≡ b → call_result (cond b (sentence_reading s).satellite (answer_word (says x))) buffer ≡ call_result (answer_word (says x)) buffer
      by true z = absurd (omega (arith, refusal_is_high x, eqb-true (answer_word (says x)) 0 z))
      by false z = refl

-- a satellite is no refusal, and no success without one
pub satellite_told : (s : List ℕ) → sentence_answer s ≡ Ok tt → (55 ≤ (sentence_reading s).satellite) × ((sentence_reading s).satellite ≤ 61)
satellite_told s e = (satellite_high s e, satellite_low s)
