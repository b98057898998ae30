-- What a sentence that is read tells, and what one that is refused does not.
use Rattle.std.specs.Prelude.{Result, Ok, Err}
use Rattle.std.specs.Result.{result_unwrap_or}
use Rattle.rows.specs.Refusals.{outcome, Verdict}
use Rattle.rows.specs.Runs.Verdict.{empty}
use Rattle.slots.specs.Slots.{used_among}
use Rattle.report.specs.declared.record.Record.{Record}
use Rattle.report.specs.Meaning.{used_of}
use Rattle.report.specs.Runs.Reading.{looked, seen}
use Rattle.sentence.specs.declared.from_sentence.Reception.{Reception}
use Rattle.sentence.specs.declared.from_sentence.Hearing.{Hearing}
use mathlib.Core.Path.{◌≡◌, refl, sym, ap, ◌∙◌}
use mathlib.Core.Bool.{true}
use mathlib.Core.List.{List, [], ◌∷◌, ◌++◌}
use Prim.Native.Nat.{ℕ, ◌+◌, ◌/◌, ◌%◌, ◌≤◌}
use native.Mathlib.Omega.{arith}
use lib.Dec.{lit≤}
use lib.ListN.{length, take, drop, get_or}
use Rattle.rows.specs.declared.refusal.Refusal.{Refusal}
use Rattle.rows.specs.Kept.{In}
use Rattle.report.specs.Conforms.{Conforms}
use Rattle.report.specs.Records.{zeros}
use Rattle.line.specs.Lines.{capital, upper, capitals, is_line, frame_of_line, line_reading}
use Rattle.line.proofs.LineReasons.{tested_exactly}
use Rattle.line.proofs.Pairs.{frame-length}
use Rattle.line.proofs.ReadLines.{refused_zeros}
use Rattle.line.proofs.ThereAndBack.{line_back}
use Rattle.rows.proofs.Rules.Spans.{allowed_in}
use Rattle.sentence.specs.Sentences.{satellites, checksum, part, between, digits_in, satellite_in, told_in, around_answer, satellite_of, behind, sentence_reading, sentence_answer, sentence_of, send_answer, reception, received_told, no_reception, heard_of, hearing, heard_told, no_hearing}
use Rattle.sentence.specs.Reasons.{Formed, Names}
use Rattle.sentence.proofs.Asked.{read_exactly, sent_exactly}
use Rattle.sentence.proofs.Hearing.{around_fine, around_met, sentence_answer_lem, sentence_found}
use Rattle.sentence.proofs.Pieces as Pieces
use Rattle.sentence.proofs.Satellites.{listed_above, listed_below, number_named}
use Rattle.sentence.proofs.Written.{written-digits}

pub answered : (s : List ℕ) → (sentence_reading s).reading.answer ≡ sentence_answer s
answered = sentence_answer_lem

-- ---- refused

nothing_behind : (v : Verdict) (s : List ℕ) (x : Refusal) → (behind v s).reading.answer ≡ Err x → ((behind v s).satellite ≡ 0) × ((behind v s).reading.«record» ≡ zeros)
nothing_behind (Ok tt) s x e = (ap (λ (v : Verdict). satellite_of v (satellite_in s)) e, refused_zeros (digits_in s) x e)
nothing_behind (Err y) s x e = (refl, refl)

pub refused_nothing : (s : List ℕ) (x : Refusal) → sentence_answer s ≡ Err x → ((sentence_reading s).satellite ≡ 0) × ((sentence_reading s).reading.«record» ≡ zeros)
unfolding sentence_reading
refused_nothing s x e = nothing_behind (around_answer s) s x (sentence_answer_lem s ∙ e)

-- so what is handed back, with zeros in place of a refusal, is what is read
pub reception_or_zeros : (s : List ℕ) (t : Result Reception Refusal) → t ≡ received_told (sentence_reading s) → result_unwrap_or t no_reception ≡ reception (sentence_reading s)
reception_or_zeros s t e = by (sentence_reading s).reading.answer refl e
  where
    by : (v : Verdict) → (sentence_reading s).reading.answer ≡ v → t ≡ outcome v (reception (sentence_reading s)) → result_unwrap_or t no_reception ≡ reception (sentence_reading s)
    by (Ok tt) f g = ap (λ (y : Result Reception Refusal). result_unwrap_or y no_reception) g
    by (Err x) f g =
        let nothing = refused_nothing s x (sentence_found s ∙ f) in
        ap (λ (y : Result Reception Refusal). result_unwrap_or y no_reception) g ∙ (λ i. record { satellite = sym nothing.0 i; «record» = sym nothing.1 i })

-- and what is heard, what is seen of it
nothing_heard : (n : ℕ) (v : Verdict) (r : Record) → n ≡ 0 → r ≡ zeros → hearing (record { satellite = n; look = seen (record { answer = v; «record» = r }) }) ≡ no_hearing
unfolding used_of used_among empty zeros
nothing_heard n v r e f = λ i. record { satellite = e i; look = looked (seen (record { answer = v; «record» = f i })) }

pub hearing_or_zeros : (s : List ℕ) (t : Result Hearing Refusal) → t ≡ heard_told (heard_of (sentence_reading s)) → result_unwrap_or t no_hearing ≡ hearing (heard_of (sentence_reading s))
hearing_or_zeros s t e = by (sentence_reading s).reading.answer refl e
  where
    by : (v : Verdict) → (sentence_reading s).reading.answer ≡ v → t ≡ outcome v (hearing (heard_of (sentence_reading s))) → result_unwrap_or t no_hearing ≡ hearing (heard_of (sentence_reading s))
    by (Ok tt) f g = ap (λ (y : Result Hearing Refusal). result_unwrap_or y no_hearing) g
    by (Err x) f g =
        let nothing = refused_nothing s x (sentence_found s ∙ f) in
        ap (λ (y : Result Hearing Refusal). result_unwrap_or y no_hearing) g
        ∙ sym (nothing_heard _ (sentence_reading s).reading.answer _ nothing.0 nothing.1)

-- ---- read

module _ (s : List ℕ) (e : sentence_answer s ≡ Ok tt) where
  formed : Formed s
  formed = ((read_exactly s).0 e).0.0

  told : checksum (between s) ≡ told_in s
  told = ((read_exactly s).0 e).0.1.0

  line : is_line (digits_in s) ≡ true
  line = (tested_exactly (digits_in s)).1 ((read_exactly s).0 e).1.0

  conforms : Conforms (frame_of_line (digits_in s))
  conforms = ((read_exactly s).0 e).1.1

  around : around_answer s ≡ Ok tt
  around = around_fine s (sentence_answer_lem s ∙ e)

  listed : In satellites (satellite_in s)
  listed = allowed_in satellites (satellite_in s) (around_met s around).2

  satellite : (sentence_reading s).satellite ≡ satellite_in s
  unfolding sentence_reading
  satellite = ap (λ (v : Verdict). (behind v s).satellite) around ∙ ap (λ (v : Verdict). satellite_of v (satellite_in s)) (sym (ap (λ (v : Verdict). (behind v s).reading.answer) around) ∙ sentence_answer_lem s ∙ e)

  long : length (frame_of_line (digits_in s)) ≡ 32
  long = frame-length (digits_in s) (Pieces.digits_long s formed)

  pub may_be_sent : send_answer (sentence_reading s).satellite (frame_of_line (digits_in s)) 78 ≡ Ok tt
  may_be_sent = ap (λ (n : ℕ). send_answer n (frame_of_line (digits_in s)) 78) satellite ∙ (sent_exactly (satellite_in s) (frame_of_line (digits_in s)) 78).1 (listed, (conforms, lit≤ tt))

  names : Names s (sentence_reading s).satellite
  names =
      let n = number_named s listed in
      (n.0 ∙ ap (λ (k : ℕ). 0x30 + k / 10) (sym satellite), n.1 ∙ ap (λ (k : ℕ). 0x30 + k % 10) (sym satellite))

  pub same_satellite : part 7 2 (sentence_of (sentence_reading s).satellite (frame_of_line (digits_in s))) ≡ part 7 2 s
  unfolding sentence_of
  same_satellite = (λ j. sym names.0 j ∷ sym names.1 j ∷ []) ∙ sym (Pieces.satellite_at s formed)

  pub same_digits : digits_in (sentence_of (sentence_reading s).satellite (frame_of_line (digits_in s))) ≡ capitals (digits_in s)
  same_digits = written-digits (sentence_reading s).satellite (frame_of_line (digits_in s)) long ∙ line_back (digits_in s) line

  pub own_checksum : (upper (get_or s 74 0) ≡ capital (checksum (between s) / 16)) × (upper (get_or s 75 0) ≡ capital (checksum (between s) % 16))
  own_checksum = Pieces.summed s formed told

  pub would_write : capitals (digits_in s) ≡ digits_in s → sentence_of (sentence_reading s).satellite (frame_of_line (digits_in s)) ≡ take 74 s ++ (upper (get_or s 74 0) ∷ upper (get_or s 75 0) ∷ drop 76 s)
  would_write large = Pieces.would_write s formed told (sentence_reading s).satellite names line large

-- ---- which numbers a satellite has

pub satellite_high : (s : List ℕ) → sentence_answer s ≡ Ok tt → 55 ≤ (sentence_reading s).satellite
satellite_high s e = omega (arith, satellite s e, listed_above (satellite_in s) (listed s e))

of_low : (v : Verdict) (n : ℕ) → n ≤ 61 → satellite_of v n ≤ 61
of_low (Ok tt) n h = h
of_low (Err x) n h = omega arith

pub satellite_low : (s : List ℕ) → (sentence_reading s).satellite ≤ 61
unfolding sentence_reading
satellite_low s = by (around_answer s) refl
  where
    by : (v : Verdict) → around_answer s ≡ v → (behind v s).satellite ≤ 61
    by (Ok tt) e = of_low (line_reading (digits_in s)).answer (satellite_in s) (listed_below (satellite_in s) (allowed_in satellites (satellite_in s) (around_met s e).2))
    by (Err x) e = omega arith
