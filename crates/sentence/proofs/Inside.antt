-- What stands around the digits of a line that lacks its line feed, as the code asks for it.
use Rattle.std.specs.Prelude.{Option, Some, None, Ok, Err}
use Rattle.std.specs.Option.{unwrap_or}
use mathlib.Core.Path.{◌≡◌, refl, ap, ap₂, ◌∙◌}
use mathlib.Core.Bool.{Bool, true, false, ◌&&◌, cond}
use mathlib.Core.List.{List}
use Prim.Native.Nat.{ℕ, ◌+◌, ◌-◌, ◌*◌}
use lib.Dec.{eqb}
use lib.ListN.{get_or}
use Rattle.rows.specs.declared.refusal.Refusal.TheVariants.{Sentence, Checksum, Satellite}
use Rattle.rows.specs.Refusals.{Verdict, outcome}
use Rattle.rows.specs.Runs.Questions.{◌then◌, unless}
use Rattle.rows.specs.Runs.Verdict.{allowed}
use Rattle.sentence.specs.Sentences.{satellites, checksum, between, figure, satellite_in, told_in, around_as, around_answer, around_of, fed}
use Rattle.sentence.specs.Pieces.{marked, named_in, summed_in}
use Rattle.sentence.proofs.Fed.{form_marked, marked_long, between-fed, told_fed, satellite_fed, two_digits}

-- the checksum, where its digits are some
abbrev pub sum_asked : Option ℕ → ℕ → Verdict
sum_asked None sum = Err Sentence
sum_asked (Some told) sum = unless (eqb sum told) Checksum

-- the satellite, where its characters are a number
abbrev pub satellite_asked : Option ℕ → Verdict
satellite_asked None = Err Satellite
satellite_asked (Some n) = unless (allowed satellites n) Satellite

abbrev asked : List ℕ → Verdict
asked l = unless (marked l) Sentence then sum_asked (summed_in l) (checksum (between l)) then satellite_asked (named_in l)

module _ (l : List ℕ) (m : marked l ≡ true) where
  sum_part : two_digits l ≡ true → unless (eqb (checksum (between (fed l))) (told_in (fed l))) Checksum ≡ sum_asked (summed_in l) (checksum (between l))
  unfolding told_in
  sum_part d = let n = marked_long l m in rw (between-fed l n, told_fed l n, d)

  -- 0 is said where there is no number, and no satellite has it
  satellite_part : unless (allowed satellites (satellite_in (fed l))) Satellite ≡ satellite_asked (named_in l)
  unfolding satellite_in allowed
  satellite_part = ap (λ (n : ℕ). unless (allowed satellites n) Satellite) (satellite_fed l (marked_long l m)) ∙ by (figure (get_or l 7 0) && figure (get_or l 8 0)) ((get_or l 7 0 - 0x30) * 10 + (get_or l 8 0 - 0x30))
    where
      by : (t : Bool) (n : ℕ) → unless (allowed satellites (cond t n 0)) Satellite ≡ satellite_asked (cond t (Some n) None)
      by true n = refl
      by false n = refl

answer_asked : (l : List ℕ) → around_answer (fed l) ≡ asked l
unfolding around_answer
answer_asked l =
    ap (λ (t : Bool). unless t Sentence then unless (eqb (checksum (between (fed l))) (told_in (fed l))) Checksum then unless (allowed satellites (satellite_in (fed l))) Satellite) (form_marked l)
    ∙ by (marked l) (two_digits l) refl refl
  where
    by : (m d : Bool) → marked l ≡ m → two_digits l ≡ d → unless (m && d) Sentence then unless (eqb (checksum (between (fed l))) (told_in (fed l))) Checksum then unless (allowed satellites (satellite_in (fed l))) Satellite
        ≡ unless m Sentence then sum_asked (summed_in l) (checksum (between l)) then satellite_asked (named_in l)
    by false d e f = refl
    by true false e f = rw f
    by true true e f = ap₂ ◌then◌ (sum_part l e f) (satellite_part l e)

as_outcome : (v : Verdict) (s : List ℕ) → outcome (around_as v s).answer (around_as v s).satellite ≡ outcome v (satellite_in s)
as_outcome (Ok tt) s = refl
as_outcome (Err x) s = refl

-- what is handed back of a sentence
pub around_outcome : (s : List ℕ) → outcome (around_of s).answer (around_of s).satellite ≡ outcome (around_answer s) (satellite_in s)
unfolding around_of
around_outcome s = as_outcome (around_answer s) s

pub around_asks : (l : List ℕ) → outcome (around_of (fed l)).answer (around_of (fed l)).satellite ≡ outcome (asked l) (satellite_in (fed l))
around_asks l = around_outcome (fed l) ∙ ap (λ (v : Verdict). outcome v (satellite_in (fed l))) (answer_asked l)

-- the satellite that is handed back is the one that was found
pub satellite_found : (l : List ℕ) → marked l ≡ true → satellite_in (fed l) ≡ unwrap_or (named_in l) 0
unfolding satellite_in
satellite_found l m = satellite_fed l (marked_long l m) ∙ by (figure (get_or l 7 0) && figure (get_or l 8 0))
  where
    by : (t : Bool) → cond t ((get_or l 7 0 - 0x30) * 10 + (get_or l 8 0 - 0x30)) 0 ≡ unwrap_or (cond t (Some ((get_or l 7 0 - 0x30) * 10 + (get_or l 8 0 - 0x30))) None) 0
    by true = refl
    by false = refl
