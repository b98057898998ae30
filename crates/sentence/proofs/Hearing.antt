-- What reading a sentence answers: what stands around its digits, then what they say.
use Rattle.std.specs.Prelude.{Result, Ok, Err}
use Rattle.std.specs.Result.{result_unwrap_or}
use mathlib.Core.Path.{◌≡◌, refl, sym, ap, ◌∙◌}
use mathlib.Core.Bool.{Bool, true, false}
use mathlib.Core.List.{List, [], ◌∷◌}
use Prim.Native.Nat.{ℕ, ◌-◌, ◌<◌}
use native.Mathlib.Omega.{arith}
use lib.Dec.{eqb}
use lib.ListN.{length, get_or, length-append}
use Rattle.rows.specs.declared.refusal.Refusal.{Refusal}
use Rattle.rows.specs.declared.refusal.Refusal.TheVariants.{Line, Sentence, Checksum, Satellite}
use Rattle.rows.specs.Refusals.{outcome, Verdict}
use Rattle.rows.specs.Runs.Questions.{◌then◌, unless}
use Rattle.rows.specs.Runs.Verdict.{allowed}
use Rattle.rows.proofs.Rules.Outcomes.{fine_both, unless_fine, made_outcome, met_then, not-true, refused_outcome}
use Rattle.report.specs.declared.record.Record.{Record}
use Rattle.report.specs.declared.look.Looked.{Looked}
use Rattle.report.specs.Records.{record_of}
use Rattle.report.specs.Runs.Reading.{look_told, looked, read_answer, seen, Reading, Seen}
use Rattle.report.proofs.Reading.ReadSteps.{answer_found}
use Rattle.line.specs.Lines.{is_line, frame_of_line, line_reading}
use Rattle.line.proofs.ReadLines.{line_reads, no_line_reads}
use Rattle.sentence.specs.Sentences.{satellites, checksum, between, digits_in, satellite_in, told_in, has_form, around_refused, around_as, around_answer, around_of, satellite_of, behind, unheard, sentence_reading, sentence_answer, heard_of, heard_told, received, received_told, fed, Around, Received, Heard}
use Rattle.sentence.specs.declared.from_sentence.Reception.{Reception}
use Rattle.sentence.specs.declared.from_sentence.Hearing.{Hearing}
use Rattle.sentence.specs.Reasons.{Formed}
use Rattle.sentence.proofs.Forms.{formed, is_18}
use Rattle.sentence.proofs.Fed.{digits-fed}
use Rattle.sentence.proofs.Inside.{around_outcome}

-- ---- around the digits

as_answer : (v : Verdict) (s : List ℕ) → (around_as v s).answer ≡ v
as_answer (Ok tt) s = refl
as_answer (Err x) s = refl

-- what the code found there is what is asked
pub found : (s : List ℕ) (a : Around) (v : Verdict) → a ≡ around_of s → a.answer ≡ v → around_answer s ≡ v
unfolding around_of
found s a v e f = sym (as_answer (around_answer s) s) ∙ sym (ap (λ (x : Around). x.answer) e) ∙ f

pub found_satellite : (s : List ℕ) (a : Around) → a ≡ around_of s → around_answer s ≡ Ok tt → a.satellite ≡ satellite_in s
unfolding around_of
found_satellite s a e f = ap (λ (x : Around). x.satellite) e ∙ ap (λ (v : Verdict). (around_as v s).satellite) f

-- nothing is refused there, so each of the three was met
pub around_met : (s : List ℕ) → around_answer s ≡ Ok tt → (has_form s ≡ true) × (eqb (checksum (between s)) (told_in s) ≡ true) × (allowed satellites (satellite_in s) ≡ true)
unfolding around_answer
around_met s e =
    let p = fine_both (unless (has_form s) Sentence) (unless (eqb (checksum (between s)) (told_in s)) Checksum then unless (allowed satellites (satellite_in s)) Satellite) e in
    let q = fine_both (unless (eqb (checksum (between s)) (told_in s)) Checksum) (unless (allowed satellites (satellite_in s)) Satellite) p.1 in
    (unless_fine (has_form s) Sentence p.0, unless_fine _ Checksum q.0, unless_fine _ Satellite q.1)

-- a sentence that is read is refused for nothing around its digits
pub around_fine : (s : List ℕ) → (sentence_reading s).reading.answer ≡ Ok tt → around_answer s ≡ Ok tt
unfolding sentence_reading
around_fine s e = by (around_answer s) e
  where
    by : (v : Verdict) → (behind v s).reading.answer ≡ Ok tt → v ≡ Ok tt
    by (Ok tt) f = refl
    by (Err x) f = f

-- ---- the digits

pub line_answer_lem : (l : List ℕ) → (line_reading l).answer ≡ unless (is_line l) Line then read_answer (frame_of_line l)
line_answer_lem l = by (is_line l) refl
  where
    by : (b : Bool) → is_line l ≡ b → (line_reading l).answer ≡ unless (is_line l) Line then read_answer (frame_of_line l)
    by true e =
        ap (λ (r : Reading). r.answer) (line_reads l e)
        ∙ answer_found (read_answer (frame_of_line l)) (record_of (frame_of_line l))
        ∙ sym (met_then (is_line l) Line (read_answer (frame_of_line l)) e)
    by false e = ap (λ (r : Reading). r.answer) (no_line_reads l e) ∙ sym (ap (λ (b : Bool). unless b Line then read_answer (frame_of_line l)) e)

behind_answer : (v : Verdict) (s : List ℕ) → (behind v s).reading.answer ≡ v then unless (is_line (digits_in s)) Line then read_answer (frame_of_line (digits_in s))
behind_answer (Ok tt) s = line_answer_lem (digits_in s)
behind_answer (Err x) s = refl

pub sentence_answer_lem : (s : List ℕ) → (sentence_reading s).reading.answer ≡ sentence_answer s
unfolding sentence_reading sentence_answer
sentence_answer_lem s = behind_answer (around_answer s) s

pub sentence_found : (s : List ℕ) → sentence_answer s ≡ (sentence_reading s).reading.answer
sentence_found s = sym (sentence_answer_lem s)

-- ---- what is read behind it

-- refused around the digits
pub read_not : (s : List ℕ) (v : Verdict) (x : Refusal) → v ≡ Err x → around_answer s ≡ v → unheard v ≡ sentence_reading s
unfolding sentence_reading
read_not s v x e f = ap unheard e ∙ sym (ap (λ (w : Verdict). behind w s) (f ∙ e))

-- read on, to the digits
pub read_on : (s : List ℕ) → around_answer s ≡ Ok tt → (n k : ℕ) (r : Reading) → k ≡ satellite_in s → r ≡ line_reading (digits_in s) → n ≡ satellite_of r.answer k → ◌≡◌ {A = Received} (record { satellite = n; reading = r }) (sentence_reading s)
unfolding sentence_reading
read_on s e n k r a b c =
    (λ i. record { satellite = (c ∙ ap (satellite_of r.answer) a ∙ ap (λ (x : Reading). satellite_of x.answer (satellite_in s)) b) i; reading = b i })
    ∙ sym (ap (λ (w : Verdict). behind w s) e)

-- a sentence whose digits are read on has their place
pub long_found : (s : List ℕ) → around_answer s ≡ Ok tt → length s ≡ 78
long_found s e = (formed s (around_met s e).0).long

-- what is refused around the digits is the answer
pub around_refused_lem : (s : List ℕ) (x : Refusal) → around_refused x ≡ around_of s → sentence_answer s ≡ Err x
around_refused_lem s x e = sym (sentence_answer_lem s) ∙ sym (ap (λ (r : Received). r.reading.answer) (read_not s (Err x) x refl (found s (around_refused x) (Err x) e refl)))

-- ---- what is handed back, with zeros in place of a refusal

pub satellite_or_zero : (s : List ℕ) (t : Result ℕ Refusal) → t ≡ outcome (around_of s).answer (around_of s).satellite → result_unwrap_or t 0 ≡ (around_of s).satellite
unfolding around_of
satellite_or_zero s t e = by (around_answer s) (e ∙ around_outcome s)
  where
    by : (v : Verdict) → t ≡ outcome v (satellite_in s) → result_unwrap_or t 0 ≡ (around_as v s).satellite
    by (Ok tt) m = ap (λ (x : Result ℕ Refusal). result_unwrap_or x 0) m
    by (Err x) m = ap (λ (x : Result ℕ Refusal). result_unwrap_or x 0) m

-- ---- what is handed back

-- what has not the form of a sentence
no_form : (s : List ℕ) → (Formed s → ⊥) → Err Sentence ≡ outcome (around_of s).answer (around_of s).satellite
no_form s n = ap (λ (a : Around). outcome a.answer a.satellite) (is_18 s (not-true (has_form s) (λ e. n (formed s e))))

pub nothing_there : (s : List ℕ) → length s < 1 → Err Sentence ≡ outcome (around_of s).answer (around_of s).satellite
nothing_there s n = no_form s (λ f. omega (arith, f.long))

pub no_feed : (s : List ℕ) → (get_or s (length s - 1) 0 ≡ 10 → ⊥) → Err Sentence ≡ outcome (around_of s).answer (around_of s).satellite
no_feed s n = no_form s (λ f. n (let end : length s - 1 ≡ 77 = omega (arith, f.long) in rw end f.ended.1))

module _ (s : List ℕ) where
  -- with a satellite the digits are read on
  pub reads_on : (n : ℕ) → outcome (around_of s).answer (around_of s).satellite ≡ Ok n → sentence_reading s ≡ received n (line_reading (digits_in s))
  unfolding sentence_reading
  reads_on n e =
      let m = made_outcome (around_answer s) (satellite_in s) n (sym (around_outcome s) ∙ e) in
      ap (λ (v : Verdict). behind v s) m.0 ∙ ap (λ (k : ℕ). received k (line_reading (digits_in s))) (sym m.1)

  -- without one nothing is
  pub reads_no_more : (x : Refusal) → outcome (around_of s).answer (around_of s).satellite ≡ Err x → sentence_reading s ≡ unheard (Err x)
  unfolding sentence_reading
  reads_no_more x e = ap (λ (v : Verdict). behind v s) (refused_outcome (around_answer s) (satellite_in s) x (sym (around_outcome s) ∙ e))

  pub long_around : (n : ℕ) → outcome (around_of s).answer (around_of s).satellite ≡ Ok n → length s ≡ 78
  long_around n e = long_found s (made_outcome (around_answer s) (satellite_in s) n (sym (around_outcome s) ∙ e)).0

-- the same of a line without its line feed
module _ (l : List ℕ) (n : ℕ) (e : outcome (around_of (fed l)).answer (around_of (fed l)).satellite ≡ Ok n) where
  pub line_found : length l ≡ 77
  line_found = omega (arith, long_around (fed l) n e, length-append l (10 ∷ []))

  pub hears_on : sentence_reading (fed l) ≡ received n (line_reading (digits_in l))
  hears_on = reads_on (fed l) n e ∙ ap (λ (d : List ℕ). received n (line_reading d)) (digits-fed l line_found)

-- and what is heard of it, from what is seen of its digits
module _ (l : List ℕ) (e : around_answer (fed l) ≡ Ok tt) where
  pub hear_on : (n k : ℕ) (h : Seen) → k ≡ satellite_in (fed l) → h ≡ seen (line_reading (digits_in l)) → n ≡ satellite_of h.answer k → ◌≡◌ {A = Heard} (record { satellite = n; look = h }) (heard_of (sentence_reading (fed l)))
  hear_on n k h a b c =
      let long : length l ≡ 77 = omega (arith, long_found (fed l) e, length-append l (10 ∷ [])) in
      let same : h ≡ seen (line_reading (digits_in (fed l))) = b ∙ sym (ap (λ (d : List ℕ). seen (line_reading d)) (digits-fed l long)) in
      (λ i. record { satellite = (c ∙ ap (λ (x : Seen). satellite_of x.answer k) same) i; look = same i })
      ∙ ap heard_of (read_on (fed l) e (satellite_of (line_reading (digits_in (fed l))).answer k) k (line_reading (digits_in (fed l))) a refl refl)

-- what is handed back of it: a refusal alone, or the satellite with the record, and with what is seen
module _ (n : ℕ) where
  told_received : (r : Reading) → received_told (received n r) ≡ outcome r.answer (record { satellite = n; «record» = r.«record» })
  told_received r = by r.answer r.«record»
    where
      by : (v : Verdict) (x : Record) → received_told (received n (record { answer = v; «record» = x })) ≡ outcome v (record { satellite = n; «record» = x })
      by (Ok tt) x = refl
      by (Err y) x = refl

  pub received_not : (r : Reading) (x : Refusal) → outcome r.answer r.«record» ≡ Err x → received_told (received n r) ≡ Err x
  received_not r x e = told_received r ∙ ap (λ (v : Verdict). outcome v (record { satellite = n; «record» = r.«record» })) (refused_outcome r.answer r.«record» x e)

  pub received_with : (r : Reading) (x : Record) → outcome r.answer r.«record» ≡ Ok x → received_told (received n r) ≡ Ok (record { satellite = n; «record» = x })
  received_with r x e =
      let m = made_outcome r.answer r.«record» x e in
      told_received r ∙ ap (λ (v : Verdict). outcome v (record { satellite = n; «record» = r.«record» })) m.0 ∙ ap with_record (sym m.1)
    where
      with_record : Record → Result Reception Refusal
      with_record x = Ok (record { satellite = n; «record» = x })

  told_heard : (r : Reading) → heard_told (heard_of (received n r)) ≡ outcome r.answer (record { satellite = n; look = looked (seen r) })
  told_heard r = by r.answer r.«record»
    where
      by : (v : Verdict) (x : Record) → heard_told (heard_of (received n (record { answer = v; «record» = x }))) ≡ outcome v (record { satellite = n; look = looked (seen (record { answer = v; «record» = x })) })
      by (Ok tt) x = refl
      by (Err y) x = refl

  pub heard_not : (r : Reading) (x : Refusal) → look_told (seen r) ≡ Err x → heard_told (heard_of (received n r)) ≡ Err x
  heard_not r x e = told_heard r ∙ ap (λ (v : Verdict). outcome v (record { satellite = n; look = looked (seen r) })) (refused_outcome r.answer (looked (seen r)) x e)

  pub heard_with : (r : Reading) (x : Looked) → look_told (seen r) ≡ Ok x → heard_told (heard_of (received n r)) ≡ Ok (record { satellite = n; look = x })
  heard_with r x e =
      let m = made_outcome r.answer (looked (seen r)) x e in
      told_heard r ∙ ap (λ (v : Verdict). outcome v (record { satellite = n; look = looked (seen r) })) m.0 ∙ ap with_look (sym m.1)
    where
      with_look : Looked → Result Hearing Refusal
      with_look x = Ok (record { satellite = n; look = x })
