-- The three ways out of reading and of looking, and what each of them says.
use Rattle.std.specs.Prelude.{Result, Ok, Err}
use Rattle.std.specs.Result.{result_unwrap_or}
use mathlib.Core.Path.{◌≡◌, refl, sym, ap, ◌∙◌}
use Prim.Native.Nat.{ℕ}
use mathlib.Core.List.{List}
use lib.ListN.{length}
use borrow.Author.Tests.{eqb-true}
use lib.Dec.{eqb}
use Rattle.rows.proofs.Rules.Outcomes.{fine_both, made_outcome, refused_outcome, unless_fine}
use Rattle.report.proofs.Reading.Agree.{content_agrees}
use Rattle.bits.specs.Frame.{frame_in}
use Rattle.bits.proofs.Inside.{frame_lent}
use Rattle.rows.specs.declared.refusal.Refusal.{Refusal}
use Rattle.rows.specs.declared.refusal.Refusal.TheVariants.{Length}
use Rattle.report.specs.declared.record.Record.{Record}
use Rattle.rows.specs.Refusals.{outcome, Verdict}
use Rattle.rows.specs.Runs.Questions.{◌then◌, unless}
use Rattle.report.specs.Records.{body_of, record_as, record_of, zeros}
use Rattle.report.specs.declared.body.Content.{Content}
use Rattle.report.specs.declared.look.Looked.{Looked}
use Rattle.report.specs.Meaning.{used_of}
use Rattle.rows.specs.Runs.Verdict.{empty}
use Rattle.slots.specs.Slots.{used_among}
use Rattle.report.specs.Runs.Reading.{outer_of, content_answer, content_as, found_as, look_at, look_told, looked, not_seen, nothing_looked, read_answer, read_of, reading, seen, unread}

-- a lent slice of 32 bytes is the frame that it holds
pub frame_known : (s : List ℕ) → unless (eqb (length s) 32) Length ≡ Ok tt → frame_in s ≡ s
frame_known s e = frame_lent s (eqb-true (length s) 32 (unless_fine _ Length e))

-- so is one that is read
pub read_frame : (s : List ℕ) → read_answer s ≡ Ok tt → frame_in s ≡ s
read_frame s e = frame_known s (fine_both (unless (eqb (length s) 32) Length) _ e).0

-- what is read of a frame behind 1
pub answered_frame : (s : List ℕ) → unless (eqb (length s) 32) Length ≡ Ok tt → read_answer s ≡ outer_of s then content_answer s
answered_frame s e = ap (λ (v : Verdict). v then outer_of s then content_answer s) e

-- where 1 to 6 are passed, what the category's rules find is the answer
pub answered_inside : (s : List ℕ) → unless (eqb (length s) 32) Length ≡ Ok tt → outer_of s ≡ Ok tt → read_answer s ≡ found_as s (body_of s)
answered_inside s e o = answered_frame s e ∙ ap (λ (v : Verdict). v then content_answer s) o ∙ sym (content_agrees s o)

-- ---- what is handed back

-- the record, by what was found
pub read_told : (v : Verdict) (r : Record) → outcome (reading v r).answer (reading v r).«record» ≡ outcome v r
read_told (Ok tt) r = refl
read_told (Err x) r = refl

-- the record is what is handed back, with zeros in place of a refusal
pub record_or_zeros : (v : Verdict) (r : Record) (t : Result Record Refusal) → t ≡ outcome (reading v r).answer (reading v r).«record» → result_unwrap_or t zeros ≡ (reading v r).«record»
record_or_zeros (Ok tt) r t e = ap (λ (x : Result Record Refusal). result_unwrap_or x zeros) e
record_or_zeros (Err y) r t e = ap (λ (x : Result Record Refusal). result_unwrap_or x zeros) e

-- and so is what is seen
pub look_or_zeros : (v : Verdict) (r : Record) (t : Result Looked Refusal) → t ≡ look_told (seen (reading v r)) → result_unwrap_or t nothing_looked ≡ looked (seen (reading v r))
unfolding used_of used_among empty zeros
look_or_zeros (Ok tt) r t e = ap (λ (x : Result Looked Refusal). result_unwrap_or x nothing_looked) e
look_or_zeros (Err y) r t e = ap (λ (x : Result Looked Refusal). result_unwrap_or x nothing_looked) e

abbrev look_of : Content → Result Looked Refusal
look_of x = Ok (look_at x.body x.slots)

-- what is seen, by what was found
pub look_seen : (v : Verdict) (r : Record) → look_told (seen (reading v r)) ≡ outcome v (look_at r.body r.slots)
unfolding used_among used_of
look_seen (Ok tt) r = refl
look_seen (Err x) r = refl

-- what a look hands back of what stands in a frame
pub look_made : (s : List ℕ) (x : Content) → outcome (read_answer s) (content_as s (body_of s)) ≡ Ok x → look_told (seen (read_of s)) ≡ Ok (look_at x.body x.slots)
unfolding record_as
look_made s x e =
    let made = made_outcome (read_answer s) (content_as s (body_of s)) x e in
    look_seen (read_answer s) (record_of s) ∙ ap (λ (v : Verdict). outcome v (look_at (body_of s) (content_as s (body_of s)).slots)) made.0 ∙ ap (λ (c : Content). look_of c) (sym made.1)

-- a refused one hands back the refusal
pub look_refused : (s : List ℕ) (x : Refusal) → outcome (read_answer s) (content_as s (body_of s)) ≡ Err x → look_told (seen (read_of s)) ≡ Err x
look_refused s x e = ap (λ (v : Verdict). look_told (seen (reading v (record_of s)))) (refused_outcome (read_answer s) (content_as s (body_of s)) x e)

-- nothing is seen of a frame that is refused
pub nothing_seen : (v : Verdict) → not_seen v ≡ seen (unread v)
unfolding used_of used_among empty zeros
nothing_seen v = refl

-- the answer that is handed out is the one that was found, with either record
pub answer_found : (v : Verdict) (r : Record) → (reading v r).answer ≡ v
answer_found (Ok tt) r = refl
answer_found (Err x) r = refl
