-- What opening, merging and the report answer, and why.
use Rattle.std.specs.Prelude.{Ok, Err}
use Rattle.rows.specs.Refusals.{Verdict}
use mathlib.Core.Path.{◌≡◌, refl, ap}
use mathlib.Core.Bool.{Bool, true, false}
use mathlib.Core.Logic.{◌↔◌}
use Rattle.rows.specs.declared.refusal.Refusal.{Refusal}
use Rattle.rows.specs.declared.refusal.Refusal.TheVariants.{Unsound}
use Rattle.rows.specs.Runs.Questions.{unless}
use Rattle.rows.specs.Faults.{Met}
use Rattle.rows.proofs.Rules.Ordered.{Answers, last_question, met_exactly, first_not_met}
use Rattle.pages.specs.declared.name.Name.{Name}
use Rattle.pages.specs.Names.{name_verdict}
use Rattle.bulletin.specs.declared.store.Store.{Store}
use Rattle.bulletin.specs.Stores.{opening, open_of, sound_store}
use Rattle.bulletin.specs.Merges.{merge_verdict, merging, merge_of}
use Rattle.bulletin.specs.Counts.{count_of, Counted}
use Rattle.histories.specs.Soundness.{InRange, open_questions, Sound}
use Rattle.histories.specs.Reasons.{WhyNotOpened, merge_questions, WhyNotMerged, report_questions, WhyNotReported}
use Rattle.histories.proofs.Soundness.NameRanges.{name_answered}
use Rattle.histories.proofs.Soundness.Tested.{tested_sound, sound_tested}
use Rattle.histories.proofs.Histories.Merges.{merge_answered}
use Rattle.histories.proofs.Reports.Reported.{refused_count, count_by}

-- ---- opening

opening_answer : (v : Verdict) (n : Name) → (opening v n).answer ≡ v
opening_answer (Ok tt) n = refl
opening_answer (Err x) n = refl

open_answered : (n : Name) → Answers (open_of n).answer (open_questions n) (Ok tt)
open_answered n = rw (opening_answer (name_verdict n) n) (name_answered n)

pub open_exactly : (n : Name) → (open_of n).answer ≡ (Ok tt) ↔ InRange n
open_exactly n = met_exactly (open_answered n)

pub open_reason : (n : Name) (x : Refusal) → (open_of n).answer ≡ Err x → WhyNotOpened n x
open_reason n = first_not_met (open_answered n)

-- ---- merging

merging_answer : (v : Verdict) (a b : Store) → (merging v a b).answer ≡ v
merging_answer (Ok tt) a b = refl
merging_answer (Err x) a b = refl

answered_merge : (a b : Store) → Answers (merge_of a b).answer (merge_questions a b) (Ok tt)
answered_merge a b = rw (merging_answer (merge_verdict a b) a b) (merge_answered a b)

pub merge_exactly : (a b : Store) → (merge_of a b).answer ≡ (Ok tt) ↔ Met (merge_questions a b)
merge_exactly a b = met_exactly (answered_merge a b)

pub merge_reason : (a b : Store) (x : Refusal) → (merge_of a b).answer ≡ Err x → WhyNotMerged a b x
merge_reason a b = first_not_met (answered_merge a b)

-- ---- the report

count_answer_lem : (s : Store) → (count_of s).answer ≡ unless (sound_store s) Unsound
count_answer_lem s = by (sound_store s) refl
  where
    by : (b : Bool) → sound_store s ≡ b → (count_of s).answer ≡ unless b Unsound
    by true e = ap (λ (c : Counted). c.answer) (count_by s true e)
    by false e = ap (λ (c : Counted). c.answer) (count_by s false e)

report_answered : (s : Store) → Answers (count_of s).answer (report_questions s) (Ok tt)
report_answered s = rw (count_answer_lem s) (last_question (sound_store s) (Sound s) Unsound (tested_sound s) (sound_tested s))

pub report_exactly : (s : Store) → (count_of s).answer ≡ (Ok tt) ↔ Sound s
report_exactly s = let e = met_exactly (report_answered s) in (λ h. (e.0 h).0, λ h. e.1 (h, tt))

pub report_reason : (s : Store) (x : Refusal) → (count_of s).answer ≡ Err x → WhyNotReported s x
report_reason s = first_not_met (report_answered s)

pub unsound_reported : (s : Store) → (Sound s → ⊥) → count_of s ≡ refused_count
unsound_reported s n = by (sound_store s) refl
  where
    by : (b : Bool) → sound_store s ≡ b → count_of s ≡ refused_count
    by true e = absurd (n (tested_sound s e))
    by false e = count_by s false e
