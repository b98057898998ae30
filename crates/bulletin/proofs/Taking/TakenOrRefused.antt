-- A record is taken or refused, told without the admission, which is the store's own.
use Rattle.bulletin.specs.declared.take.Took.TheVariants.{New, Same, Disputed}
use Rattle.std.specs.Prelude.{Ok, Err, Option, None, Some}
use Rattle.rows.specs.Refusals.{Verdict}
use mathlib.Core.Path.{◌≡◌, refl, ap, sym, ◌∙◌}
use mathlib.Core.Bool.{Bool, true, false, cond}
use mathlib.Core.List.{List, [], ◌∷◌}
use mathlib.Core.Logic.{◌⊎◌, inl, inr}
use Prim.Native.Nat.{ℕ, ◌-◌}
use lib.Dec.{eqb}
use Rattle.report.specs.declared.record.Record.{Record}
use Rattle.nankai.specs.declared.PageNumbers.{PageNumbers}
use Rattle.report.specs.declared.body.Body.TheVariants.{Nankai}
use Rattle.report.specs.Categories.{paged_of}
use Rattle.report.specs.Runs.Writing.{write_answer, Valid}
use Rattle.report.proofs.Categories.{paged_back}
use Rattle.rows.specs.declared.refusal.Refusal.{Refusal}
use Rattle.rows.specs.declared.refusal.Refusal.TheVariants.{NoPage, OtherBulletin, Unsound}
use Rattle.rows.specs.Faults.{Question, ◌or◌, First}
use Rattle.rows.proofs.Rules.Outcomes.{false_not_true}
use Rattle.pages.specs.Pages.{join, held_page}
use Rattle.pages.specs.Names.{same_name}
use Rattle.bulletin.specs.declared.store.Store.{Store}
use Rattle.bulletin.specs.Stores.{sound_store, page_behind}
use Rattle.bulletin.specs.Takings.{bulletin_of, number_in, page_number_in, writable, admission, taking_answer, put_page, taking, take_of, Admission, Taken}
use Rattle.bulletin.proofs.Taking.TakingOutcomes.{Admits, admits}

pub taken_or_refused : (s : Store) (r : Record) → ((k : ℕ) × Admits s r k) ⊎ ((x : Refusal) × (take_of s r ≡ record { answer = Err x; store = s }))
unfolding taking
taken_or_refused s r = by (admission s r) refl
  where
    by : (a : Admission) → admission s r ≡ a → ((k : ℕ) × Admits s r k) ⊎ ((x : Refusal) × (take_of s r ≡ record { answer = Err x; store = s }))
    by (Ok k) e = inl (k, admits s r k e)
    by (Err x) e = inr (x, ap (λ (a : Admission). taking a s r.text) e)

-- ---- the refusal, step by step as it is asked

same_admission : (x y : Refusal) → ◌≡◌ {A = Admission} (Err x) (Err y) → x ≡ y
same_admission x y e = cc

no_admission : (k : ℕ) (x : Refusal) → Ok k ≡ Err x → ⊥
no_admission k x e = cc

not_paged : (p : PageNumbers) → Some p ≡ None → ⊥
not_paged p e = cc

same_numbers : (p q : PageNumbers) → Some p ≡ Some q → p ≡ q
same_numbers p q e = cc

-- 12, 13, as they are tested
abbrev pub page_tests : Store → Record → List Question
page_tests s r =
    ((p : PageNumbers) × (r.body ≡ Nankai p)) or NoPage
    ∷ ((p : PageNumbers) × (r.body ≡ Nankai p) × (same_name (bulletin_of r.common p) s.name ≡ true)) or OtherBulletin
    ∷ []

page_refused : (s : Store) (r : Record) (x : Refusal) → page_number_in s.name r.common r.body ≡ Err x → First (page_tests s r) x ⊥
unfolding page_number_in
page_refused s r x h = by (paged_of r.body) refl h
  where
    named : PageNumbers → Bool
    named p = same_name (bulletin_of r.common p) s.name

    by : (g : Option PageNumbers) → paged_of r.body ≡ g → number_in s.name r.common g ≡ Err x → First (page_tests s r) x ⊥
    by None e h = inl (λ q. not_paged q.0 (sym (ap paged_of q.1) ∙ e), sym (same_admission NoPage x h))
    by (Some p) e h = inr ((p, paged_back r.body p e), of_another (named p) refl h)
      where
        of_another : (b : Bool) → named p ≡ b → cond b (Ok p.number) (Err OtherBulletin) ≡ Err x
            → First (((q : PageNumbers) × (r.body ≡ Nankai q) × (named q ≡ true)) or OtherBulletin ∷ []) x ⊥
        of_another true f h = absurd (no_admission p.number x h)
        of_another false f h =
            inl (λ q. false_not_true (sym f ∙ ap named (same_numbers p q.0 (sym e ∙ ap paged_of q.1)) ∙ q.2), sym (same_admission OtherBulletin x h))

-- 14, then what writing refuses, then those
abbrev pub TakingSteps : Store → Record → Refusal → Type 0
TakingSteps s r x = First ((sound_store s ≡ true) or Unsound ∷ []) x ((write_answer r 32 ≡ Err x) ⊎ (Valid r × First (page_tests s r) x ⊥))

not_admitted : (s : Store) (r : Record) (x : Refusal) → admission s r ≡ Err x → TakingSteps s r x
unfolding admission
not_admitted s r x h = by (sound_store s) refl (write_answer r 32) refl h
  where
    by : (b : Bool) → sound_store s ≡ b → (v : Verdict) → write_answer r 32 ≡ v
        → cond b (writable v (page_number_in s.name r.common r.body)) (Err Unsound) ≡ Err x → TakingSteps s r x
    by false e v f h = inl (λ q. false_not_true (sym e ∙ q), sym (same_admission Unsound x h))
    by true e (Ok tt) f h = inr (e, inr (f, page_refused s r x h))
    by true e (Err y) f h = inr (e, inl (f ∙ ap Err (same_admission y x h)))

-- a page that is put answers one of the three
pub put_answer : (s : Store) (k : ℕ) (t : List ℕ) (x : Refusal) → (put_page s k t).answer ≡ Err x → ⊥
unfolding put_page taking_answer
put_answer s k t x = by (eqb (page_behind s k).mark 0) (eqb (join (page_behind s k) (held_page t)).mark 1)
  where
    by : (a b : Bool) → cond a (Ok New) (cond b (Ok Same) (Ok Disputed)) ≡ Err x → ⊥
    by true b e = cc
    by false true e = cc
    by false false e = cc

pub taking_steps : (s : Store) (r : Record) (x : Refusal) → (take_of s r).answer ≡ Err x → TakingSteps s r x
unfolding taking
taking_steps s r x h = by (admission s r) refl h
  where
    same : (y : Refusal) → ◌≡◌ {A = Taken} (Err y) (Err x) → y ≡ x
    same y e = cc

    by : (a : Admission) → admission s r ≡ a → (taking a s r.text).answer ≡ Err x → TakingSteps s r x
    by (Ok k) e h = absurd (put_answer s (k - 1) r.text x h)
    by (Err y) e h = not_admitted s r x (e ∙ ap Err (same y h))
