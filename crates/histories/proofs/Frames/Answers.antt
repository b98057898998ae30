-- What a taking answers, from the frames taken before.
use Rattle.bulletin.specs.declared.take.Took.TheVariants.{New, Same, Disputed as AnswersDisputed}
use Rattle.std.specs.Prelude.{Ok, Err}
use mathlib.Core.Path.{◌≡◌, refl, ap, sym, ◌∙◌, subst}
use mathlib.Core.List.{List}
use mathlib.Core.Logic.{⊎_elim}
use Prim.Native.Nat.{ℕ, ◌-◌}
use Rattle.rows.specs.declared.refusal.Refusal.{Refusal}
use Rattle.report.specs.declared.record.Record.{Record}
use Rattle.pages.specs.declared.page.Page.{Page}
use Rattle.pages.specs.declared.name.Name.{Name}
use Rattle.bulletin.specs.declared.store.Store.{Store}
use Rattle.pages.specs.Pages.{join, held_page}
use Rattle.bulletin.specs.Stores.{page_behind}
use Rattle.bulletin.specs.Takings.{taking_answer, put_page, take_of, Taking}
use Rattle.bulletin.proofs.Taking.TakenOrRefused.{taken_or_refused, put_answer}
use Rattle.pages.proofs.States.{Text, Mark, absent, held, disputed, to_page, join_marks, join_to}
use Rattle.rows.proofs.Rules.Tests.{eq_same, ne_same}
use Rattle.histories.specs.Soundness.{InRange, Sound}
use Rattle.histories.specs.Frames.{Frame, store_after, Brings, Came, Absent, Held, Disputed}
use Rattle.histories.proofs.Soundness.Tested.{sound_tested}
use Rattle.histories.proofs.Frames.TextsBrought.{admits_brings, brings_taken, brings_page}
use Rattle.histories.proofs.Histories.Merges.{after_sound, after_name}
use Rattle.histories.proofs.Frames.PageStates.{Tells, mark_for, tells, page_told}

-- ---- taken or refused

pub taken_brings : (s : Store) (r : Record) → ((x : Refusal) → (take_of s r).answer ≡ Err x → ⊥) → (p : ℕ) × Brings s.name r p r.text
taken_brings s r h =
    ⊎_elim
    (λ a. (a.0, admits_brings s r a.0 a.1))
    (λ x. absurd (h x.0 (ap (λ (t : Taking). t.answer) x.1)))
    (taken_or_refused s r)

pub brings_not_refused : (s : Store) (r : Record) (p : ℕ) (t : Text) → Sound s → Brings s.name r p t → (x : Refusal) → (take_of s r).answer ≡ Err x → ⊥
brings_not_refused s r p t h b x e =
    put_answer s (p - 1) r.text x (sym (ap (λ (z : Taking). z.answer) (brings_taken s r p t (sound_tested s h) b)) ∙ e)

-- ---- new, same, disputed

put_told : (s : Store) (i : ℕ) (t : Text) (m : Mark) → page_behind s i ≡ to_page m → (put_page s i t).answer ≡ taking_answer (to_page m) (to_page (join_marks m (held t)))
unfolding put_page
put_told s i t m e = ap (λ (p : Page). taking_answer p (join p (held_page t))) e ∙ ap (λ (p : Page). taking_answer (to_page m) p) (join_to m (held t))

told_absent : (t : Text) → taking_answer (to_page absent) (to_page (join_marks absent (held t))) ≡ (Ok New)
unfolding taking_answer
told_absent t = refl

told_same : (t : Text) → taking_answer (to_page (held t)) (to_page (join_marks (held t) (held t))) ≡ (Ok Same)
unfolding taking_answer
told_same t = rw (eq_same t t refl)

told_other : (u t : Text) → (u ≡ t → ⊥) → taking_answer (to_page (held u)) (to_page (join_marks (held u) (held t))) ≡ (Ok AnswersDisputed)
unfolding taking_answer
told_other u t n = rw (ne_same u t n)

told_disputed : (t : Text) → taking_answer (to_page disputed) (to_page (join_marks disputed (held t))) ≡ (Ok AnswersDisputed)
unfolding taking_answer
told_disputed t = refl

module _ (n : Name) (range : InRange n) (fs : List Frame) (f : Frame) (p : ℕ) (t : Text) (b : Brings n f.came p t) where
  answer : (m : Mark) → Tells n range fs p m → (take_of (store_after n fs) f.came).answer ≡ taking_answer (to_page m) (to_page (join_marks m (held t)))
  answer m h =
      let s = store_after n fs in
      let fits = brings_page n f p t b in
      let here : Brings s.name f.came p t = subst (λ (x : Name). Brings x f.came p t) (sym (after_name n range fs)) b in
      ap (λ (z : Taking). z.answer) (brings_taken s f.came p t (sound_tested s (after_sound n range fs)) here)
      ∙ ap (λ (x : Text). (put_page s (p - 1) x).answer) b.text
      ∙ put_told s (p - 1) t m (page_told n range fs p m fits.0 fits.1 h)

  pub answers_new : Absent n fs p → (take_of (store_after n fs) f.came).answer ≡ (Ok New)
  answers_new h = answer absent h ∙ told_absent t

  pub answers_same : Held n fs p t → (take_of (store_after n fs) f.came).answer ≡ (Ok Same)
  answers_same h = answer (held t) h ∙ told_same t

  pub answers_still_disputed : Disputed n fs p → (take_of (store_after n fs) f.came).answer ≡ (Ok AnswersDisputed)
  answers_still_disputed h = answer disputed h ∙ told_disputed t

  pub answers_disputed : (u : Text) → Came n fs p u → (u ≡ t → ⊥) → (take_of (store_after n fs) f.came).answer ≡ (Ok AnswersDisputed)
  answers_disputed u c differ = by (mark_for n range fs p) (tells n range fs p)
    where
      by : (m : Mark) → Tells n range fs p m → (take_of (store_after n fs) f.came).answer ≡ (Ok AnswersDisputed)
      by absent h = absurd (h u c)
      by (held v) h = answer (held v) h ∙ told_other v t (λ e. differ (h.alone u c ∙ e))
      by disputed h = answer disputed h ∙ told_disputed t
