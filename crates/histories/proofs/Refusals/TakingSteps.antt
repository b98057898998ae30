-- What a taking is refused for, step by step, and that nothing else is.
use Rattle.std.specs.Prelude.{Err}
use mathlib.Core.Path.{◌≡◌, ap, sym, ◌∙◌}
use mathlib.Core.Logic.{◌↔◌, inl, inr, ⊎_elim}
use Prim.Native.Nat.{◌-◌}
use Rattle.rows.specs.declared.refusal.Refusal.{Refusal}
use Rattle.rows.specs.Faults.{First, Met}
use Rattle.report.specs.declared.record.Record.{Record}
use Rattle.report.specs.Runs.Writing.{Valid}
use Rattle.bulletin.specs.declared.store.Store.{Store}
use Rattle.bulletin.specs.Takings.{take_of, Taking}
use Rattle.bulletin.proofs.Claims.{a_sound_store_takes_every_page}
use Rattle.bulletin.proofs.Taking.TakenOrRefused.{taken_or_refused, put_answer, page_tests, taking_steps}
use Rattle.histories.specs.Soundness.{Sound}
use Rattle.histories.specs.Reasons.{page_questions, WhyNotTaken}
use Rattle.histories.proofs.Soundness.Tested.{tested_sound, sound_tested}
use Rattle.histories.proofs.Frames.TextsBrought.{same_name_lem, named_same}

pub take_reason : (s : Store) (r : Record) (x : Refusal) → (take_of s r).answer ≡ Err x → WhyNotTaken s r x
take_reason s r x e =
    ⊎_elim
    (λ u. inl (λ h. u.0 (sound_tested s h), u.1))
    (λ u. inr (tested_sound s u.0, ⊎_elim (λ w. inl w) (λ w. inr (w.0, pages w.1)) u.1))
    (taking_steps s r x e)
  where
    pages : First (page_tests s r) x ⊥ → First (page_questions s.name r) x ⊥
    pages f =
        ⊎_elim
        (λ u. inl u)
        (λ u. inr (u.0, ⊎_elim (λ w. inl (λ q. w.0 (q.0, q.1, named_same _ _ q.2), w.1)) (λ w. absurd w.1) u.1))
        f

pub take_exactly : (s : Store) (r : Record) → ((x : Refusal) → (take_of s r).answer ≡ Err x → ⊥) ↔ (Sound s × Valid r × Met (page_questions s.name r))
take_exactly s r = (
  λ h.
      ⊎_elim
      (λ k. let a = k.1 in (tested_sound s a.sound, a.valid, ((a.page, a.is), ((a.page, a.is, same_name_lem _ _ a.same), tt))))
      (λ u. absurd (h u.0 (ap (λ (t : Taking). t.answer) u.1)))
      (taken_or_refused s r),
  λ h x e.
      let q = h.2.1.0 in
      let taken = a_sound_store_takes_every_page s r q.0 (sound_tested s h.0) h.1 q.1 (named_same _ _ q.2) in
      put_answer s (q.0.number - 1) r.text x (sym (ap (λ (t : Taking). t.answer) taken) ∙ e),
)
