-- A store that any history has come to is the one that the history's frames give.
use Rattle.std.specs.Prelude.{Ok, Err}
use Rattle.rows.specs.Refusals.{Verdict}
use mathlib.Core.Path.{◌≡◌, refl, ap, sym, ◌∙◌, subst}
use mathlib.Core.Bool.{Bool, true, false}
use mathlib.Core.List.{List, [], ◌∷◌, ◌++◌}
use Rattle.rows.proofs.Rules.Outcomes.{false_not_true}
use Rattle.pages.specs.declared.name.Name.{Name}
use Rattle.bulletin.specs.declared.store.Store.{Store}
use Rattle.pages.specs.Names.{same_name}
use Rattle.bulletin.specs.Stores.{sound_store, ShapedStore}
use Rattle.bulletin.specs.Takings.{take_of}
use Rattle.bulletin.specs.Merges.{merge_verdict, joined_stores, merging, merge_of, Merging}
use Rattle.histories.specs.Soundness.{InRange, Sound}
use mathlib.Core.Logic.{◌⊎◌, inl, inr, ⊎_elim}
use Prim.Native.Nat.{ℕ, ◌≤◌}
use Rattle.report.specs.declared.record.Record.{Record}
use Rattle.pages.specs.Pages.{held_page, disputed_page}
use Rattle.histories.specs.Frames.{Frame, takes, store_after, page_numbered, Among, Came}
use Rattle.histories.proofs.Frames.PageStates.{held_on, disputed_on}
use Rattle.histories.specs.Histories.{History, opened, took, merged, met, refused, history_store, frames_of, GoesOn, there, taking, merging as merging-on, meeting, refusing}
use Rattle.histories.proofs.Soundness.Tested.{tested_sound, sound_tested}
use Rattle.histories.proofs.Frames.TextsBrought.{same_name_lem, name_same}
use Rattle.histories.proofs.Histories.Merges.{merge_answered, after_sound, after_name, joined-after, merge_after}
use Rattle.histories.proofs.Histories.FramesForAStore.{sound_given, after-shaped}

pub takes_append : (s : Store) (a b : List Frame) → takes s (a ++ b) ≡ takes (takes s a) b
takes_append s [] b = refl
takes_append s (f ∷ a) b = takes_append (take_of s f.came).store a b

-- a store that is not sound, or of another bulletin, is not merged: the first stays
merge_refused : (a b : Store) → (Sound b → b.name ≡ a.name → ⊥) → (merge_of a b).store ≡ a
merge_refused a b none = by (merge_verdict a b) refl
  where
    by : (v : Verdict) → merge_verdict a b ≡ v → (merging v a b).store ≡ a
    by (Err x) e = refl
    by (Ok tt) e = let parts = ((merge_answered a b).fine e).0 in absurd (none parts.1.0 (sym parts.1.1.0))

-- what two sound stores of one bulletin give has the shape of a store of the code
pub joined-shaped : (a b : Store) → Sound a → Sound b → ShapedStore a → ShapedStore b → a.name ≡ b.name → ShapedStore (joined_stores a b)
joined-shaped a b p q x y e =
    let f = sound_given a p x in
    let g = sound_given b q y in
    let both : joined_stores a b ≡ store_after b.name (f.0 ++ g.0) = (λ j. joined_stores ((f.2 ∙ ap (λ (n : Name). store_after n f.0) e) j) (g.2 j)) ∙ joined-after b.name q.name f.0 g.0 in
    subst ShapedStore (sym both) (after-shaped b.name q.name (f.0 ++ g.0))

module _ (n : Name) (range : InRange n) where
  pub history_after : (h : History n) → history_store h ≡ store_after n (frames_of h)
  history_after opened = refl
  history_after (took h f) = ap (λ (s : Store). (take_of s f.came).store) (history_after h) ∙ sym (takes_append _ (frames_of h) (f ∷ []))
  history_after (merged h k) =
      (λ j. (merge_of (history_after h j) (history_after k j)).store) ∙ ap (λ (m : Merging). m.store) (merge_after n range (frames_of h) (frames_of k))
  history_after (met h s frames e) =
      (λ j. (merge_of (history_after h j) (e j)).store) ∙ ap (λ (m : Merging). m.store) (merge_after n range (frames_of h) frames)
  history_after (refused h s none) =
      ap (λ (x : Store). (merge_of x s).store) (history_after h)
      ∙ merge_refused (store_after n (frames_of h)) s (λ p e. none p (e ∙ after_name n range (frames_of h)))

  pub history_sound : (h : History n) → Sound (history_store h)
  history_sound h = subst Sound (sym (history_after h)) (after_sound n range (frames_of h))

  pub history_shaped : (h : History n) → ShapedStore (history_store h)
  history_shaped h = subst ShapedStore (sym (history_after h)) (after-shaped n range (frames_of h))

  -- whatever store it is merged with, that is a history too
  pub any_store : (h : History n) (s : Store) → ShapedStore s → (k : History n) × (history_store k ≡ (merge_of (history_store h) s).store)
  any_store h s shape = by (sound_store s) refl (same_name s.name n) refl
    where
      by : (a : Bool) → sound_store s ≡ a → (b : Bool) → same_name s.name n ≡ b → (k : History n) × (history_store k ≡ (merge_of (history_store h) s).store)
      by false e b f = (refused h s (λ p q. false_not_true (sym e ∙ sound_tested s p)), refl)
      by true e false f = (refused h s (λ p q. false_not_true (sym f ∙ ap (λ (x : Name). same_name x n) q ∙ name_same n)), refl)
      by true e true f =
          let g = sound_given s (tested_sound s e) shape in
          (met h s g.0 (g.2 ∙ ap (λ (x : Name). store_after x g.0) (same_name_lem s.name n f)), refl)

  -- ---- a history that goes on has the frames of the first among its own

  among_first : (r : Record) (a b : List Frame) → Among r a → Among r (a ++ b)
  among_first r [] b h = absurd h
  among_first r (f ∷ a) b h = ⊎_elim (λ e. inl e) (λ k. inr (among_first r a b k)) h

  came_on : (h : History n) {k : History n} → GoesOn h k → (p : ℕ) (t : List ℕ) → Came n (frames_of h) p t → Came n (frames_of k) p t
  came_on h there p t c = c
  came_on h (taking {k} f g) p t c = let d = came_on h g p t c in (d.0, among_first d.0 (frames_of k) (f ∷ []) d.1, d.2)
  came_on h (merging-on {k} m g) p t c = let d = came_on h g p t c in (d.0, among_first d.0 (frames_of k) (frames_of m) d.1, d.2)
  came_on h (meeting {k} s frames e g) p t c = let d = came_on h g p t c in (d.0, among_first d.0 (frames_of k) frames d.1, d.2)
  came_on h (refusing s e g) p t c = came_on h g p t c

  pub held_from_then_on : (h k : History n) → GoesOn h k → (p : ℕ) (t : List ℕ) → 1 ≤ p → p ≤ n.total → page_numbered (history_store h) p ≡ held_page t
      → (page_numbered (history_store k) p ≡ held_page t) ⊎ (page_numbered (history_store k) p ≡ disputed_page)
  held_from_then_on h k g p t low high e =
      subst (λ (s : Store). (page_numbered s p ≡ held_page t) ⊎ (page_numbered s p ≡ disputed_page)) (sym (history_after k))
      (held_on n (frames_of h) (frames_of k) p t range (came_on h g p) low high (ap (λ (s : Store). page_numbered s p) (sym (history_after h)) ∙ e))

  pub disputed_from_then_on : (h k : History n) → GoesOn h k → (p : ℕ) → 1 ≤ p → p ≤ n.total → page_numbered (history_store h) p ≡ disputed_page
      → page_numbered (history_store k) p ≡ disputed_page
  disputed_from_then_on h k g p low high e =
      ap (λ (s : Store). page_numbered s p) (history_after k)
      ∙ disputed_on n (frames_of h) (frames_of k) p range (came_on h g p) low high (ap (λ (s : Store). page_numbered s p) (sym (history_after h)) ∙ e)
