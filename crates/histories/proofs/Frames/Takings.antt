-- What a store stands for after takings: the marks of the texts that came.
use mathlib.Core.Path.{◌≡◌, refl, ap, sym, ◌∙◌, subst}
use mathlib.Core.Bool.{Bool, true, false, cond}
use mathlib.Core.List.{List, [], ◌∷◌}
use mathlib.Core.Logic.{inl, inr, ⊎_elim}
use Prim.Native.Nat.{ℕ, suc, ◌-◌, ◌<◌, ◌≤◌}
use native.Mathlib.Omega.{arith}
use lib.ListN.{get_or, set, length-set}
use lib.Seq.{get_or-set_same, get_or-set_other}
use lib.Dec.{eqb}
use borrow.Author.Tests.{eqb-true, eqb-false, ne_eqb}
use Rattle.report.specs.declared.record.Record.{Record}
use Rattle.pages.specs.declared.page.Page.{Page}
use Rattle.pages.specs.declared.name.Name.{Name}
use Rattle.bulletin.specs.declared.store.Store.{Store}
use Rattle.pages.specs.Pages.{no_page, join, held_page}
use Rattle.bulletin.specs.Stores.{no_pages, open_of, page_behind, Opening}
use Rattle.bulletin.specs.Takings.{put_page, take_of, Taking}
use Rattle.bulletin.proofs.Taking.TakenOrRefused.{taken_or_refused}
use Rattle.bulletin.proofs.Claims.{every_name_in_range_is_opened}
use Rattle.pages.proofs.States.{Text, Mark, absent, held, to_page, join_marks, join_to, join_marks_none, join_marks_assoc, mark_of, mark_of_append}
use Rattle.histories.specs.Soundness.{InRange}
use Rattle.histories.specs.Frames.{Frame, takes, store_after, Brings}
use Rattle.histories.proofs.Soundness.KeptRules.{total_in_range}
use Rattle.histories.proofs.Soundness.NameRanges.{in_range_fine}
use Rattle.histories.proofs.Soundness.Tested.{sound_tested}
use Rattle.histories.proofs.Frames.StoreStates.{Stands, stands_for, stands_sound, opened_stands}
use Rattle.histories.proofs.Frames.TextsBrought.{Page?, page?, brought_by, brought, texts, admits_brings, brings_taken, brings_page}

-- ---- one page is put

pub put_stands : (s : Store) (n : Name) (m : ℕ → Mark) (k : ℕ) (t : Text) → Stands s n m → 1 ≤ k → k ≤ n.total → n.total ≤ 63
    → Stands (put_page s (k - 1) t).store n (λ i. join_marks (m i) (mark_of (cond (eqb k (suc i)) (t ∷ []) [])))
unfolding put_page
put_stands s n m k t p low high most = record {
  name = p.name;
  long = length-set s.pages (k - 1) _ ∙ p.long;
  page = λ i h. by i h (eqb k (suc i)) refl;
  past = λ i l. ap (λ (b : Bool). join_marks (m i) (mark_of (cond b (t ∷ []) []))) (ne_eqb k (suc i) (λ e. omega arith)) ∙ join_marks_none (m i) ∙ p.past i l;
}
  where
    after_put : List Page
    after_put = set s.pages (k - 1) (join (page_behind s (k - 1)) (held_page t))

    by : (i : ℕ) → i < 63 → (b : Bool) → eqb k (suc i) ≡ b → get_or after_put i no_page ≡ to_page (join_marks (m i) (mark_of (cond b (t ∷ []) [])))
    by i h true e =
        let same : k - 1 ≡ i = omega (arith, eqb-true k (suc i) e) in
        ap (λ (j : ℕ). get_or (set s.pages j (join (page_behind s j) (held_page t))) i no_page) same
        ∙ get_or-set_same s.pages i (join (page_behind s i) (held_page t)) no_page (omega (arith, p.long))
        ∙ ap (λ (q : Page). join q (held_page t)) (p.page i h)
        ∙ join_to (m i) (held t)
    by i h false e =
        get_or-set_other s.pages (k - 1) i _ no_page (λ z. eqb-false k (suc i) e (omega (arith, z)))
        ∙ p.page i h
        ∙ ap to_page (sym (join_marks_none (m i)))

-- ---- a taking

not_taken : (s : Store) (n : Name) (r : Record) → s.name ≡ n → ((k : ℕ) (t : Text) → Brings n r k t → ⊥) → (take_of s r).store ≡ s
not_taken s n r e none =
    ⊎_elim
    (λ a. absurd (none a.0 r.text (subst (λ (x : Name). Brings x r a.0 r.text) e (admits_brings s r a.0 a.1))))
    (λ x. ap (λ (z : Taking). z.store) x.1)
    (taken_or_refused s r)

module _ (n : Name) (range : InRange n) where
  taking_stands : (s : Store) (m : ℕ → Mark) (f : Frame) → Stands s n m → (d : Page? n f.came)
      → Stands (take_of s f.came).store n (λ i. join_marks (m i) (mark_of (brought_by d (suc i) f.came.text)))
  taking_stands s m f p (inl a) =
      let here : Brings s.name f.came a.0 f.came.text = subst (λ (x : Name). Brings x f.came a.0 f.came.text) (sym p.name) a.1 in
      let fits = brings_page n f a.0 f.came.text a.1 in
      let taken : take_of s f.came ≡ put_page s (a.0 - 1) f.came.text = brings_taken s f.came a.0 f.came.text (sound_tested s (stands_sound s n m range p)) here in
      subst (λ (z : Taking). Stands z.store n (λ i. join_marks (m i) (mark_of (cond (eqb a.0 (suc i)) (f.came.text ∷ []) [])))) (sym taken)
      (put_stands s n m a.0 f.came.text p fits.0 fits.1 (total_in_range n range).1)
  taking_stands s m f p (inr none) =
      subst (λ (z : Store). Stands z n (λ i. join_marks (m i) absent)) (sym (not_taken s n f.came p.name none))
      (stands_for s n m (λ i. join_marks (m i) absent) p (λ i. sym (join_marks_none (m i))))

  -- ---- takings

  pub takes_stands : (s : Store) (m : ℕ → Mark) (fs : List Frame) → Stands s n m
      → Stands (takes s fs) n (λ i. join_marks (m i) (mark_of (texts n range (suc i) fs)))
  takes_stands s m [] p = stands_for s n m (λ i. join_marks (m i) absent) p (λ i. sym (join_marks_none (m i)))
  takes_stands s m (f ∷ fs) p =
      let one : ℕ → List Text = λ i. brought n range (suc i) f.came in
      stands_for (takes (take_of s f.came).store fs) n _ _
      (takes_stands (take_of s f.came).store (λ i. join_marks (m i) (mark_of (one i))) fs (taking_stands s m f p (page? n f.came range)))
      (λ i. join_marks_assoc (m i) (mark_of (one i)) (mark_of (texts n range (suc i) fs)) ∙ ap (join_marks (m i)) (sym (mark_of_append (one i) (texts n range (suc i) fs))))

  pub opened-empty : (open_of n).store ≡ no_pages n
  opened-empty = ap (λ (o : Opening). o.store) (every_name_in_range_is_opened n (in_range_fine n range))

  -- the page behind i others stands for the texts that the frames brought for it
  pub after_stands : (fs : List Frame) → Stands (store_after n fs) n (λ i. mark_of (texts n range (suc i) fs))
  after_stands fs =
      subst (λ (s : Store). Stands (takes s fs) n (λ i. mark_of (texts n range (suc i) fs))) (sym opened-empty)
      (takes_stands (no_pages n) (λ i. absent) fs (opened_stands n))
