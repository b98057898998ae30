-- Every sound store is one that some list of frames gives.
use mathlib.Core.Path.{◌≡◌, refl, ap, sym, ◌∙◌, subst}
use mathlib.Core.Bool.{Bool, true, false, cond}
use mathlib.Core.List.{List, [], ◌∷◌, ◌++◌}
use mathlib.Core.Logic.{◌⊎◌, inl, inr, ⊎_elim}
use Prim.Native.Nat.{ℕ, zero, suc, ◌<◌, ◌≤◌}
use native.Mathlib.Omega.{arith}
use lib.ListN.{get_or, replicate, get_or-eq_default}
use lib.Dec.{eqb}
use borrow.Author.Tests.{eq-eqb, ne_eqb}
use Rattle.report.specs.declared.record.Record.{Record}
use Rattle.pages.specs.declared.page.Page.{Page}
use Rattle.pages.specs.declared.name.Name.{Name}
use Rattle.bulletin.specs.declared.store.Store.{Store}
use Rattle.pages.specs.Pages.{no_page, no_text, Shaped}
use Rattle.bulletin.specs.Stores.{page_behind, ShapedStore}
use Rattle.pages.proofs.States.{Text, Mark, absent, held, disputed, to_page, join_marks, join_marks_none, mark_of, mark_of_append}
use Rattle.rows.proofs.Rules.Tests.{below?, ne_same}
use Rattle.histories.specs.Soundness.{InRange, Sound}
use Rattle.histories.specs.Frames.{Frame, store_after, Among, Brings, Came, AllTaken}
use Rattle.histories.proofs.Frames.StoreStates.{Stands, mark_in, marks_of, stands_same, sound_stands}
use Rattle.histories.proofs.Frames.TextsBrought.{Page?, page?, brought_by, brought, same_page, texts, texts_append}
use Rattle.histories.proofs.Frames.Takings.{after_stands}
use Rattle.histories.proofs.Soundness.KeptRules.{Bytes18, all_alike}
use Rattle.histories.proofs.Histories.PageFrames.{frame_of, frame_brings, brings_bytes}
use Rattle.histories.proofs.Frames.PageStates.{Tells, mark_for, tells}

-- ---- texts for a mark: two that differ where it is disputed

abbrev ones : Text
ones = replicate 18 1

abbrev texts_for : Mark → List Text
texts_for absent = []
texts_for (held t) = t ∷ []
texts_for disputed = no_text ∷ ones ∷ []

mark_of_texts : (m : Mark) → mark_of (texts_for m) ≡ m
mark_of_texts absent = refl
mark_of_texts (held t) = refl
mark_of_texts disputed = rw (ne_same no_text ones apart)
  where
    zero_one : ◌≡◌ {A = ℕ} 0 1 → ⊥
    zero_one e = omega arith

    apart : no_text ≡ ones → ⊥
    apart e = zero_one (ap (λ (l : Text). get_or l 0 0) e)

pub zeros-bytes : Bytes18 no_text
zeros-bytes = all_alike 0 (omega arith)

abbrev AllBytes : List Text → Type 0
AllBytes [] = Unit
AllBytes (t ∷ ts) = Bytes18 t × AllBytes ts

-- a mark that is held is held with 18 bytes
abbrev pub MarkBytes : Mark → Type 0
MarkBytes absent = Unit
MarkBytes (held t) = Bytes18 t
MarkBytes disputed = Unit

texts-bytes : (m : Mark) → MarkBytes m → AllBytes (texts_for m)
texts-bytes absent h = tt
texts-bytes (held t) h = (h, tt)
texts-bytes disputed h = (zeros-bytes, (all_alike 1 (omega arith), tt))

-- ---- frames for texts

among_append : (r : Record) (a b : List Frame) → Among r (a ++ b) → Among r a ⊎ Among r b
among_append r [] b h = inr h
among_append r (f ∷ a) b h = ⊎_elim (λ e. inl (inl e)) (λ k. ⊎_elim (λ x. inl (inr x)) (λ y. inr y) (among_append r a b k)) h

module _ (n : Name) (range : InRange n) where
  brought_is : (r : Record) (p : ℕ) (t : Text) → Brings n r p t → (d : Page? n r) (q : ℕ) → brought_by d q r.text ≡ cond (eqb p q) (t ∷ []) []
  brought_is r p t b (inl a) q = λ j. cond (eqb (same_page n r a.0 p r.text t a.1 b j) q) (b.text j ∷ []) []
  brought_is r p t b (inr none) q = absurd (none p t b)

  record PageGiven (p : ℕ) (ts : List Text) : Type 0 where
    pub frames : List Frame
    pub here : texts n range p frames ≡ ts
    pub elsewhere : (q : ℕ) → (p ≡ q → ⊥) → texts n range q frames ≡ []
    pub taken : AllTaken n frames

  page_given : (p : ℕ) → 1 ≤ p → p ≤ n.total → (ts : List Text) → AllBytes ts → PageGiven p ts
  page_given p low high [] h = record { frames = []; here = refl; elsewhere = λ q differ. refl; taken = λ r i. absurd i }
  page_given p low high (t ∷ ts) h =
      let rest = page_given p low high ts h.1 in
      let f = frame_of n range p t low high h.0 in
      let b = frame_brings n range p t low high h.0 in
      let one : (q : ℕ) → brought n range q f.came ≡ cond (eqb p q) (t ∷ []) [] = brought_is f.came p t b (page? n f.came range) in
      record {
        frames = f ∷ rest.frames;
        here = (λ j. (one p ∙ ap (λ (x : Bool). cond x (t ∷ []) []) (eq-eqb p p refl)) j ++ rest.here j);
        elsewhere = λ q differ. λ j. (one q ∙ ap (λ (x : Bool). cond x (t ∷ []) []) (ne_eqb p q differ)) j ++ rest.elsewhere q differ j;
        taken = λ r i. ⊎_elim (λ e. (p, subst (λ (x : Record). Brings n x p x.text) (sym e) (record { valid = b.valid; common = b.common; body = b.body; text = refl }))) (λ k. rest.taken r k) i;
      }

  -- ---- frames for the marks of the first k pages

  record Given (m : ℕ → Mark) (k : ℕ) : Type 0 where
    pub frames : List Frame
    pub below : (i : ℕ) → i < k → mark_of (texts n range (suc i) frames) ≡ m i
    pub beyond : (i : ℕ) → k ≤ i → mark_of (texts n range (suc i) frames) ≡ absent
    pub taken : AllTaken n frames

  marks_append : (p : ℕ) (a b : List Frame) (x y : Mark) → mark_of (texts n range p a) ≡ x → mark_of (texts n range p b) ≡ y
      → mark_of (texts n range p (a ++ b)) ≡ join_marks x y
  marks_append p a b x y e f = ap mark_of (texts_append n range p a b) ∙ mark_of_append (texts n range p a) (texts n range p b) ∙ (λ j. join_marks (e j) (f j))

  given : (m : ℕ → Mark) → ((i : ℕ) → MarkBytes (m i)) → (k : ℕ) → k ≤ n.total → Given m k
  given m bytes zero h = record { frames = []; below = λ i l. absurd (nothing_below i l); beyond = λ i l. refl; taken = λ r i. absurd i }
    where
      nothing_below : (i : ℕ) → i < 0 → ⊥
      nothing_below i l = omega arith
  given m bytes (suc k) h =
      let rest = given m bytes k (omega arith) in
      let new = page_given (suc k) (omega arith) h (texts_for (m k)) (texts-bytes (m k) (bytes k)) in
      record {
        frames = new.frames ++ rest.frames;
        below = λ i l.
            ⊎_elim
            (λ less. marks_append (suc i) new.frames rest.frames absent (m i) (ap mark_of (new.elsewhere (suc i) (λ e. omega arith))) (rest.below i less))
            (λ more.
            let same : k ≡ i = omega arith in
            subst (λ (x : ℕ). mark_of (texts n range (suc x) (new.frames ++ rest.frames)) ≡ m x) same
            (marks_append (suc k) new.frames rest.frames (m k) absent (ap mark_of new.here ∙ mark_of_texts (m k)) (rest.beyond k (omega arith)) ∙ join_marks_none (m k)))
            (below? i k);
        beyond = λ i l. marks_append (suc i) new.frames rest.frames absent absent (ap mark_of (new.elsewhere (suc i) (λ e. omega arith))) (rest.beyond i (omega arith));
        taken = λ r i. ⊎_elim (λ x. new.taken r x) (λ y. rest.taken r y) (among_append r new.frames rest.frames i);
      }

  -- ---- a store that stands for marks of 18 bytes

  pub stands_given : (s : Store) (m : ℕ → Mark) → Stands s n m → ((i : ℕ) → MarkBytes (m i)) → (fs : List Frame) × AllTaken n fs × (s ≡ store_after n fs)
  stands_given s m p bytes =
      let g = given m bytes n.total (omega arith) in (
        g.frames,
        g.taken,
        stands_same s (store_after n g.frames) n m _ p (after_stands n range g.frames)
            (λ i h. ⊎_elim (λ l. sym (g.below i l)) (λ l. p.past i l ∙ sym (g.beyond i l)) (below? i n.total)),
      )

mark-bytes : (p : Page) → Shaped p → MarkBytes (mark_in p)
unfolding mark_in
mark-bytes p h = by (eqb p.mark 0) (eqb p.mark 1)
  where
    by : (a b : Bool) → MarkBytes (cond a absent (cond b (held p.text) disputed))
    by true b = tt
    by false true = record { long = h.long; bytes = h.bytes }
    by false false = tt

none_bytes : MarkBytes (mark_in no_page)
unfolding mark_in
none_bytes = tt

pub sound_given : (s : Store) → Sound s → ShapedStore s → (fs : List Frame) × AllTaken s.name fs × (s ≡ store_after s.name fs)
sound_given s p shape =
    stands_given s.name p.name s (marks_of s) (sound_stands s s.name p shape.long refl)
    (λ i. ⊎_elim
    (λ l. mark-bytes (page_behind s i) (shape.pages i l))
    (λ l. let past : page_behind s i ≡ no_page = get_or-eq_default s.pages no_page (omega (arith, shape.long)) in rw past none_bytes)
    (below? i 63))

-- ---- and a store that frames give has the shape of a store of the code

pub came_bytes : (n : Name) (fs : List Frame) (p : ℕ) (t : Text) → Came n fs p t → Bytes18 t
came_bytes n [] p t c = absurd c.1
came_bytes n (f ∷ fs) p t c =
    ⊎_elim
    (λ e. brings_bytes n f p t (subst (λ (r : Record). Brings n r p t) e c.2))
    (λ k. came_bytes n fs p t (c.0, k, c.2))
    c.1

page-shaped : (m : Mark) → MarkBytes m → Shaped (to_page m)
page-shaped absent h = record { long = zeros-bytes.long; bytes = zeros-bytes.bytes }
page-shaped (held t) h = record { long = h.long; bytes = h.bytes }
page-shaped disputed h = record { long = zeros-bytes.long; bytes = zeros-bytes.bytes }

pub after-shaped : (n : Name) → InRange n → (fs : List Frame) → ShapedStore (store_after n fs)
unfolding mark_for
after-shaped n range fs = record {
  long = (after_stands n range fs).long;
  pages = λ i h. rw ((after_stands n range fs).page i h) (page-shaped (mark_for n range fs (suc i)) (told_bytes (suc i) (mark_for n range fs (suc i)) (tells n range fs (suc i))));
}
  where
    told_bytes : (p : ℕ) (m : Mark) → Tells n range fs p m → MarkBytes m
    told_bytes p absent h = tt
    told_bytes p (held t) h = came_bytes n fs p t h.came
    told_bytes p disputed h = tt
