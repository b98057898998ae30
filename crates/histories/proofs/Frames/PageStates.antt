-- The state of each page, from the frames.
use mathlib.Core.Path.{◌≡◌, ap, sym, ◌∙◌, subst}
use mathlib.Core.List.{List}
use mathlib.Core.Logic.{◌⊎◌, inl, inr}
use Rattle.pages.specs.Pages.{held_page, disputed_page}
use Prim.Native.Nat.{ℕ, suc, ◌-◌, ◌≤◌}
use native.Mathlib.Omega.{arith}
use Rattle.pages.specs.declared.name.Name.{Name}
use Rattle.pages.proofs.States.{Text, Mark, absent, held, disputed, to_page, to_page_inj, mark_of, mark_of_same, Says, says, says_unique}
use Rattle.histories.specs.Soundness.{InRange}
use Rattle.histories.specs.Frames.{Frame, store_after, page_numbered, SameFrames, SamePages, Came, Absent, Held, Disputed}
use Rattle.histories.proofs.Soundness.KeptRules.{total_in_range}
use Rattle.histories.proofs.Frames.StoreStates.{stands_same}
use Rattle.histories.proofs.Frames.TextsBrought.{texts, in_came, came_in}
use Rattle.histories.proofs.Frames.Takings.{after_stands}

module _ (n : Name) (range : InRange n) (fs : List Frame) where
  -- what the texts for a page say is what the frames say
  abbrev pub Tells : ℕ → Mark → Type 0
  Tells p absent = Absent n fs p
  Tells p (held t) = Held n fs p t
  Tells p disputed = Disputed n fs p

  says-tells : (p : ℕ) (m : Mark) → Says (texts n range p fs) m → Tells p m
  says-tells p absent s = λ t c. s t (came_in n range p fs t c)
  says-tells p (held t) s = record { came = in_came n range p fs t s.0; alone = λ u c. s.1 u (came_in n range p fs u c) }
  says-tells p disputed s = record {
    one = s.0;
    other = s.1;
    came = in_came n range p fs s.0 s.2;
    came_too = in_came n range p fs s.1 s.3;
    differ = s.4;
  }

  tells-says : (p : ℕ) (m : Mark) → Tells p m → Says (texts n range p fs) m
  tells-says p absent h = λ t i. h t (in_came n range p fs t i)
  tells-says p (held t) h = (came_in n range p fs t h.came, λ u i. h.alone u (in_came n range p fs u i))
  tells-says p disputed h = (h.one, h.other, came_in n range p fs h.one h.came, came_in n range p fs h.other h.came_too, h.differ)

  -- the mark of a page, which the frames tell
  unfoldable pub mark_for : ℕ → Mark
  mark_for p = mark_of (texts n range p fs)

  pub tells : (p : ℕ) → Tells p (mark_for p)
  unfolding mark_for
  tells p = says-tells p (mark_of (texts n range p fs)) (says (texts n range p fs))

  pub tells_one : (p : ℕ) (m : Mark) → Tells p m → mark_for p ≡ m
  unfolding mark_for
  tells_one p m h = says_unique (texts n range p fs) (mark_of (texts n range p fs)) m (says (texts n range p fs)) (tells-says p m h)

  pub page_for : (p : ℕ) → 1 ≤ p → p ≤ n.total → page_numbered (store_after n fs) p ≡ to_page (mark_for p)
  unfolding mark_for
  page_for p low high =
      let same : suc (p - 1) ≡ p = omega arith in
      (after_stands n range fs).page (p - 1) (omega (arith, (total_in_range n range).1)) ∙ ap (λ (q : ℕ). to_page (mark_of (texts n range q fs))) same

  -- ---- both ways

  pub told_page : (p : ℕ) (m : Mark) → 1 ≤ p → p ≤ n.total → page_numbered (store_after n fs) p ≡ to_page m → Tells p m
  told_page p m low high e = subst (λ (x : Mark). Tells p x) (to_page_inj (mark_for p) m (sym (page_for p low high) ∙ e)) (tells p)

  pub page_told : (p : ℕ) (m : Mark) → 1 ≤ p → p ≤ n.total → Tells p m → page_numbered (store_after n fs) p ≡ to_page m
  page_told p m low high h = page_for p low high ∙ ap to_page (tells_one p m h)

-- ---- order and repeats

-- a store goes by what its frames bring
pub same_pages : (n : Name) (a b : List Frame) → InRange n → SamePages n a b → store_after n a ≡ store_after n b
same_pages n a b range same =
    stands_same (store_after n a) (store_after n b) n _ _ (after_stands n range a) (after_stands n range b)
    (λ i h. mark_of_same (texts n range (suc i) a) (texts n range (suc i) b)
    (λ t k. came_in n range (suc i) b t (same.there (suc i) t (in_came n range (suc i) a t k)))
    (λ t k. came_in n range (suc i) a t (same.back (suc i) t (in_came n range (suc i) b t k))))

pub frames_bring : (n : Name) (a b : List Frame) → SameFrames a b → SamePages n a b
frames_bring n a b same = record { there = λ p t c. (c.0, same.there c.0 c.1, c.2); back = λ p t c. (c.0, same.back c.0 c.1, c.2) }

-- ---- a held text

-- where more frames come, a page that was held with a text is held with it, or disputed
pub held_on : (n : Name) (a b : List Frame) (p : ℕ) (t : Text) → InRange n → ((u : Text) → Came n a p u → Came n b p u) → 1 ≤ p → p ≤ n.total
    → page_numbered (store_after n a) p ≡ held_page t → (page_numbered (store_after n b) p ≡ held_page t) ⊎ (page_numbered (store_after n b) p ≡ disputed_page)
held_on n a b p t range more low high e =
    let came : Came n b p t = more t (told_page n range a p (held t) low high e).came in
    by came (mark_for n range b p) (tells n range b p)
  where
    by : Came n b p t → (m : Mark) → Tells n range b p m → (page_numbered (store_after n b) p ≡ held_page t) ⊎ (page_numbered (store_after n b) p ≡ disputed_page)
    by c absent h = absurd (h t c)
    by c (held u) h = inl (page_told n range b p (held u) low high h ∙ ap held_page (sym (h.alone t c)))
    by c disputed h = inr (page_told n range b p disputed low high h)

-- and one that was disputed stays so
pub disputed_on : (n : Name) (a b : List Frame) (p : ℕ) → InRange n → ((u : Text) → Came n a p u → Came n b p u) → 1 ≤ p → p ≤ n.total
    → page_numbered (store_after n a) p ≡ disputed_page → page_numbered (store_after n b) p ≡ disputed_page
disputed_on n a b p range more low high e =
    let two = told_page n range a p disputed low high e in
    page_told n range b p disputed low high
    (record { one = two.one; other = two.other; came = more two.one two.came; came_too = more two.other two.came_too; differ = two.differ })
