-- What a store stands for: a name, and a mark for each page. Two stores that stand for the same are the same.
use mathlib.Core.Path.{◌≡◌, refl, ap, sym, ◌∙◌}
use mathlib.Core.Bool.{cond}
use mathlib.Core.List.{List}
use mathlib.Core.Logic.{◌⊎◌, inl, inr, ⊎_elim}
use Prim.Native.Nat.{ℕ, ◌<◌, ◌≤◌}
use native.Mathlib.Omega.{arith}
use lib.ListN.{length, get_or-replicate, get_or-eq_default}
use lib.Seq.{ext_get_or}
use lib.Dec.{eqb}
use Rattle.pages.specs.declared.page.Page.{Page}
use Rattle.pages.specs.declared.name.Name.{Name}
use Rattle.bulletin.specs.declared.store.Store.{Store}
use Rattle.pages.specs.Pages.{no_page, no_text, absent_page, held_page, join}
use Rattle.bulletin.specs.Stores.{no_pages, page_behind}
use Rattle.bulletin.specs.Merges.{joined_stores}
use Rattle.pages.proofs.States.{Mark, absent, held, disputed, to_page, join_marks, join_to}
use Rattle.bulletin.proofs.Merging.Joins.{length-joins, get_or-joins}
use Rattle.rows.proofs.Rules.Tests.{below?}
use Rattle.histories.specs.Soundness.{InRange, OneOfThree, Sound}

pub record Stands (s : Store) (n : Name) (m : ℕ → Mark) : Type 0 where
  pub name : s.name ≡ n
  pub long : length s.pages ≡ 63
  pub page : (i : ℕ) → i < 63 → page_behind s i ≡ to_page (m i)
  pub past : (i : ℕ) → n.total ≤ i → m i ≡ absent

pub stands_same : (a b : Store) (n : Name) (m k : ℕ → Mark) → Stands a n m → Stands b n k → ((i : ℕ) → i < 63 → m i ≡ k i) → a ≡ b
stands_same a b n m k p q e =
    let pages : a.pages ≡ b.pages = ext_get_or no_page a.pages b.pages (p.long ∙ sym q.long) (λ i h. let below : i < 63 = omega (arith, p.long) in p.page i below ∙ ap to_page (e i below) ∙ sym (q.page i below)) in
    λ j. record { name = (p.name ∙ sym q.name) j; pages = pages j }

pub stands_for : (s : Store) (n : Name) (m k : ℕ → Mark) → Stands s n m → ((i : ℕ) → m i ≡ k i) → Stands s n k
stands_for s n m k p e = record {
  name = p.name;
  long = p.long;
  page = λ i h. p.page i h ∙ ap to_page (e i);
  past = λ i l. sym (e i) ∙ p.past i l;
}

-- ---- a store that stands for something, with a name in range, is sound

three : (m : Mark) → OneOfThree (to_page m).mark
three absent = inl refl
three (held t) = inr (inl refl)
three disputed = inr (inr refl)

no_bytes : (m : Mark) → ((to_page m).mark ≡ 0) ⊎ ((to_page m).mark ≡ 2) → (to_page m).text ≡ no_text
no_bytes absent h = refl
no_bytes (held t) h = absurd (⊎_elim (λ e. one_is_not_0 e) (λ e. one_is_not_2 e) h)
  where
    one_is_not_0 : ◌≡◌ {A = ℕ} 1 0 → ⊥
    one_is_not_0 e = omega arith

    one_is_not_2 : ◌≡◌ {A = ℕ} 1 2 → ⊥
    one_is_not_2 e = omega arith
no_bytes disputed h = refl

pub stands_sound : (s : Store) (n : Name) (m : ℕ → Mark) → InRange n → Stands s n m → Sound s
stands_sound s n m r p = record {
  name = rw p.name r;
  state = λ i h. let e = p.page i (omega (arith, p.long)) in rw e (three (m i));
  empty = λ i h z. let e = p.page i (omega (arith, p.long)) in rw e (no_bytes (m i) (rw e at z));
  past = λ i h l.
      let e = p.page i (omega (arith, p.long)) in
      let t : s.name.total ≡ n.total = ap (λ (x : Name). x.total) p.name in
      ap (λ (q : Page). q.mark) (e ∙ ap to_page (p.past i (omega arith)));
}

-- ---- a sound store stands for something

-- the mark of a page
unfoldable pub mark_in : Page → Mark
mark_in p = cond (eqb p.mark 0) absent (cond (eqb p.mark 1) (held p.text) disputed)

-- what each page of a store is marked with
abbrev pub marks_of : Store → ℕ → Mark
marks_of s i = mark_in (page_behind s i)

no_mark : mark_in no_page ≡ absent
unfolding mark_in
no_mark = refl

pub held_mark : (t : List ℕ) → mark_in (held_page t) ≡ held t
unfolding mark_in
held_mark t = refl

unmarked : (p : Page) → p.mark ≡ 0 → mark_in p ≡ absent
unfolding mark_in
unmarked p e = rw e

-- a page in one of the three states is the page of its mark
page_of_mark : (p : Page) → OneOfThree p.mark → ((p.mark ≡ 0) ⊎ (p.mark ≡ 2) → p.text ≡ no_text) → p ≡ to_page (mark_in p)
unfolding mark_in
page_of_mark p state empty =
    ⊎_elim
    (λ e. rw e (λ j. record { mark = 0; text = empty (inl e) j }))
    (⊎_elim
    (λ e. rw e)
    (λ e. rw e (λ j. record { mark = 2; text = empty (inr e) j })))
    state

pub sound_stands : (s : Store) (n : Name) → Sound s → length s.pages ≡ 63 → s.name ≡ n → Stands s n (marks_of s)
sound_stands s n p long e = record {
  name = e;
  long = long;
  page = λ i h. let k : i < length s.pages = omega arith in page_of_mark (page_behind s i) (p.state i k) (p.empty i k);
  past = λ i l. ⊎_elim (λ h. inside i l h) (λ h. ap mark_in (get_or-eq_default s.pages no_page (omega arith)) ∙ no_mark) (below? i 63);
}
  where
    inside : (i : ℕ) → n.total ≤ i → i < 63 → marks_of s i ≡ absent
    inside i l h =
        let same : s.name.total ≡ n.total = ap (λ (x : Name). x.total) e in
        unmarked (page_behind s i) (p.past i (omega arith) (omega arith))

-- ---- opened, and merged

pub opened_stands : (n : Name) → Stands (no_pages n) n (λ i. absent)
opened_stands n = record { name = refl; long = refl; page = λ i h. get_or-replicate 63 i absent_page no_page h; past = λ i l. refl }

pub joined_stands : (a b : Store) (n : Name) (m k : ℕ → Mark) → Stands a n m → Stands b n k → Stands (joined_stores a b) n (λ i. join_marks (m i) (k i))
joined_stands a b n m k p q = record {
  name = p.name;
  long = length-joins a.pages b.pages ∙ p.long;
  page = λ i h.
      get_or-joins a.pages b.pages i (omega (arith, p.long)) (p.long ∙ sym q.long)
      ∙ (λ j. join (p.page i h j) (q.page i h j))
      ∙ join_to (m i) (k i);
  past = λ i l. λ j. join_marks (p.past i l j) (q.past i l j);
}
