-- The test of a store passes exactly where the store is sound.
use mathlib.Core.Path.{◌≡◌, refl, sym, ◌∙◌}
use mathlib.Core.Bool.{Bool, true, false, cond}
use mathlib.Core.List.{List, [], ◌∷◌}
use mathlib.Core.Logic.{◌⊎◌, inl, inr, ⊎_elim}
use Prim.Native.Nat.{ℕ, zero, suc, ◌+◌, ◌<◌, ◌≤◌}
use native.Mathlib.Omega.{arith}
use lib.ListN.{length, get_or}
use lib.Dec.{eqb, ltb}
use borrow.Author.Tests.{eqb-true, eq-eqb, ne_eqb, ltb-true, ltb-false}
use Rattle.rows.proofs.Rules.Outcomes.{false_not_true}
use Rattle.pages.specs.declared.page.Page.{Page}
use Rattle.bulletin.specs.declared.store.Store.{Store}
use Rattle.pages.specs.Pages.{no_page, no_text, sound_page, sound_at}
use Rattle.rows.specs.Values.{same_bytes}
use Rattle.bulletin.specs.Stores.{sound_from, page_behind, sound_store}
use Rattle.rows.proofs.Rules.Tests.{same_eq, eq_same}
use Rattle.bulletin.proofs.Stores.Sound.{sound_parts}
use Rattle.histories.specs.Soundness.{OneOfThree, Sound}
use Rattle.histories.proofs.Soundness.NameRanges.{fine_in_range, in_range_fine}

-- ---- one page, behind i others

pub record SoundPage (total i : ℕ) (p : Page) : Type 0 where
  pub state : OneOfThree p.mark
  pub empty : (p.mark ≡ 0) ⊎ (p.mark ≡ 2) → p.text ≡ no_text
  pub past : total ≤ i → p.mark ≡ 0

tested-page : (total i : ℕ) (p : Page) → sound_at total i p ≡ true → SoundPage total i p
unfolding sound_at sound_page
tested-page total i p h = go (eqb p.mark 1) refl (eqb p.mark 0) refl (eqb p.mark 2) refl (ltb i total) refl h
  where
    Test : Bool → Bool → Bool → Bool → Type 0
    Test a b c d = cond (cond a true (cond b (same_bytes p.text no_text) (cond c (same_bytes p.text no_text) false))) (cond d true b) false ≡ true

    both : (x y : Bool) → cond x y false ≡ true → (x ≡ true) × (y ≡ true)
    both true y e = (refl, e)
    both false y e = absurd (false_not_true e)

    inside : (d b : Bool) → ltb i total ≡ d → eqb p.mark 0 ≡ b → cond d true b ≡ true → total ≤ i → p.mark ≡ 0
    inside true b ed eb e l = let k = ltb-true i total ed in omega arith
    inside false b ed eb e l = eqb-true p.mark 0 (eb ∙ e)

    go : (a : Bool) → eqb p.mark 1 ≡ a → (b : Bool) → eqb p.mark 0 ≡ b → (c : Bool) → eqb p.mark 2 ≡ c → (d : Bool) → ltb i total ≡ d
        → Test a b c d → SoundPage total i p
    go true ea b eb c ec d ed h =
        let one : p.mark ≡ 1 = eqb-true _ _ ea in
        record { state = inr (inl one); empty = λ z. absurd (⊎_elim (λ e. not_one one 0 e (λ q. omega arith)) (λ e. not_one one 2 e (λ q. omega arith)) z); past = inside d b ed eb h }
      where
        not_one : p.mark ≡ 1 → (k : ℕ) → p.mark ≡ k → (k ≡ 1 → ⊥) → ⊥
        not_one one k e differ = differ (sym e ∙ one)
    go false ea true eb c ec d ed h =
        let parts = both (same_bytes p.text no_text) (cond d true true) h in
        record { state = inl (eqb-true _ _ eb); empty = λ z. same_eq p.text no_text parts.0; past = inside d true ed eb parts.1 }
    go false ea false eb true ec d ed h =
        let parts = both (same_bytes p.text no_text) (cond d true false) h in
        record { state = inr (inr (eqb-true _ _ ec)); empty = λ z. same_eq p.text no_text parts.0; past = inside d false ed eb parts.1 }
    go false ea false eb false ec d ed h = absurd (false_not_true h)

page-tested : (total i : ℕ) (p : Page) → SoundPage total i p → sound_at total i p ≡ true
unfolding sound_at sound_page
page-tested total i p h =
    ⊎_elim
    (λ z. rw (marked 1 0 z (λ q. omega arith), eq-eqb p.mark 0 z, eq_same p.text no_text (h.empty (inl z))) (inside (ltb i total)))
    (⊎_elim
    (λ z. rw (eq-eqb p.mark 1 z, marked 0 1 z (λ q. omega arith)) (beyond (ltb i total) refl (λ q. omega arith)))
    (λ z. rw (marked 1 2 z (λ q. omega arith), marked 0 2 z (λ q. omega arith), eq-eqb p.mark 2 z, eq_same p.text no_text (h.empty (inr z))) (beyond (ltb i total) refl (λ q. omega arith))))
    h.state
  where
    marked : (k m : ℕ) → p.mark ≡ m → (m ≡ k → ⊥) → eqb p.mark k ≡ false
    marked k m e differ = ne_eqb p.mark k (λ q. differ (sym e ∙ q))

    inside : (d : Bool) → cond d true true ≡ true
    inside true = refl
    inside false = refl

    beyond : (d : Bool) → ltb i total ≡ d → (p.mark ≡ 0 → ⊥) → cond d true false ≡ true
    beyond true e n = refl
    beyond false e n = absurd (n (h.past (ltb-false i total e)))

-- ---- all of them

tested_from : (total i : ℕ) (l : List Page) → sound_from total i l ≡ true → (j : ℕ) → j < length l → SoundPage total (i + j) (get_or l j no_page)
unfolding sound_from
tested_from total i [] h j k = absurd (no k)
  where
    no : j < 0 → ⊥
    no k = omega arith
tested_from total i (p ∷ l) h j k = go (sound_at total i p) refl h j k (tested_from total (suc i) l)
  where
    go : (a : Bool) → sound_at total i p ≡ a → cond a (sound_from total (suc i) l) false ≡ true → (j : ℕ) → j < suc (length l)
        → (sound_from total (suc i) l ≡ true → (j : ℕ) → j < length l → SoundPage total (suc i + j) (get_or l j no_page)) → SoundPage total (i + j) (get_or (p ∷ l) j no_page)
    go true ea h zero k r = let e : i + 0 ≡ i = omega arith in rw e (tested-page total i p ea)
    go true ea h (suc j) k r = let e : i + suc j ≡ suc i + j = omega arith in rw e (r h j (omega arith))
    go false ea h j k r = absurd (false_not_true h)

from_tested : (total i : ℕ) (l : List Page) → ((j : ℕ) → j < length l → SoundPage total (i + j) (get_or l j no_page)) → sound_from total i l ≡ true
unfolding sound_from
from_tested total i [] h = refl
from_tested total i (p ∷ l) h =
    let z : i + 0 ≡ i = omega arith in
    rw (page-tested total i p (rw z at (h 0 (omega arith))))
    (from_tested total (suc i) l (λ j k. let e : i + suc j ≡ suc i + j = omega arith in rw e at (h (suc j) (omega arith))))

pub tested_sound : (s : Store) → sound_store s ≡ true → Sound s
tested_sound s h =
    let parts = sound_parts s h in
    let page : (i : ℕ) → i < length s.pages → SoundPage s.name.total i (page_behind s i) = λ i k. let e : 0 + i ≡ i = omega arith in rw e at (tested_from s.name.total 0 s.pages parts.1 i k) in
    record { name = fine_in_range s.name parts.0; state = λ i k. (page i k).state; empty = λ i k. (page i k).empty; past = λ i k. (page i k).past }

pub sound_tested : (s : Store) → Sound s → sound_store s ≡ true
unfolding sound_store
sound_tested s h =
    rw (in_range_fine s.name h.name)
    (from_tested s.name.total 0 s.pages
    (λ j k. let e : 0 + j ≡ j = omega arith in rw e (record { state = h.state j k; empty = h.empty j k; past = h.past j k })))
