-- Pages counted and searched, as properties of each page.
use mathlib.Core.Path.{◌≡◌, refl, ap, sym, ◌∙◌, subst}
use mathlib.Core.Bool.{Bool, true, false, cond}
use mathlib.Core.List.{List, [], ◌∷◌, ◌++◌}
use mathlib.Core.Logic.{◌⊎◌, inl, inr, ⊎_elim}
use Prim.Native.Nat.{ℕ, zero, suc, ◌+◌, ◌<◌, ◌≤◌}
use native.Mathlib.Omega.{arith}
use lib.ListN.{length, get_or, take, drop, length-drop, take-append-drop}
use lib.Seq.{take-suc, get_or-drop}
use lib.Dec.{eqb}
use borrow.Author.Tests.{eqb-true, eqb-false, eq-eqb, ne_eqb}
use Rattle.pages.specs.declared.page.Page.{Page}
use Rattle.pages.specs.Pages.{no_page}
use Rattle.bulletin.specs.Counts.{count_marked, lowest_not_held}
use Rattle.bulletin.proofs.Stores.Counted.{lowest-past, lowest_more, lowest_here}
use Rattle.rows.proofs.Rules.Tests.{below?}
use Rattle.histories.specs.Reports.{Counted, none, one_more, no_more, All, LowestWithout}

-- ---- how many

marked_append : (k : ℕ) (a b : List Page) → count_marked k (a ++ b) ≡ count_marked k a + count_marked k b
unfolding count_marked
marked_append k [] b = omega arith
marked_append k (p ∷ a) b = by (eqb p.mark k) (marked_append k a b)
  where
    by : (c : Bool) → count_marked k (a ++ b) ≡ count_marked k a + count_marked k b → cond c (suc (count_marked k (a ++ b))) (count_marked k (a ++ b)) ≡ cond c (suc (count_marked k a)) (count_marked k a) + count_marked k b
    by true e = omega arith
    by false e = e

marked_one : (k : ℕ) (p : Page) → p.mark ≡ k → count_marked k (p ∷ []) ≡ 1
unfolding count_marked
marked_one k p e = rw (eq-eqb p.mark k e)

marked_other : (k : ℕ) (p : Page) → (p.mark ≡ k → ⊥) → count_marked k (p ∷ []) ≡ 0
unfolding count_marked
marked_other k p n = rw (ne_eqb p.mark k n)

marked_none : (k : ℕ) (l : List Page) → ((i : ℕ) → i < length l → (get_or l i no_page).mark ≡ k → ⊥) → count_marked k l ≡ 0
unfolding count_marked
marked_none k [] h = refl
marked_none k (p ∷ l) h = rw (ne_eqb p.mark k (h 0 (omega arith))) (marked_none k l (λ i b. h (suc i) (omega arith)))

-- the page behind i others has the mark exactly where it has the property
pub record Marks (P : ℕ → Type 0) (k : ℕ) (l : List Page) (n : ℕ) : Type 0 where
  pub has : (i : ℕ) → i < n → (get_or l i no_page).mark ≡ k → P (suc i)
  pub is : (i : ℕ) → i < n → P (suc i) → (get_or l i no_page).mark ≡ k

counted_front : (P : ℕ → Type 0) (k : ℕ) (l : List Page) (n : ℕ) → n ≤ length l → Marks P k l n → Counted P n (count_marked k (take n l))
unfolding count_marked
counted_front P k l zero h m = none
counted_front P k l (suc n) h m =
    let rest : Counted P n (count_marked k (take n l)) = counted_front P k l n (omega arith) (record { has = λ i b. m.has i (omega arith); is = λ i b. m.is i (omega arith) }) in
    let p = get_or l n no_page in
    let split : count_marked k (take (suc n) l) ≡ count_marked k (take n l) + count_marked k (p ∷ []) = ap (count_marked k) (take-suc l n no_page (omega arith)) ∙ marked_append k (take n l) (p ∷ []) in
    by (eqb p.mark k) refl split rest
  where
    by : (b : Bool) → eqb (get_or l n no_page).mark k ≡ b → count_marked k (take (suc n) l) ≡ count_marked k (take n l) + count_marked k (get_or l n no_page ∷ [])
        → Counted P n (count_marked k (take n l)) → Counted P (suc n) (count_marked k (take (suc n) l))
    by true e split rest =
        let same : (get_or l n no_page).mark ≡ k = eqb-true _ _ e in
        let more : count_marked k (take (suc n) l) ≡ suc (count_marked k (take n l)) = split ∙ omega (arith, marked_one k (get_or l n no_page) same) in
        subst (λ (x : ℕ). Counted P (suc n) x) (sym more) (one_more rest (m.has n (omega arith) same))
    by false e split rest =
        let differ : (get_or l n no_page).mark ≡ k → ⊥ = eqb-false _ _ e in
        let as_many : count_marked k (take (suc n) l) ≡ count_marked k (take n l) = split ∙ omega (arith, marked_other k (get_or l n no_page) differ) in
        subst (λ (x : ℕ). Counted P (suc n) x) (sym as_many) (no_more rest (λ q. differ (m.is n (omega arith) q)))

-- no page past the n-th has the mark
pub counted : (P : ℕ → Type 0) (k : ℕ) (l : List Page) (n : ℕ) → n ≤ length l → Marks P k l n
    → ((i : ℕ) → n ≤ i → i < length l → (get_or l i no_page).mark ≡ k → ⊥) → Counted P n (count_marked k l)
counted P k l n h m past =
    let behind : count_marked k (drop n l) ≡ 0 = marked_none k (drop n l) (λ i b e. past (n + i) (omega arith) (omega (arith, length-drop n l)) (ap (λ (p : Page). p.mark) (sym (get_or-drop n l i no_page)) ∙ e)) in
    let all : count_marked k l ≡ count_marked k (take n l) = ap (count_marked k) (sym (take-append-drop n l)) ∙ marked_append k (take n l) (drop n l) ∙ omega arith in
    subst (λ (x : ℕ). Counted P n x) (sym all) (counted_front P k l n h m)

-- ---- the lowest without the mark 1

module _ (P : ℕ → Type 0) (l : List Page) (n : ℕ) (h : n ≤ length l) (m : Marks P 1 l n) where
  abbrev Found : ℕ → Type 0
  Found k = ((k ≡ 0) × All P n) ⊎ LowestWithout P n k

  at_end : (i : ℕ) → n ≤ i → All P i → Found (lowest_not_held n i (drop i l))
  at_end i b all = inl (lowest-past n (drop i l) i b, λ p low high. all p low (omega arith))

  one_page_more : (i : ℕ) → P (suc i) → All P i → All P (i + 1)
  one_page_more i q all p low high =
      ⊎_elim (λ b. all p low (omega arith)) (λ b. let same : suc i ≡ p = omega arith in subst P same q) (below? p (suc i))

  search_from : (fuel i : ℕ) → n ≤ i + fuel → All P i → Found (lowest_not_held n i (drop i l))
  search_from zero i b all = at_end i (omega arith) all
  search_from (suc fuel) i b all = ⊎_elim (λ less. here less (eqb (get_or l i no_page).mark 1) refl (search_from fuel (i + 1) (omega arith))) (λ more. at_end i more all) (below? i n)
    where
      here : i < n → (b : Bool) → eqb (get_or l i no_page).mark 1 ≡ b → (All P (i + 1) → Found (lowest_not_held n (i + 1) (drop (i + 1) l))) → Found (lowest_not_held n i (drop i l))
      here less true e next =
          let one = eqb-true (get_or l i no_page).mark 1 e in
          subst Found (sym (lowest_more n l i less (omega arith) one)) (next (one_page_more i (m.has i less one) all))
      here less false e next =
          let differ = eqb-false (get_or l i no_page).mark 1 e in
          let next-page : suc i ≡ i + 1 = omega arith in
          subst Found (sym (lowest_here n l i less (omega arith) differ))
          (inr (record {
            low = omega arith;
            high = omega arith;
            lacks = λ q. differ (m.is i less (subst P (sym next-page) q));
            before = λ p low high. all p low (omega arith);
          }))

  pub lowest-found : Found (lowest_not_held n 0 l)
  lowest-found = search_from n 0 (omega arith) (λ p low high. absurd (nothing p low high))
    where
      nothing : (p : ℕ) → 1 ≤ p → p ≤ 0 → ⊥
      nothing p low high = omega arith

-- ---- each is one number

pub counted_once : (P : ℕ → Type 0) (n j k : ℕ) → Counted P n j → Counted P n k → j ≡ k
counted_once P n j k none none = refl
counted_once P n j k (one_more a p) (one_more b q) = ap suc (counted_once P _ _ _ a b)
counted_once P n j k (one_more a p) (no_more b q) = absurd (q p)
counted_once P n j k (no_more a p) (one_more b q) = absurd (p q)
counted_once P n j k (no_more a p) (no_more b q) = counted_once P _ _ _ a b

pub lowest_once : (P : ℕ → Type 0) (n j k : ℕ) → LowestWithout P n j → LowestWithout P n k → j ≡ k
lowest_once P n j k a b =
    ⊎_elim
    (λ less. absurd (a.lacks (b.before j a.low less)))
    (λ more. ⊎_elim (λ less. absurd (b.lacks (a.before k b.low less))) (λ as-low. omega arith) (below? k j))
    (below? j k)

pub found_once : (P : ℕ → Type 0) (n j k : ℕ) → ((j ≡ 0) × All P n) ⊎ LowestWithout P n j → ((k ≡ 0) × All P n) ⊎ LowestWithout P n k → j ≡ k
found_once P n j k a b =
    ⊎_elim
    (λ x. ⊎_elim (λ y. x.0 ∙ sym y.0) (λ y. absurd (y.lacks (x.1 k y.low y.high))) b)
    (λ x. ⊎_elim (λ y. absurd (x.lacks (y.1 j x.low x.high))) (λ y. lowest_once P n j k x y) b)
    a
