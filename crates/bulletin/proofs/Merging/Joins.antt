-- Lists of pages joined page by page.
use mathlib.Core.Path.{◌≡◌, refl, ap, sym, ◌∙◌}
use mathlib.Core.List.{List, [], ◌∷◌}
use Prim.Native.Nat.{ℕ, suc, zero, ◌+◌, ◌<◌, ◌≤◌}
use native.Mathlib.Omega.{arith}
use lib.ListN.{length, get_or, set, length-set}
use lib.Seq.{ext_get_or, get_or-set_same, get_or-set_other, set-get_or}
use borrow.Author.Count.{below_more}
use Rattle.pages.specs.declared.page.Page.{Page}
use Rattle.pages.specs.Pages.{no_page, join}
use Rattle.bulletin.specs.Merges.{joins}

pub length-joins : (l m : List Page) → length (joins l m) ≡ length l
unfolding joins
length-joins [] m = refl
length-joins (p ∷ l) [] = refl
length-joins (p ∷ l) (q ∷ m) = ap suc (length-joins l m)

pub get_or-joins : (l m : List Page) (k : ℕ) → k < length l → length l ≡ length m → get_or (joins l m) k no_page ≡ join (get_or l k no_page) (get_or m k no_page)
unfolding joins
get_or-joins [] m k h e = absurd (lt_zero h)
  where
    lt_zero : k < 0 → ⊥
    lt_zero h = omega arith
get_or-joins (p ∷ l) [] k h e = absurd (no e)
  where
    no : suc (length l) ≡ 0 → ⊥
    no e = omega arith
get_or-joins (p ∷ l) (q ∷ m) zero h e = refl
get_or-joins (p ∷ l) (q ∷ m) (suc k) h e = get_or-joins l m k (omega arith) (omega arith)

-- a loop that joins from the front: below i the pages are joined, from i on they are l's
pub record Joining (l m : List Page) (i : ℕ) (r : List Page) : Type 0 where
  pub long : length r ≡ length l
  pub done : (k : ℕ) → k < i → get_or r k no_page ≡ join (get_or l k no_page) (get_or m k no_page)
  pub left : (k : ℕ) → i ≤ k → get_or r k no_page ≡ get_or l k no_page

pub joining_none : (l m : List Page) → Joining l m 0 l
joining_none l m = record { long = refl; done = λ k h. absurd (no k h); left = λ k h. refl }
  where
    no : (k : ℕ) → k < 0 → ⊥
    no k h = omega arith

pub joining_more : (l m : List Page) (i : ℕ) (r : List Page) (p : Page) → i < length l → Joining l m i r → p ≡ join (get_or r i no_page) (get_or m i no_page) → Joining l m (i + 1) (set r i p)
joining_more l m i r p h J e = record {
  long = length-set r i p ∙ J.long;
  done = below_more (λ (k : ℕ). get_or (set r i p) k no_page ≡ join (get_or l k no_page) (get_or m k no_page)) i
      (λ k kh. get_or-set_other r i k p no_page (λ q. omega arith) ∙ J.done k kh)
      (get_or-set_same r i p no_page (omega (arith, J.long)) ∙ e ∙ ap (λ (x : Page). join x (get_or m i no_page)) (J.left i (omega arith)));
  left = λ k kh. get_or-set_other r i k p no_page (λ q. omega arith) ∙ J.left k (omega arith);
}

-- the same where the page stays as it was
pub joining_stays : (l m : List Page) (i : ℕ) (r : List Page) → i < length l → Joining l m i r → get_or r i no_page ≡ join (get_or r i no_page) (get_or m i no_page) → Joining l m (i + 1) r
joining_stays l m i r h J e = rw (set-get_or r i no_page) at (joining_more l m i r (get_or r i no_page) h J e)

pub joining_all : (l m : List Page) (i : ℕ) (r : List Page) → length l ≡ length m → length l ≤ i → Joining l m i r → r ≡ joins l m
joining_all l m i r e h J =
    ext_get_or no_page r (joins l m) (J.long ∙ sym (length-joins l m))
    (λ k kh. J.done k (omega (arith, J.long)) ∙ sym (get_or-joins l m k (omega (arith, J.long)) e))
