-- One page put in its place, where the buffer has the rest of the store already.
use mathlib.Core.Path.{◌≡◌, refl, sym, ap, ◌∙◌}
use mathlib.Core.Bool.{Bool, true, false, cond}
use Prim.Native.Nat.{ℕ, suc, ◌+◌, ◌*◌, ◌<◌}
use native.Mathlib.Omega.{arith}
use mathlib.Core.List.{List, ◌∷◌, ◌++◌, append_assoc}
use lib.ListN.{length, get_or, take, drop, get_or-replicate, length-append}
use lib.Seq.{sets, sets-eq, set_split, split_at, take_at, drop_at}
use lib.Dec.{eqb}
use borrow.Author.Tests.{eqb-true}
use Rattle.rows.proofs.Layouts.Lengths.{each_at, length-each}
use Rattle.pages.specs.declared.page.Page.{Page}
use Rattle.pages.specs.Pages.{absent_page, no_page}
use Rattle.bulletin.specs.declared.store.Store.{Store}
use Rattle.bulletin.specs.Stores.{zero_store}
use Rattle.bulletin.specs.Takings.{with_page}
use Rattle.bulletin.proofs.Telling.PageBytes.{Eighteen}
use Rattle.store_bytes.specs.Stores.{name_bytes, page_bytes, pages_bytes, store_bytes, store_into, page_into, page_at, pages_from, store_from, store_or_zeros}
use Rattle.store_bytes.proofs.Pages.{length_pages, pages_append}
use Rattle.store_bytes.proofs.RoundTrip.{bytes_back}

-- bytes in place of as many others
replaced : (a b c t : List ℕ) (n : ℕ) → length a ≡ n → length b ≡ length t → sets (a ++ b ++ c) n t ≡ a ++ t ++ c
replaced a b c t n e f =
    let before : take n (a ++ b ++ c) ≡ a = ap (take n) (append_assoc a b c) ∙ take_at a (b ++ c) n e in
    let behind : drop (n + length t) (a ++ b ++ c) ≡ c = drop_at (a ++ b) c (n + length t) (length-append a b ∙ omega arith) in
    sets-eq t (a ++ b ++ c) n (omega (arith, length-append (a ++ b) c, length-append a b)) ∙ (λ j. before j ++ t ++ behind j)

module _ (s : Store) (i : ℕ) (inside : i < length s.pages) (eighteen : Eighteen s.pages) where
  abbrev front : List ℕ
  front = name_bytes s.name ++ pages_bytes (take i s.pages)

  front_long : length front ≡ 8 + 19 * i
  front_long = length-append (name_bytes s.name) (pages_bytes (take i s.pages)) ∙ ap (λ (n : ℕ). 8 + n) (length_pages i s.pages (omega arith) eighteen)

  -- the store's bytes with any page there
  around : (p : Page) → name_bytes s.name ++ pages_bytes (take i s.pages ++ p ∷ drop (suc i) s.pages) ≡ front ++ page_bytes p ++ pages_bytes (drop (suc i) s.pages)
  unfolding pages_bytes
  around p =
      ap (λ (l : List ℕ). name_bytes s.name ++ l)
      (pages_append (take i s.pages) (p ∷ drop (suc i) s.pages)
      ∙ sym (append_assoc (pages_bytes (take i s.pages)) (page_bytes p) (pages_bytes (drop (suc i) s.pages))))

  page_changed : (p : Page) → length p.text ≡ 18 → store_bytes (with_page s i p) ≡ sets (store_bytes s) (8 + 19 * i) (page_bytes p)
  page_changed p h =
      let old : Page = get_or s.pages i no_page in
      let same : length (page_bytes old) ≡ length (page_bytes p) = ap suc (eighteen i inside ∙ sym h) in
      ap (λ (ps : List Page). name_bytes s.name ++ pages_bytes ps) (set_split s.pages i p inside)
      ∙ around p
      ∙ sym (replaced front (page_bytes old) (pages_bytes (drop (suc i) s.pages)) (page_bytes p) (8 + 19 * i) front_long same)
      ∙ ap (λ (l : List ℕ). sets l (8 + 19 * i) (page_bytes p))
      (sym (around old) ∙ ap (λ (ps : List Page). name_bytes s.name ++ pages_bytes ps) (sym (split_at s.pages i no_page inside)))

-- ---- any bytes are 63 pages of 18 bytes

from_long : (l : List ℕ) → length (pages_from l) ≡ 63
from_long l = length-each 63 (λ i. page_at l (8 + 19 * i))

from_eighteen : (l : List ℕ) → Eighteen (pages_from l)
from_eighteen l i h =
    ap (λ (p : Page). length p.text) (each_at 63 (λ k. page_at l (8 + 19 * k)) no_page i (omega (arith, from_long l)))
    ∙ length-each 18 (λ k. get_or l (8 + 19 * i + 1 + k) 0)

pub any_long : (l : List ℕ) → length (store_or_zeros l).pages ≡ 63
unfolding store_or_zeros
any_long l = by (eqb (length l) 1205)
  where
    by : (b : Bool) → length (cond b (store_from l) zero_store).pages ≡ 63
    by true = from_long l
    by false = refl

pub any_eighteen : (l : List ℕ) → Eighteen (store_or_zeros l).pages
unfolding store_or_zeros
any_eighteen l = by (eqb (length l) 1205)
  where
    by : (b : Bool) → Eighteen (cond b (store_from l) zero_store).pages
    by true = from_eighteen l
    by false = λ i h. ap (λ (p : Page). length p.text) (get_or-replicate 63 i absent_page no_page h)

-- ---- the page alone, and the whole store

pub page_put : (buffer : List ℕ) (i : ℕ) (p : Page) → i < 63 → length p.text ≡ 18
    → page_into p i buffer ≡ store_into (with_page (store_or_zeros buffer) i p) buffer
unfolding store_into store_or_zeros page_into
page_put buffer i p inside h = by (eqb (length buffer) 1205) refl
  where
    by : (b : Bool) → eqb (length buffer) 1205 ≡ b → page_into p i buffer ≡ store_into (with_page (store_or_zeros buffer) i p) buffer
    by true e =
        rw e (ap (λ (l : List ℕ). sets l (8 + 19 * i) (page_bytes p)) (sym (bytes_back buffer (eqb-true (length buffer) 1205 e)))
        ∙ sym (page_changed (store_from buffer) i (omega (arith, from_long buffer)) (from_eighteen buffer) p h))
    by false e = rw e
