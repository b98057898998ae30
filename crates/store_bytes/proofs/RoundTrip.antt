-- A store and its bytes, there and back.
use mathlib.Core.Path.{◌≡◌, refl, sym, ap, ◌∙◌}
use Prim.Native.Nat.{ℕ, zero, suc, ◌+◌, ◌*◌, ◌≤◌}
use native.Mathlib.Omega.{arith}
use mathlib.Core.List.{List, [], ◌∷◌, ◌++◌}
use lib.ListN.{length, get_or, take, drop, length-drop, take-append-drop, length-append}
use lib.Seq.{drop_at, take-append_seam}
use Rattle.rows.specs.Values.{each}
use Rattle.pages.specs.declared.page.Page.{Page}
use Rattle.bulletin.specs.declared.store.Store.{Store}
use Rattle.store_bytes.specs.Stores.{name_bytes, page_bytes, pages_bytes, store_bytes, name_from, page_at, pages_from, store_from}
use Rattle.record_bytes.proofs.FromBytes.Places.{each_same, byte_behind, first-bytes}
use Rattle.bulletin.proofs.Telling.PageBytes.{Eighteen}

-- a page behind n bytes
page-behind : (n : ℕ) (l : List ℕ) (j k : ℕ) → j ≡ n + k → page_at l j ≡ page_at (drop n l) k
page-behind n l j k e = λ i. record {
  mark = byte_behind n l j k e i;
  text = each_same 18 (λ m. get_or l (j + 1 + m) 0) (λ m. get_or (drop n l) (k + 1 + m) 0) (λ m. byte_behind n l (j + 1 + m) (k + 1 + m) (omega (arith, e))) i;
}

pages_behind : (count n : ℕ) (l : List ℕ) (from : ℕ → ℕ) → ((i : ℕ) → from i ≡ n + 19 * i)
    → each count (λ i. page_at l (from i)) ≡ each count (λ i. page_at (drop n l) (19 * i))
pages_behind count n l from e =
    each_same count (λ i. page_at l (from i)) (λ i. page_at (drop n l) (19 * i)) (λ i. page-behind n l (from i) (19 * i) (e i))

-- ---- from bytes and back to them

first-page : (l : List ℕ) → 19 ≤ length l → page_bytes (page_at l 0) ≡ take 19 l
first-page l h = first-bytes 19 l h

pages_of_bytes : (count : ℕ) (l : List ℕ) → length l ≡ 19 * count → pages_bytes (each count (λ i. page_at l (19 * i))) ≡ l
unfolding pages_bytes
pages_of_bytes zero [] h = refl
pages_of_bytes zero (x ∷ l) h = absurd (omega (arith, h))
pages_of_bytes (suc count) l h =
    let others : pages_bytes (each count (λ i. page_at l (19 * suc i))) ≡ drop 19 l =
    ap pages_bytes (pages_behind count 19 l (λ i. 19 * suc i) (λ i. omega arith))
    ∙ pages_of_bytes count (drop 19 l) (length-drop 19 l ∙ omega (arith, h))
    in (λ j. first-page l (omega (arith, h)) j ++ others j) ∙ take-append-drop 19 l

first_eight : (l : List ℕ) → 8 ≤ length l → name_bytes (name_from l) ≡ take 8 l
first_eight l h = first-bytes 8 l h

pub bytes_back : (l : List ℕ) → length l ≡ 1205 → store_bytes (store_from l) ≡ l
bytes_back l h =
    let pages : pages_bytes (pages_from l) ≡ drop 8 l =
    ap pages_bytes (pages_behind 63 8 l (λ i. 8 + 19 * i) (λ i. refl)) ∙ pages_of_bytes 63 (drop 8 l) (length-drop 8 l ∙ omega (arith, h))
    in (λ j. first_eight l (omega (arith, h)) j ++ pages j) ∙ take-append-drop 8 l

-- ---- from a store and back to it

page_back : (p : Page) (rest : List ℕ) → length p.text ≡ 18 → page_at (page_bytes p ++ rest) 0 ≡ p
page_back p rest h = λ i. record { mark = p.mark; text = text i }
  where
    text : each 18 (λ m. get_or (p.text ++ rest) m 0) ≡ p.text
    text =
        first-bytes 18 (p.text ++ rest) (omega (arith, length-append p.text rest, h))
        ∙ ap (λ (n : ℕ). take n (p.text ++ rest)) (sym h)
        ∙ take-append_seam p.text rest

pages_back : (ps : List Page) → Eighteen ps → each (length ps) (λ i. page_at (pages_bytes ps) (19 * i)) ≡ ps
unfolding pages_bytes
pages_back [] e = refl
pages_back (p ∷ ps) e =
    let first : length p.text ≡ 18 = e 0 (omega arith) in
    let others : each (length ps) (λ i. page_at (page_bytes p ++ pages_bytes ps) (19 * suc i)) ≡ ps =
    pages_behind (length ps) 19 (page_bytes p ++ pages_bytes ps) (λ i. 19 * suc i) (λ i. omega arith)
    ∙ ap (λ (l : List ℕ). each (length ps) (λ i. page_at l (19 * i))) (drop_at (page_bytes p) (pages_bytes ps) 19 (ap suc first))
    ∙ pages_back ps (λ i h. e (suc i) (omega arith))
    in λ j. page_back p (pages_bytes ps) first j ∷ others j

pub store_back : (s : Store) → length s.pages ≡ 63 → Eighteen s.pages → store_from (store_bytes s) ≡ s
store_back s n e =
    let pages : pages_from (store_bytes s) ≡ s.pages =
    pages_behind 63 8 (store_bytes s) (λ i. 8 + 19 * i) (λ i. refl)
    ∙ ap (λ (k : ℕ). each k (λ i. page_at (pages_bytes s.pages) (19 * i))) (sym n)
    ∙ pages_back s.pages e
    in λ j. record { name = s.name; pages = pages j }
