-- Pages one behind the other.
use mathlib.Core.Path.{◌≡◌, refl, sym, ap, ◌∙◌}
use Prim.Native.Nat.{ℕ, zero, suc, ◌+◌, ◌*◌, ◌<◌, ◌≤◌}
use native.Mathlib.Omega.{arith}
use native.Mathlib.Numerals.{add-one}
use mathlib.Core.List.{List, [], ◌∷◌, ◌++◌, append-nil, append_assoc}
use lib.ListN.{length, get_or, take, length-append}
use lib.Seq.{sets, take-suc, take_all}
use borrow.Author.Tests.{eq-eqb}
use Rattle.pages.specs.declared.page.Page.{Page}
use Rattle.bulletin.specs.declared.store.Store.{Store}
use Rattle.pages.specs.Pages.{no_page}
use Rattle.bulletin.proofs.Telling.PageBytes.{Eighteen}
use Rattle.store_bytes.specs.Stores.{name_bytes, page_bytes, pages_bytes, store_bytes, store_into}
use Rattle.lent.proofs.Chains.{sets-sets, sets_whole}

pub length_pages : (k : ℕ) (ps : List Page) → k ≤ length ps → Eighteen ps → length (pages_bytes (take k ps)) ≡ 19 * k
unfolding pages_bytes
length_pages zero ps h e = refl
length_pages (suc k) [] h e = absurd (omega arith)
length_pages (suc k) (p ∷ ps) h e =
    let rest : length (pages_bytes (take k ps)) ≡ 19 * k = length_pages k ps (omega arith) (λ i l. e (suc i) (omega arith)) in
    let first : length p.text ≡ 18 = e 0 (omega arith) in
    ap suc (length-append p.text (pages_bytes (take k ps))) ∙ omega (arith, first, rest)

pub pages_append : (ps qs : List Page) → pages_bytes (ps ++ qs) ≡ pages_bytes ps ++ pages_bytes qs
unfolding pages_bytes
pages_append [] qs = refl
pages_append (p ∷ ps) qs = ap (λ (t : List ℕ). page_bytes p ++ t) (pages_append ps qs) ∙ sym (append_assoc (page_bytes p) (pages_bytes ps) (pages_bytes qs))

one_page : (p : Page) → pages_bytes (p ∷ []) ≡ page_bytes p
unfolding pages_bytes
one_page p = append-nil (page_bytes p)

pages_suc : (ps : List Page) (k : ℕ) → k < length ps → pages_bytes (take (k + 1) ps) ≡ pages_bytes (take k ps) ++ page_bytes (get_or ps k no_page)
pages_suc ps k h =
    ap (λ (n : ℕ). pages_bytes (take n ps)) (add-one k)
    ∙ ap pages_bytes (take-suc ps k no_page h)
    ∙ pages_append (take k ps) (get_or ps k no_page ∷ [])
    ∙ ap (λ (t : List ℕ). pages_bytes (take k ps) ++ t) (one_page (get_or ps k no_page))

-- one page more, behind k others
pub page_more : (l : List ℕ) (k : ℕ) (ps : List Page) → k < length ps → Eighteen ps
    → sets (sets l 8 (pages_bytes (take k ps))) (8 + 19 * k) (page_bytes (get_or ps k no_page)) ≡ sets l 8 (pages_bytes (take (k + 1) ps))
page_more l k ps h e =
    ap (λ (n : ℕ). sets (sets l 8 (pages_bytes (take k ps))) (8 + n) (page_bytes (get_or ps k no_page))) (sym (length_pages k ps (omega arith) e))
    ∙ sets-sets (pages_bytes (take k ps)) (page_bytes (get_or ps k no_page)) l 8
    ∙ ap (sets l 8) (sym (pages_suc ps k h))

-- ---- the whole store

pub length_store : (s : Store) → length s.pages ≡ 63 → Eighteen s.pages → length (store_bytes s) ≡ 1205
length_store s n e =
    let all : take 63 s.pages ≡ s.pages = take_all 63 s.pages (omega (arith, n)) in
    let pages : length (pages_bytes (take 63 s.pages)) ≡ 19 * 63 = length_pages 63 s.pages (omega (arith, n)) e in
    length-append (name_bytes s.name) (pages_bytes s.pages) ∙ ap (λ (k : ℕ). 8 + k) (ap (λ (ps : List Page). length (pages_bytes ps)) (sym all) ∙ pages)

pub store_in_parts : {a b : List ℕ} (l : List ℕ) (s : Store) → length s.pages ≡ 63 → Eighteen s.pages → length l ≡ 1205 → a ≡ sets l 0 (name_bytes s.name)
    → b ≡ sets a 8 (pages_bytes s.pages) → b ≡ store_into s l
unfolding store_into
store_in_parts l s n e long x y =
    y
    ∙ ap (λ (d : List ℕ). sets d 8 (pages_bytes s.pages)) x
    ∙ sets-sets (name_bytes s.name) (pages_bytes s.pages) l 0
    ∙ sets_whole (store_bytes s) l (length_store s n e ∙ sym long)
    ∙ rw (eq-eqb _ 1205 long)
