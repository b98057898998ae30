-- The bytes of pages of 18 bytes, one page behind the other.
use mathlib.Core.Path.{◌≡◌, refl, ap, sym, ◌∙◌}
use mathlib.Core.Bool.{Bool, true, false, cond}
use mathlib.Core.List.{List, [], ◌∷◌, ◌++◌}
use mathlib.Core.Logic.{⊎_elim}
use Prim.Native.Nat.{ℕ, zero, suc, ◌+◌, ◌-◌, ◌*◌, ◌<◌, ◌≤◌}
use native.Mathlib.Omega.{arith}
use lib.Dec.{eqb}
use lib.ListN.{length, get_or, take, drop, length-append, get_or-append}
use lib.Seq.{paste, drop-append-add, take-append-le, take_at, take-add, drop-drop, get_or-drop, length-take-le}
use borrow.Author.Tests.{eq-eqb, eqb-true, eqb-false}
use Rattle.std.proofs.lemmas.Bool.{cases_lt}
use Rattle.pages.specs.declared.page.Page.{Page}
use Rattle.pages.specs.Pages.{no_page}
use Rattle.bulletin.specs.Text.{bytes_in_order, text_length}

abbrev pub Eighteen : List Page → Type 0
Eighteen l = (i : ℕ) → i < length l → length (get_or l i no_page).text ≡ 18

pub length-flat : (l : List Page) → Eighteen l → length (bytes_in_order l) ≡ 18 * length l
unfolding bytes_in_order
length-flat [] h = refl
length-flat (p ∷ l) h =
    let a : length p.text ≡ 18 = h 0 (omega arith) in
    let r : length (bytes_in_order l) ≡ 18 * length l = length-flat l (λ i k. h (suc i) (omega arith)) in
    length-append p.text (bytes_in_order l) ∙ omega arith

-- behind i pages the next page stands in front of the others
drop-flat : (l : List Page) (i : ℕ) → Eighteen l → i < length l → drop (18 * i) (bytes_in_order l) ≡ (get_or l i no_page).text ++ bytes_in_order (drop (suc i) l)
unfolding bytes_in_order
drop-flat [] i h b = absurd (no b)
  where
    no : i < 0 → ⊥
    no b = omega arith
drop-flat (p ∷ l) zero h b = refl
drop-flat (p ∷ l) (suc i) h b =
    let first : length p.text ≡ 18 = h 0 (omega arith) in
    let e : 18 * suc i ≡ length p.text + 18 * i = omega arith in
    ap (λ (n : ℕ). drop n (p.text ++ bytes_in_order l)) e
    ∙ drop-append-add p.text (bytes_in_order l) (18 * i)
    ∙ drop-flat l i (λ j k. h (suc j) (omega arith)) (omega arith)

module _ (l : List Page) (i : ℕ) (h : Eighteen l) (b : i < length l) where
  -- the byte k of the page behind i others
  pub byte_of_page : (k : ℕ) → k < 18 → get_or (bytes_in_order l) (18 * i + k) 0 ≡ get_or (get_or l i no_page).text k 0
  byte_of_page k m =
      sym (get_or-drop (18 * i) (bytes_in_order l) k 0)
      ∙ ap (λ (x : List ℕ). get_or x k 0) (drop-flat l i h b)
      ∙ get_or-append (get_or l i no_page).text (bytes_in_order (drop (suc i) l)) 0 k (omega (arith, h i b))

  -- where its bytes from m on are zeros, and all bytes behind it
  pub zeros_from : (m n : ℕ) → ((k : ℕ) → m ≤ k → k < 18 → get_or (get_or l i no_page).text k 0 ≡ 0)
      → ((k : ℕ) → 18 * suc i ≤ k → k < n → get_or (bytes_in_order l) k 0 ≡ 0) → (k : ℕ) → 18 * i + m ≤ k → k < n → get_or (bytes_in_order l) k 0 ≡ 0
  zeros_from m n page behind k from to = ⊎_elim inside (λ past. behind k past to) (cases_lt k (18 * suc i))
    where
      inside : k < 18 * suc i → get_or (bytes_in_order l) k 0 ≡ 0
      inside short =
          let there : 18 * i + (k - 18 * i) ≡ k = omega arith in
          ap (λ (j : ℕ). get_or (bytes_in_order l) j 0) (sym there)
          ∙ byte_of_page (k - 18 * i) (omega arith)
          ∙ page (k - 18 * i) (omega arith) (omega arith)

-- ---- a loop that copies from the front

module _ (F D t : List ℕ) (a c : ℕ) (all : a ≤ length F) (room : a ≤ length D) (next : take c t ≡ take c (drop a F)) where
  pub part_copied : paste (take a F ++ drop a D) a t c ≡ take (a + c) F ++ drop (a + c) D
  part_copied =
      let front : length (take a F) ≡ a = length-take-le a F all in
      let behind : drop (a + c) (take a F ++ drop a D) ≡ drop (a + c) D =
      ap (λ (n : ℕ). drop (n + c) (take a F ++ drop a D)) (sym front) ∙ drop-append-add (take a F) (drop a D) c ∙ drop-drop c a D
      in (λ j. take_at (take a F) (drop a D) a front j ++ next j ++ behind j)
      ∙ ap (λ (x : List ℕ). x ++ drop (a + c) D) (sym (take-add a c F))

-- c bytes of the page behind i others are put behind those of the i
pub page_copied : (l : List Page) (D : List ℕ) {out after : List ℕ} (i c : ℕ) {a e : ℕ} → Eighteen l → i < length l → c ≤ 18 → 18 * i ≤ length D
    → a ≡ 18 * i → e ≡ 18 * i + c → out ≡ take (18 * i) (bytes_in_order l) ++ drop (18 * i) D → after ≡ paste out a (get_or l i no_page).text c
    → after ≡ take e (bytes_in_order l) ++ drop e D
page_copied l D i c h b m room start end before put =
    put
    ∙ (λ j. paste (before j) (start j) (get_or l i no_page).text c)
    ∙ part_copied (bytes_in_order l) D (get_or l i no_page).text (18 * i) c (omega (arith, length-flat l h)) room
    (sym (ap (take c) (drop-flat l i h b) ∙ take-append-le c (get_or l i no_page).text (bytes_in_order (drop (suc i) l)) (omega (arith, h i b))))
    ∙ ap (λ (n : ℕ). take n (bytes_in_order l) ++ drop n D) (sym end)

-- ---- a length

pub ends_at : (n i : ℕ) (l : List ℕ) → i < n → (get_or l i 0 ≡ 0 → ⊥) → ((k : ℕ) → i < k → k < n → get_or l k 0 ≡ 0) → text_length n l ≡ i + 1
unfolding text_length
ends_at zero i l h e z = absurd (omega arith)
ends_at (suc n) i l h e z = by (eqb (get_or l n 0) 0) refl (λ m. ends_at n i l m e (λ k p q. z k p (omega arith)))
  where
    by : (b : Bool) → eqb (get_or l n 0) 0 ≡ b → (i < n → text_length n l ≡ i + 1) → cond b (text_length n l) (suc n) ≡ i + 1
    by true q more =
        let other : i ≡ n → ⊥ = λ p. e (ap (λ (k : ℕ). get_or l k 0) p ∙ eqb-true (get_or l n 0) 0 q) in
        more (omega arith)
    by false q more =
        let last : i < n → ⊥ = λ m. eqb-false (get_or l n 0) 0 q (z n m (omega arith)) in
        omega arith

pub all_zeros : (n : ℕ) (l : List ℕ) → ((k : ℕ) → k < n → get_or l k 0 ≡ 0) → text_length n l ≡ 0
unfolding text_length
all_zeros zero l z = refl
all_zeros (suc n) l z = rw (eq-eqb (get_or l n 0) 0 (z n (omega arith))) (all_zeros n l (λ k h. z k (omega arith)))

pub text_length-most : (n : ℕ) (l : List ℕ) → text_length n l ≤ n
unfolding text_length
text_length-most zero l = omega arith
text_length-most (suc n) l = by (eqb (get_or l n 0) 0) (text_length-most n l)
  where
    by : (b : Bool) → text_length n l ≤ n → cond b (text_length n l) (suc n) ≤ suc n
    by true h = omega arith
    by false h = omega arith
