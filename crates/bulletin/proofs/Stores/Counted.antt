-- How the pages of a store are counted and searched, as laws of lists, and what their report says.
use Rattle.std.specs.Prelude.{Result, Ok, Err, Option, None, Some}
use Rattle.std.specs.Result.{result_unwrap_or}
use Rattle.rows.specs.declared.refusal.Refusal.{Refusal}
use Rattle.rows.specs.declared.refusal.Refusal.TheVariants.{Unsound}
use Rattle.bulletin.specs.declared.count.Count.{Count}
use mathlib.Core.Path.{◌≡◌, refl, ap, sym, ◌∙◌}
use mathlib.Core.Bool.{Bool, true, false, not, cond}
use mathlib.Core.List.{List, [], ◌∷◌}
use Prim.Native.Nat.{ℕ, zero, suc, ◌+◌, ◌<◌, ◌≤◌}
use native.Mathlib.Omega.{arith}
use native.Mathlib.Numerals.{add-one}
use lib.Dec.{eqb, ltb}
use lib.ListN.{length, get_or, take, drop, drop_of_length-le}
use lib.Seq.{drop-cons}
use Rattle.std.specs.List.{count_by, position, position_or_len}
use Rattle.std.proofs.Common.{add-zero}
use Rattle.std.proofs.lemmas.Grind.{common_steps}
use Rattle.std.proofs.lemmas.List.Recursion.{is_count_by}
use Rattle.pages.specs.declared.page.Page.{Page}
use Rattle.bulletin.specs.declared.store.Store.{Store}
use Rattle.bulletin.specs.Stores.{sound_store}
use borrow.Author.Tests.{eq-eqb, ne_eqb, lt-ltb, le-ltb}
use Rattle.pages.specs.Pages.{no_page}
use Rattle.bulletin.specs.Counts.{count_marked, lowest_not_held, count_of, counts_in, count_told, no_count, Counted}

-- ---- counts

pub counted : (k : ℕ) (ps : List Page) → count_marked k ps ≡ count_by (λ p. eqb p.mark k) ps
unfolding count_marked
counted k ps = is_count_by (count_marked k) (λ p. eqb p.mark k) refl (λ p ps. by (eqb p.mark k) (count_marked k ps)) ps
  where
    by : (b : Bool) (n : ℕ) → cond b (suc n) n ≡ cond b (1 + n) n
    by true n = omega arith
    by false n = refl

-- ---- the lowest page that is not held

pub lowest-past : (t : ℕ) (l : List Page) (i : ℕ) → t ≤ i → lowest_not_held t i l ≡ 0
unfolding lowest_not_held
lowest-past t [] i h = refl
lowest-past t (p ∷ l) i h = rw (le-ltb i t h)

pub lowest_more : (t : ℕ) (l : List Page) (i : ℕ) → i < t → i < length l → (get_or l i no_page).mark ≡ 1 → lowest_not_held t i (drop i l) ≡ lowest_not_held t (i + 1) (drop (i + 1) l)
unfolding lowest_not_held
lowest_more t l i h k e = rw (add-one, drop-cons l i no_page, lt-ltb i t h, eq-eqb _ _ e)

pub lowest_here : (t : ℕ) (l : List Page) (i : ℕ) → i < t → i < length l → ((get_or l i no_page).mark ≡ 1 → ⊥) → lowest_not_held t i (drop i l) ≡ i + 1
unfolding lowest_not_held
lowest_here t l i h k e = rw (add-one, drop-cons l i no_page, lt-ltb i t h, ne_eqb _ _ e)

pub lowest_end : (t : ℕ) (l : List Page) (i : ℕ) → length l ≤ i → lowest_not_held t i (drop i l) ≡ 0
unfolding lowest_not_held
lowest_end t l i h = rw (drop_of_length-le l h)

pub lowest-most : (t : ℕ) (l : List Page) (i : ℕ) → lowest_not_held t i l ≤ i + length l
unfolding lowest_not_held
lowest-most t [] i = omega arith
lowest-most t (p ∷ l) i = by (ltb i t) (eqb p.mark 1) (lowest-most t l (suc i))
  where
    by : (a b : Bool) → lowest_not_held t (suc i) l ≤ suc i + length l → cond a (cond b (lowest_not_held t (suc i) l) (suc i)) 0 ≤ i + suc (length l)
    by true true h = omega arith
    by true false h = omega arith
    by false b h = omega arith

-- ---- the lowest page that is not held, as the code looks for it

-- where it stands
abbrev pub unheld : ℕ → List Page → Option ℕ
unheld total ps = position (λ p. not (eqb p.mark 1)) (take total ps)

-- its number
abbrev pub number_of : Option ℕ → ℕ
number_of None = 0
number_of (Some k) = k + 1

-- behind i others
abbrev number_from : ℕ → Option ℕ → ℕ
number_from i None = 0
number_from i (Some k) = suc (k + i)

-- where the first element that passes stands, with one more in front
one_more : {X : Type 0} (p : X → Bool) (x : X) (xs : List X) (i : ℕ) → number_from i (position p (x ∷ xs)) ≡ cond (p x) (suc i) (number_from (suc i) (position p xs))
one_more p x xs i = by (p x) (position_or_len p xs) (length xs)
  where
    by : (b : Bool) (n l : ℕ) → number_from i (cond (ltb (cond (not b) (1 + n) 0) (suc l)) (Some (cond (not b) (1 + n) 0)) None) ≡ cond b (suc i) (number_from (suc i) (cond (ltb n l) (Some n) None))
    by true n l = rw (lt-ltb 0 (suc l) (omega arith)) (omega arith)
    by false n l = grind (arith, common_steps)

found_from : (t i : ℕ) (ps : List Page) → number_from i (position (λ p. not (eqb p.mark 1)) (take t ps)) ≡ lowest_not_held (t + i) i ps
unfolding lowest_not_held
found_from zero i [] = refl
found_from zero i (p ∷ ps) = sym (rw (le-ltb i (0 + i) (omega arith)))
found_from (suc t) i [] = refl
found_from (suc t) i (p ∷ ps) =
    one_more (λ p. not (eqb p.mark 1)) p (take t ps) i
    ∙ by (eqb p.mark 1) (found_from t (suc i) ps ∙ ap (λ n. lowest_not_held n (suc i) ps) more)
    ∙ sym (rw (lt-ltb i (suc t + i) (omega arith)))
  where
    more : t + suc i ≡ suc t + i
    more = omega arith

    by : (b : Bool) {m n : ℕ} → m ≡ n → cond (not b) (suc i) m ≡ cond b n (suc i)
    by true e = e
    by false e = refl

pub found : (t : ℕ) (ps : List Page) → number_of (unheld t ps) ≡ lowest_not_held t 0 ps
found t ps = one (unheld t ps) ∙ found_from t 0 ps ∙ ap (λ n. lowest_not_held n 0 ps) (add-zero t)
  where
    one : (o : Option ℕ) → number_of o ≡ number_from 0 o
    one None = refl
    one (Some k) = omega arith

-- ---- what the report says

pub counts : (s : Store) {held disputed lowest : ℕ} → sound_store s ≡ true → held ≡ count_marked 1 s.pages → disputed ≡ count_marked 2 s.pages
    → lowest ≡ lowest_not_held s.name.total 0 s.pages → Ok (record { held = held; disputed = disputed; lowest = lowest }) ≡ count_told (count_of s)
unfolding count_of
counts s e f g h = (λ j. Ok (record { held = f j; disputed = g j; lowest = h j })) ∙ sym (rw e)

-- the numbers are what is handed back, with zeros in place of a refusal
pub counts_or_zeros : (s : Store) (t : Result Count Refusal) → t ≡ count_told (count_of s) → result_unwrap_or t no_count ≡ counts_in (count_of s)
unfolding count_of
counts_or_zeros s t e = by (sound_store s) e
  where
    reported : Counted
    reported = record { answer = Ok tt; held = count_marked 1 s.pages; disputed = count_marked 2 s.pages; lowest = lowest_not_held s.name.total 0 s.pages }

    refused : Counted
    refused = record { answer = Err Unsound; held = 0; disputed = 0; lowest = 0 }

    by : (b : Bool) → t ≡ count_told (cond b reported refused) → result_unwrap_or t no_count ≡ counts_in (cond b reported refused)
    by true m = ap (λ (x : Result Count Refusal). result_unwrap_or x no_count) m
    by false m = ap (λ (x : Result Count Refusal). result_unwrap_or x no_count) m
