-- The bytes of pages in order, less all zero bytes at their end.
use mathlib.Core.Path.{◌≡◌, refl, ap, sym, ◌∙◌}
use mathlib.Core.Bool.{Bool, true, false, cond}
use mathlib.Core.List.{List, [], ◌∷◌, ◌++◌, append_assoc, append-nil}
use mathlib.Core.Logic.{⊎_elim}
use Prim.Native.Nat.{ℕ, zero, suc, ◌+◌, ◌-◌, ◌*◌, ◌<◌, ◌≤◌}
use native.Mathlib.Omega.{arith}
use lib.ListN.{length, get_or, take, drop, replicate, length-append, replicate-append-replicate, take-append-drop}
use lib.Seq.{take-suc, get_or-append_seam, take_at}
use lib.Dec.{eqb}
use borrow.Author.Tests.{eqb-true, eqb-false}
use Rattle.pages.specs.declared.page.Page.{Page}
use Rattle.pages.specs.Pages.{no_page}
use Rattle.bulletin.specs.Text.{bytes_in_order, text_length}
use Rattle.rows.proofs.Rules.Tests.{below?}
use Rattle.histories.specs.Reports.{in_order, Trimmed}

-- ---- zero bytes at the end

last_same : (a b : List ℕ) (x y : ℕ) → a ++ (x ∷ []) ≡ b ++ (y ∷ []) → x ≡ y
last_same a b x y e =
    let long : length a ≡ length b = omega (arith, length-append a (x ∷ []), length-append b (y ∷ []), ap length e) in
    sym (get_or-append_seam a x [] 0) ∙ (λ j. get_or (e j) (long j) 0) ∙ get_or-append_seam b y [] 0

nothing_ends : (l : List ℕ) → [] ≡ l ++ (0 ∷ []) → ⊥
nothing_ends l e = omega (arith, length-append l (0 ∷ []), ap length e)

pub trimmed : (n : ℕ) (l : List ℕ) → n ≤ length l → Trimmed (take n l) (take (text_length n l) l)
unfolding text_length
trimmed zero l h = record { zeros = 0; is = refl; ends = nothing_ends }
trimmed (suc n) l h = by (eqb (get_or l n 0) 0) refl (trimmed n l (omega arith))
  where
    one_more_byte : take (suc n) l ≡ take n l ++ (get_or l n 0 ∷ [])
    one_more_byte = take-suc l n 0 (omega arith)

    by : (b : Bool) → eqb (get_or l n 0) 0 ≡ b → Trimmed (take n l) (take (text_length n l) l) → Trimmed (take (suc n) l) (take (cond b (text_length n l) (suc n)) l)
    by true e t =
        let text = take (text_length n l) l in
        record {
          zeros = t.zeros + 1;
          is = one_more_byte ∙ (λ j. t.is j ++ (eqb-true (get_or l n 0) 0 e j ∷ [])) ∙ append_assoc text (replicate t.zeros 0) (0 ∷ []) ∙ ap (λ (z : List ℕ). text ++ z) (replicate-append-replicate t.zeros 1 0);
          ends = t.ends;
        }
    by false e t = record {
      zeros = 0;
      is = sym (append-nil (take (suc n) l));
      ends = λ k q. eqb-false (get_or l n 0) 0 e (last_same (take n l) k (get_or l n 0) 0 (sym one_more_byte ∙ q));
    }

-- ---- and no other text is

longer : (whole t u : List ℕ) (a b : ℕ) → whole ≡ t ++ replicate a 0 → whole ≡ u ++ replicate b 0 → a ≤ b → t ≡ u ++ replicate (b - a) 0
longer whole t u a b p q h =
    let sum : b ≡ b - a + a = omega arith in
    let zeros : ◌≡◌ {A = List ℕ} (replicate b 0) (replicate (b - a) 0 ++ replicate a 0) = ap (λ (k : ℕ). replicate k 0) sum ∙ sym (replicate-append-replicate (b - a) a 0) in
    let other : whole ≡ (u ++ replicate (b - a) 0) ++ replicate a 0 = q ∙ ap (λ (z : List ℕ). u ++ z) zeros ∙ sym (append_assoc u (replicate (b - a) 0) (replicate a 0)) in
    let as_long : length (u ++ replicate (b - a) 0) ≡ length t = omega (arith, ap length p, ap length other, length-append t (replicate a 0), length-append (u ++ replicate (b - a) 0) (replicate a 0)) in
    sym (take_at t (replicate a 0) (length t) refl) ∙ ap (take (length t)) (sym p ∙ other) ∙ take_at (u ++ replicate (b - a) 0) (replicate a 0) (length t) as_long

not_longer : (t u : List ℕ) (k : ℕ) → ((l : List ℕ) → t ≡ l ++ (0 ∷ []) → ⊥) → t ≡ u ++ replicate k 0 → t ≡ u
not_longer t u zero ends e = e ∙ append-nil u
not_longer t u (suc k) ends e =
    let more : k + 1 ≡ suc k = omega arith in
    absurd (ends (u ++ replicate k 0) (e ∙ ap (λ (z : List ℕ). u ++ z) (ap (λ (j : ℕ). replicate j 0) (sym more) ∙ sym (replicate-append-replicate k 1 0)) ∙ sym (append_assoc u (replicate k 0) (0 ∷ []))))

pub trimmed_once : (whole t u : List ℕ) → Trimmed whole t → Trimmed whole u → t ≡ u
trimmed_once whole t u p q =
    ⊎_elim
    (λ less. not_longer t u (q.zeros - p.zeros) p.ends (longer whole t u p.zeros q.zeros p.is q.is (omega arith)))
    (λ more. sym (not_longer u t (p.zeros - q.zeros) q.ends (longer whole u t q.zeros p.zeros q.is p.is more)))
    (below? p.zeros q.zeros)

pub trimmed_length : (whole text : List ℕ) → Trimmed whole text → length text ≤ length whole
trimmed_length whole text t = omega (arith, ap length t.is, length-append text (replicate t.zeros 0))

-- ---- pages in order

flat_append : (a b : List Page) → bytes_in_order (a ++ b) ≡ bytes_in_order a ++ bytes_in_order b
unfolding bytes_in_order
flat_append [] b = refl
flat_append (p ∷ a) b = ap (λ (l : List ℕ). p.text ++ l) (flat_append a b) ∙ sym (append_assoc p.text (bytes_in_order a) (bytes_in_order b))

flat_one : (p : Page) → bytes_in_order (p ∷ []) ≡ p.text
unfolding bytes_in_order
flat_one p = append-nil p.text

flat_order : (t : ℕ → List ℕ) (l : List Page) (n : ℕ) → n ≤ length l → ((i : ℕ) → i < n → (get_or l i no_page).text ≡ t (suc i)) → bytes_in_order (take n l) ≡ in_order t n
unfolding bytes_in_order
flat_order t l zero h e = refl
flat_order t l (suc n) h e =
    ap bytes_in_order (take-suc l n no_page (omega arith))
    ∙ flat_append (take n l) (get_or l n no_page ∷ [])
    ∙ (λ j. flat_order t l n (omega arith) (λ i b. e i (omega arith)) j ++ (flat_one (get_or l n no_page) ∙ e n (omega arith)) j)

pub length_order : (t : ℕ → List ℕ) (n : ℕ) → ((i : ℕ) → i < n → length (t (suc i)) ≡ 18) → length (in_order t n) ≡ 18 * n
length_order t zero h = refl
length_order t (suc n) h =
    let a : length (in_order t n) ≡ 18 * n = length_order t n (λ i b. h i (omega arith)) in
    let b : length (t (suc n)) ≡ 18 = h n (omega arith) in
    length-append (in_order t n) (t (suc n)) ∙ omega arith

-- the first n pages, of 18 bytes each, are the first 18 n bytes
pub front_bytes : (t : ℕ → List ℕ) (l : List Page) (n : ℕ) → n ≤ length l → ((i : ℕ) → i < n → (get_or l i no_page).text ≡ t (suc i))
    → ((i : ℕ) → i < n → length (t (suc i)) ≡ 18) → (take (18 * n) (bytes_in_order l) ≡ in_order t n) × (18 * n ≤ length (bytes_in_order l))
front_bytes t l n h e long =
    let front = flat_order t l n h e in
    let whole : bytes_in_order l ≡ in_order t n ++ bytes_in_order (drop n l) = ap bytes_in_order (sym (take-append-drop n l)) ∙ flat_append (take n l) (drop n l) ∙ ap (λ (x : List ℕ). x ++ bytes_in_order (drop n l)) front in
    let so-long = length_order t n long in
    (ap (take (18 * n)) whole ∙ take_at (in_order t n) (bytes_in_order (drop n l)) (18 * n) so-long, omega (arith, ap length whole, length-append (in_order t n) (bytes_in_order (drop n l)), so-long))
