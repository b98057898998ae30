-- A line with its line feed put back: what stands before it, and what form it has.
use mathlib.Core.Path.{◌≡◌, refl, sym, ap, ap₂, ◌∙◌}
use mathlib.Core.Bool.{Bool, true, false, ◌&&◌, cond, and_assoc, and-true}
use mathlib.Core.List.{List, [], ◌∷◌, ◌++◌}
use Prim.Native.Nat.{ℕ, ◌+◌, ◌-◌, ◌*◌, ◌≤◌, ◌<◌}
use native.Mathlib.Omega.{arith}
use borrow.Author.Tests.{eq-eqb, ne_eqb, eqb-true, eqb-false}
use lib.Dec.{eqb}
use lib.ListN.{length, take, drop, get_or, length-append, length-drop, get_or-append}
use lib.Seq.{take-append-le, drop-append-le, get_or-append_seam}
use Rattle.rows.specs.Runs.Verdict.{allowed}
use Rattle.rows.proofs.Rules.Outcomes.{and_both}
use Rattle.line.specs.Lines.{digits, worth}
use Rattle.sentence.specs.Sentences.{head, begins, part, between, digits_in, figure, satellite_in, told_in, has_form, fed}
use Rattle.sentence.specs.Pieces.{marked}

-- ---- what stands in front of more

pub begins-front : (h l t : List ℕ) → length h ≤ length l → begins h (l ++ t) ≡ begins h l
unfolding begins
begins-front [] l t n = refl
begins-front (x ∷ h) [] t n = absurd (omega arith)
begins-front (x ∷ h) (b ∷ l) t n = ap (λ (r : Bool). eqb b x && r) (begins-front h l t (omega arith))

part-front : (l t : List ℕ) (a n : ℕ) → a + n ≤ length l → part a n (l ++ t) ≡ part a n l
part-front l t a n h = ap (take n) (drop-append-le a l t (omega arith)) ∙ take-append-le n (drop a l) t (omega (arith, length-drop a l))

-- ---- the form of a sentence

-- the checksum's characters are digits
abbrev pub two_digits : List ℕ → Bool
two_digits l = allowed digits (get_or l 74 0) && allowed digits (get_or l 75 0)

last_fed : (l : List ℕ) (n : ℕ) → length l ≡ n → get_or (fed l) n 0 ≡ 10
last_fed l n e = ap (λ (k : ℕ). get_or (fed l) k 0) (sym e) ∙ get_or-append_seam l 10 [] 0

-- of 77 characters
form_of_77 : (l : List ℕ) → length l ≡ 77 → has_form (fed l) ≡ marked l && two_digits l
unfolding has_form
form_of_77 l n =
    let at : (i : ℕ) → i < 77 → get_or (fed l) i 0 ≡ get_or l i 0 = λ i h. get_or-append l (10 ∷ []) 0 i (omega arith) in
    let long : eqb (length (fed l)) 78 ≡ true = eq-eqb (length (fed l)) 78 (omega (arith, length-append l (10 ∷ []))) in
    simp (long, eq-eqb (length l) 77 n, begins-front head l (10 ∷ []) (omega arith), at 9 (omega arith), at 73 (omega arith), at 74 (omega arith), at 75 (omega arith), at 76 (omega arith), last_fed l 77 n, and-true, and_assoc)

-- of another number
pub no_form_fed : (l : List ℕ) → (length l ≡ 77 → ⊥) → false ≡ has_form (fed l)
unfolding has_form
no_form_fed l n =
    let short : eqb (length (fed l)) 78 ≡ false = ne_eqb (length (fed l)) 78 (λ e. n (omega (arith, length-append l (10 ∷ [])))) in
    simp short

form_of_other : (l : List ℕ) → (length l ≡ 77 → ⊥) → has_form (fed l) ≡ marked l && two_digits l
form_of_other l n = sym (no_form_fed l n) ∙ simp (ne_eqb (length l) 77 n)

pub form_marked : (l : List ℕ) → has_form (fed l) ≡ marked l && two_digits l
form_marked l = by (eqb (length l) 77) refl
  where
    by : (t : Bool) → eqb (length l) 77 ≡ t → has_form (fed l) ≡ marked l && two_digits l
    by true e = form_of_77 l (eqb-true (length l) 77 e)
    by false e = form_of_other l (eqb-false (length l) 77 e)

pub marked_long : (l : List ℕ) → marked l ≡ true → length l ≡ 77
marked_long l e = eqb-true (length l) 77 (and_both (eqb (length l) 77) _ e).0

-- ---- of a line of 77 characters

module _ (l : List ℕ) (n : length l ≡ 77) where
  pub between-fed : between (fed l) ≡ between l
  between-fed = part-front l (10 ∷ []) 1 72 (omega arith)

  pub digits-fed : digits_in (fed l) ≡ digits_in l
  digits-fed = part-front l (10 ∷ []) 10 63 (omega arith)

  at : (i : ℕ) → i < 77 → get_or (fed l) i 0 ≡ get_or l i 0
  at i h = get_or-append l (10 ∷ []) 0 i (omega arith)

  pub told_fed : told_in (fed l) ≡ told_in l
  unfolding told_in
  told_fed = ap₂ (λ (x y : ℕ). worth x * 16 + worth y) (at 74 (omega arith)) (at 75 (omega arith))

  pub satellite_fed : satellite_in (fed l) ≡ satellite_in l
  unfolding satellite_in
  satellite_fed = ap₂ (λ (x y : ℕ). cond (figure x && figure y) ((x - 0x30) * 10 + (y - 0x30)) 0) (at 7 (omega arith)) (at 8 (omega arith))
