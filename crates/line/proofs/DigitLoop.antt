-- The loop over a line's digits: the digit behind them, one turn, and the ways out.
use Rattle.std.specs.Prelude.{Some, None, is_some, cond}
use mathlib.Core.Path.{◌≡◌, refl, sym, ap, ap₂, ◌∙◌}
use mathlib.Core.Bool.{Bool, true, false, ◌&&◌, and_assoc, and-true}
use mathlib.Core.List.{List, [], ◌∷◌, ◌++◌, map}
use Prim.Native.Nat.{ℕ, zero, suc, ◌+◌, ◌≤◌, ◌<◌}
use native.Mathlib.Omega.{arith}
use native.Mathlib.Numerals.{add-one}
use lib.Dec.{eqb, ltb}
use borrow.Author.Tests.{ltb-true, ltb-false}
use lib.ListN.{length, get_or, take, length-map, length-append, get_or-append, get_or-eq_default}
use lib.Seq.{ext_get_or, get_or-append_seam, take_all}
use Rattle.rows.specs.Runs.Verdict.{allowed}
use Rattle.rows.proofs.Rules.Outcomes.{and_both}
use Rattle.line.specs.Lines.{digits, worth, digit_of, all_digits, is_line, paired, frame_in, frame_of_line}
use Rattle.line.proofs.DigitValues.{digit_tells, digit_worth, worth_found, worth_small_found}
use Rattle.line.proofs.Pairs.{map_at, paired_more}

-- ---- a digit of zero behind a line

pub same_digits : (l : List ℕ) → all_digits (l ++ (48 ∷ [])) ≡ all_digits l
unfolding all_digits allowed
same_digits [] = refl
same_digits (b ∷ l) = ap (λ (t : Bool). allowed digits b && t) (same_digits l)

pub padded_each : (l t : List ℕ) → length l ≡ 63 → length t ≡ 64 → ((k : ℕ) → k < 63 → get_or t k 0 ≡ get_or l k 0) → get_or t 63 0 ≡ 48 → t ≡ l ++ (48 ∷ [])
padded_each l t n m each last = ext_get_or 0 t (l ++ (48 ∷ [])) (m ∙ sym (length-append l (48 ∷ []) ∙ ap (λ (k : ℕ). k + 1) n)) (λ k h. by k (omega arith) (ltb k 63) refl)
  where
    by : (k : ℕ) → k < 64 → (b : Bool) → ltb k 63 ≡ b → get_or t k 0 ≡ get_or (l ++ (48 ∷ [])) k 0
    by k h true e = let inside = ltb-true k 63 e in each k inside ∙ sym (get_or-append l (48 ∷ []) 0 k (omega arith))
    by k h false e =
        let end : k ≡ 63 = omega (arith, ltb-false k 63 e) in
        ap (λ (i : ℕ). get_or t i 0) end ∙ last ∙ sym (ap (λ (i : ℕ). get_or (l ++ (48 ∷ [])) i 0) (end ∙ sym n) ∙ get_or-append_seam l 48 [] 0)

-- ---- one turn

one_more : (l : List ℕ) (i : ℕ) → i < length l → all_digits (take (suc i) l) ≡ all_digits (take i l) && allowed digits (get_or l i 0)
unfolding all_digits
one_more [] i h = absurd (omega arith)
one_more (b ∷ l) zero h = and-true (allowed digits b)
one_more (b ∷ l) (suc i) h =
    ap (λ (t : Bool). allowed digits b && t) (one_more l i (omega arith)) ∙ sym (and_assoc (allowed digits b) (all_digits (take i l)) (allowed digits (get_or l i 0)))

pub digits_more : (l : List ℕ) (i : ℕ) → i < length l → all_digits (take (i + 1) l) ≡ all_digits (take i l) && is_some (digit_of (get_or l i 0))
digits_more l i h = rw (add-one, digit_tells) (one_more l i h)

-- ---- what the digits of a line are worth

all-worth : (l : List ℕ) → all_digits l ≡ true → map worth_found (l ++ (48 ∷ [])) ≡ map worth l ++ (0 ∷ [])
unfolding all_digits allowed
all-worth [] e = refl
all-worth (b ∷ l) e =
    let q = and_both (allowed digits b) (all_digits l) e in
    ap₂ {C = List ℕ} (λ x r. x ∷ r) (digit_worth b q.0) (all-worth l q.1)

-- of a line with a digit of zero behind it: whether all are digits ..
pub digits_told : (l : List ℕ) (i : ℕ) → length l < i → all_digits (take i (l ++ (48 ∷ []))) ≡ all_digits l
digits_told l i h = ap all_digits (take_all i (l ++ (48 ∷ [])) (omega (arith, length-append l (48 ∷ [])))) ∙ same_digits l

-- .. and the frame of what each is worth
pub framed : (l v : List ℕ) → length l ≡ 63 → length v ≡ 64 → ((k : ℕ) → k < 64 → get_or v k 0 ≡ worth_found (get_or (l ++ (48 ∷ [])) k 0)) → all_digits l ≡ true
    → paired v ≡ frame_of_line l
unfolding frame_of_line
framed l v n m each d =
    let t : List ℕ = l ++ (48 ∷ []) in
    let long : length t ≡ 64 = length-append l (48 ∷ []) ∙ ap (λ (k : ℕ). k + 1) n in
    let same : v ≡ map worth_found t = ext_get_or 0 v (map worth_found t) (m ∙ sym (length-map t worth_found ∙ long)) (λ k h. each k (omega arith) ∙ sym (map_at worth_found t k 0 0 (omega arith))) in
    ap paired (same ∙ all-worth l d) ∙ paired_more (map worth l) 31 (length-map l worth ∙ n)

pub found_small : (t v : List ℕ) → length v ≡ 64 → ((k : ℕ) → k < 64 → get_or v k 0 ≡ worth_found (get_or t k 0)) → (k : ℕ) → get_or v k 0 < 16
found_small t v n each k = by (ltb k 64) refl
  where
    by : (b : Bool) → ltb k 64 ≡ b → get_or v k 0 < 16
    by true e = rw (each k (ltb-true k 64 e)) (worth_small_found (get_or t k 0))
    by false e = let past : length v ≤ k = omega (arith, ltb-false k 64 e) in rw (get_or-eq_default v 0 past) (omega arith)

-- ---- what is found

-- length and digits are asked one after the other
pub frame_asks : (l : List ℕ) → frame_in l ≡ cond (eqb (length l) 63) (cond (all_digits l) (Some (frame_of_line l)) None) None
unfolding is_line
frame_asks l = by (eqb (length l) 63) (all_digits l)
  where
    by : (a b : Bool) → cond (a && b) (Some (frame_of_line l)) None ≡ cond a (cond b (Some (frame_of_line l)) None) None
    by true b = refl
    by false b = refl
