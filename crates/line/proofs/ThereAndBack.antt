-- From a frame to its line and back, and from a line to its frame and back.
use mathlib.Core.Path.{◌≡◌, refl, sym, ap, ap₂, ◌∙◌}
use mathlib.Core.Bool.{true, ◌&&◌}
use mathlib.Core.List.{List, [], ◌∷◌, map}
use Prim.Native.Nat.{ℕ, zero, suc, ◌+◌, ◌*◌, ◌/◌, ◌%◌, ◌<◌}
use native.Mathlib.Omega.{arith}
use lib.Arith.{digits_div, digits_mod}
use lib.ListN.{length, get_or, take, length-map}
use borrow.Author.Tests.{eq-eqb, eqb-true}
use Rattle.bits.specs.Frame.{Bytes}
use Rattle.rows.specs.Runs.Verdict.{allowed}
use Rattle.rows.proofs.Rules.Outcomes.{and_both, both_and}
use Rattle.line.specs.Lines.{digits, worth, capital, capitals, all_digits, is_line, paired, frame_of_line, halves, line_of}
use Rattle.line.proofs.DigitValues.{worth_small, capital_digit, capital-worth, worth-capital, upper-worth, upper_digit}
use Rattle.line.proofs.Pairs.{odd, line_length}

-- ---- numbers below 16

abbrev Small : List ℕ → Type 0
Small [] = Unit
Small (d ∷ ds) = (d < 16) × Small ds

halves_small : (s : List ℕ) → Bytes s → Small (halves s)
unfolding halves
halves_small [] b = tt
halves_small (x ∷ s) b = let h : x < 256 = b 0 in (omega arith, (omega arith, halves_small s (λ i. b (suc i))))

take_small : (n : ℕ) (ds : List ℕ) → Small ds → Small (take n ds)
take_small zero ds h = tt
take_small (suc n) [] h = tt
take_small (suc n) (d ∷ ds) h = (h.0, take_small n ds h.1)

worths_small : (l : List ℕ) → all_digits l ≡ true → Small (map worth l)
unfolding all_digits
worths_small [] e = tt
worths_small (b ∷ l) e = let q = and_both (allowed digits b) (all_digits l) e in (worth_small b q.0, worths_small l q.1)

-- ---- pairs and halves

-- all halves but the last, which is zero
pub paired-halves : (s : List ℕ) (n : ℕ) → length s ≡ suc n → get_or s n 0 % 16 ≡ 0 → paired (take (2 * n + 1) (halves s)) ≡ s
unfolding paired halves
paired-halves [] n l e = absurd (omega arith)
paired-halves (b ∷ []) zero l e = ap {B = List ℕ} (λ x. x ∷ []) (omega arith)
paired-halves (b ∷ []) (suc n) l e = absurd (omega arith)
paired-halves (b ∷ c ∷ s) zero l e = absurd (omega arith)
paired-halves (b ∷ c ∷ s) (suc n) l e =
    let one : b / 16 * 16 + b % 16 ≡ b = omega arith in
    rw (odd n) (ap₂ {C = List ℕ} (λ x r. x ∷ r) one (paired-halves (c ∷ s) n (omega arith) e))

halves-paired : (ds : List ℕ) → Small ds → take (length ds) (halves (paired ds)) ≡ ds
unfolding paired halves
halves-paired [] h = refl
halves-paired (a ∷ []) h = ap {B = List ℕ} (λ x. x ∷ []) (omega arith)
halves-paired (a ∷ b ∷ ds) h = rw (digits_div a h.1.0, digits_mod a h.1.0, halves-paired ds h.1.1)

-- ---- digits and what they are worth

worth_back : (ds : List ℕ) → Small ds → map worth (map capital ds) ≡ ds
worth_back [] h = refl
worth_back (d ∷ ds) h = rw (capital-worth d h.0, worth_back ds h.1)

capital_back : (l : List ℕ) → all_digits l ≡ true → map capital (map worth l) ≡ capitals l
unfolding all_digits
capital_back [] e = refl
capital_back (b ∷ l) e =
    let q = and_both (allowed digits b) (all_digits l) e in
    ap₂ {C = List ℕ} (λ x r. x ∷ r) (worth-capital b q.0) (capital_back l q.1)

capital-digits : (ds : List ℕ) → Small ds → all_digits (map capital ds) ≡ true
unfolding all_digits
capital-digits [] h = refl
capital-digits (d ∷ ds) h = both_and _ _ (capital_digit d h.0) (capital-digits ds h.1)

-- ---- a frame and its line

module _ (s : List ℕ) (n : length s ≡ 32) (b : Bytes s) where
  pub is_line_lem : is_line (line_of s) ≡ true
  unfolding is_line line_of
  is_line_lem = both_and _ _ (eq-eqb (length (line_of s)) 63 (line_length s n)) (capital-digits (take 63 (halves s)) (take_small 63 (halves s) (halves_small s b)))

  pub frame_back : get_or s 31 0 % 16 ≡ 0 → frame_of_line (line_of s) ≡ s
  unfolding frame_of_line line_of
  frame_back z = ap paired (worth_back (take 63 (halves s)) (take_small 63 (halves s) (halves_small s b))) ∙ paired-halves s 31 n z

pub line_back : (l : List ℕ) → is_line l ≡ true → line_of (frame_of_line l) ≡ capitals l
unfolding is_line line_of frame_of_line
line_back l e =
    let q = and_both _ _ e in
    let n : length (map worth l) ≡ 63 = length-map l worth ∙ eqb-true _ _ q.0 in
    ap (map capital) (ap (λ (k : ℕ). take k (halves (paired (map worth l)))) (sym n) ∙ halves-paired (map worth l) (worths_small l q.1)) ∙ capital_back l q.1

-- ---- either case

same_worths : (l : List ℕ) → map worth (capitals l) ≡ map worth l
same_worths [] = refl
same_worths (b ∷ l) = ap₂ {C = List ℕ} (λ x r. x ∷ r) (upper-worth b) (same_worths l)

same_digits : (l : List ℕ) → all_digits (capitals l) ≡ all_digits l
unfolding all_digits
same_digits [] = refl
same_digits (b ∷ l) = ap₂ ◌&&◌ (upper_digit b) (same_digits l)

pub same_frame : (l : List ℕ) → frame_of_line (capitals l) ≡ frame_of_line l
unfolding frame_of_line
same_frame l = ap paired (same_worths l)

pub same_line : (l : List ℕ) → is_line (capitals l) ≡ is_line l
unfolding is_line
same_line l = rw (length-map, same_digits)
