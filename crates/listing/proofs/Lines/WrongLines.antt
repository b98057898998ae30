-- Lines that are no frame, for their length or for a byte, and what is kept of a line.
use Rattle.std.specs.Prelude.{Err}
use mathlib.Core.Path.{◌≡◌, refl, sym, ap, ◌∙◌}
use mathlib.Core.Bool.{Bool, true, false, ◌&&◌}
use mathlib.Core.List.{List, [], ◌∷◌, ◌++◌}
use Prim.Native.Nat.{ℕ, ◌≤◌}
use native.Mathlib.Omega.{arith}
use borrow.Author.Tests.{ne_eqb, ltb-true, ltb-false}
use lib.Dec.{ltb, eqb}
use lib.ListN.{length, take, length-take}
use lib.Seq.{take_all}
use Rattle.rows.specs.declared.refusal.Refusal.TheVariants.{Line}
use Rattle.rows.specs.Runs.Verdict.{allowed}
use Rattle.report.specs.Records.{zeros}
use Rattle.report.specs.Runs.Reading.{reading, Reading}
use Rattle.line.specs.Lines.{digits, all_digits, is_line, line_reading}
use Rattle.line.proofs.Claims.{no_line_is_17}
use Rattle.listing.specs.Listing.{line_row}
use Rattle.listing.specs.Rows.{row_of, row_text}

-- 17
abbrev pub no_line : Reading
no_line = reading (Err Line) zeros

pub wrong_length : (l : List ℕ) → (length l ≡ 63 → ⊥) → line_reading l ≡ no_line
unfolding is_line
wrong_length l h = no_line_is_17 l (simp (ne_eqb (length l) 63 h))

and-false : (t : Bool) → (t && false) ≡ false
and-false true = refl
and-false false = refl

not_all : (a b : List ℕ) (x : ℕ) → allowed digits x ≡ false → all_digits (a ++ (x ∷ b)) ≡ false
unfolding all_digits
not_all [] b x e = rw e
not_all (y ∷ a) b x e = rw (not_all a b x e) (and-false (allowed digits y))

pub wrong_byte : (a b : List ℕ) (x : ℕ) → allowed digits x ≡ false → line_reading (a ++ (x ∷ b)) ≡ no_line
unfolding is_line
wrong_byte a b x e = no_line_is_17 (a ++ (x ∷ b)) (rw (not_all a b x e) (and-false (eqb (length (a ++ (x ∷ b))) 63)))

-- a line is known by its first 64 bytes
kept_reading : (l : List ℕ) → line_reading (take 64 l) ≡ line_reading l
kept_reading l = by_length (ltb (length l) 64) refl
  where
    by_length : (t : Bool) → ltb (length l) 64 ≡ t → line_reading (take 64 l) ≡ line_reading l
    by_length true e = ap line_reading (take_all 64 l (omega (arith, ltb-true (length l) 64 e)))
    by_length false e =
        let long : 64 ≤ length l = ltb-false (length l) 64 e in
        wrong_length (take 64 l) (λ s. omega (arith, length-take 64 l)) ∙ sym (wrong_length l (λ s. omega arith))

pub kept_row : (n : ℕ) (l : List ℕ) → line_row n (take 64 l) ≡ line_row n l
unfolding line_row
kept_row n l = ap (λ (r : Reading). row_text n (row_of r)) (kept_reading l)
