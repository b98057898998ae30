-- Byte by byte, and then the last line: that is the listing of the whole input.
use mathlib.Core.Path.{◌≡◌, refl, sym, ap, ◌∙◌}
use mathlib.Core.Bool.{Bool, true, false, cond}
use mathlib.Core.List.{List, [], ◌∷◌, ◌++◌, append_assoc, append-nil}
use Prim.Native.Nat.{ℕ, zero, suc, ◌<◌}
use native.Mathlib.Omega.{arith}
use borrow.Author.Tests.{lt-ltb, le-ltb, ne_eqb, ltb-true, ltb-false, eqb-true, eqb-false}
use lib.Dec.{ltb, eqb}
use lib.ListN.{take}
use Rattle.listing.specs.Rows.{cut_text}
use Rattle.listing.specs.Listing.{onto, lines_of, line_row, limit, rows_from}
use Rattle.listing.specs.Scanning.{Reach, say, reach, last_row}
use Rattle.listing.proofs.Texts.KeptBytes.{take_kept}
use Rattle.listing.proofs.Lines.WrongLines.{kept_row}
use Rattle.listing.proofs.Chunks.ByteByByte.{Quiet, limit_is, byte_reach, feed_reach, cut-reach}

-- all that is said of an input: its rows, and that of a last line without line feed
abbrev pub said : Reach → List ℕ
said w = w.text ++ last_row w.lines w.begun

-- ---- lines

line_then : (q r : List ℕ) → Quiet q → lines_of (q ++ (10 ∷ r)) ≡ q ∷ lines_of r
unfolding lines_of onto
line_then [] r f = refl
line_then (b ∷ q) r f = simp (ne_eqb b 10 (f zero (omega arith)), line_then q r (λ k h. f (suc k) (omega arith)))

line_alone : (b : ℕ) (q : List ℕ) → Quiet (b ∷ q) → lines_of (b ∷ q) ≡ (b ∷ q) ∷ []
unfolding lines_of onto
line_alone b [] f = simp (ne_eqb b 10 (f zero (omega arith)))
line_alone b (x ∷ q) f = ap (λ (t : Bool). cond t ([] ∷ lines_of (x ∷ q)) (onto b (lines_of (x ∷ q)))) (ne_eqb b 10 (f zero (omega arith))) ∙ ap (onto b) (line_alone x q (λ k h. f (suc k) (omega arith)))

quiet_more : (q : List ℕ) (x : ℕ) → Quiet q → (x ≡ 10 → ⊥) → Quiet (q ++ (x ∷ []))
quiet_more [] x f g zero h e = g e
quiet_more [] x f g (suc k) h e = absurd (omega arith)
quiet_more (b ∷ q) x f g zero h e = f zero (omega arith) e
quiet_more (b ∷ q) x f g (suc k) h e = quiet_more q x (λ j m. f (suc j) (omega arith)) g k (omega arith) e

-- ---- behind the last line that is read

some_lines : (ls : List (List ℕ)) (b : ℕ) → rows_from limit (onto b ls) ≡ cut_text
unfolding rows_from onto
some_lines [] b = simp (le-ltb limit limit (omega arith))
some_lines (l ∷ ls) b = simp (le-ltb limit limit (omega arith))

feed_or_not : (b : ℕ) (r : List ℕ) (t : Bool) → rows_from limit (cond t ([] ∷ lines_of r) (onto b (lines_of r))) ≡ cut_text
unfolding rows_from
feed_or_not b r true = simp (le-ltb limit limit (omega arith))
feed_or_not b r false = some_lines (lines_of r) b

at-limit : (l : List ℕ) → said (reach limit [] l) ≡ rows_from limit (lines_of l)
unfolding reach last_row rows_from lines_of
at-limit [] = refl
at-limit (b ∷ r) = ap said (cut-reach b r []) ∙ append-nil cut_text ∙ sym (feed_or_not b r (eqb b 10))

-- ---- before it

last_kept : (n : ℕ) (q : List ℕ) → n < limit → Quiet q → last_row n (take 64 q) ≡ rows_from n (lines_of q)
unfolding last_row rows_from lines_of
last_kept n [] h f = refl
last_kept n (b ∷ q) h f =
    ap (λ (t : Bool). cond t (line_row (suc n) (take 64 (b ∷ q))) []) (lt-ltb n limit h)
    ∙ kept_row (suc n) (b ∷ q)
    ∙ sym (ap (rows_from n) (line_alone b q f) ∙ ap (λ (t : Bool). cond t (line_row (suc n) (b ∷ q) ++ []) cut_text) (lt-ltb n limit h) ∙ append-nil (line_row (suc n) (b ∷ q)))

next_line : (r : List ℕ) (n : ℕ) (t : Bool) → ltb (suc n) limit ≡ t → n < limit → (suc n < limit → said (reach (suc n) [] r) ≡ rows_from (suc n) (lines_of r)) → said (reach (suc n) [] r) ≡ rows_from (suc n) (lines_of r)
next_line r n true e h ih = ih (ltb-true (suc n) limit e)
next_line r n false e h ih = let same : suc n ≡ limit = omega (arith, ltb-false (suc n) limit e) in rw same (at-limit r)

one_more : (q r : List ℕ) (n x : ℕ) (t : Bool) → eqb x 10 ≡ t → n < limit → Quiet q
    → said (reach (suc n) [] r) ≡ rows_from (suc n) (lines_of r)
    → ((x ≡ 10 → ⊥) → said (reach n (take 64 (q ++ (x ∷ []))) r) ≡ rows_from n (lines_of ((q ++ (x ∷ [])) ++ r)))
    → said (reach n (take 64 q) (x ∷ r)) ≡ rows_from n (lines_of (q ++ (x ∷ r)))
unfolding rows_from say
one_more q r n x true e h f new old =
    rw (eqb-true x 10 e)
    (ap said (feed_reach r (take 64 q) n h)
    ∙ append_assoc (line_row (suc n) (take 64 q)) (reach (suc n) [] r).text _
    ∙ ap (λ (l : List ℕ). line_row (suc n) (take 64 q) ++ l) new
    ∙ ap (λ (l : List ℕ). l ++ rows_from (suc n) (lines_of r)) (kept_row (suc n) q)
    ∙ sym (ap (rows_from n) (line_then q r f) ∙ ap (λ (t : Bool). cond t (line_row (suc n) q ++ rows_from (suc n) (lines_of r)) cut_text) (lt-ltb n limit h)))
one_more q r n x false e h f new old =
    ap said (byte_reach r (take 64 q) n x h (eqb-false x 10 e) ∙ ap (λ (p : List ℕ). reach n p r) (take_kept 64 q (x ∷ [])))
    ∙ old (eqb-false x 10 e)
    ∙ ap (λ (l : List ℕ). rows_from n (lines_of l)) (append_assoc q (x ∷ []) r)

from_here : (l q : List ℕ) (n : ℕ) → n < limit → Quiet q → said (reach n (take 64 q) l) ≡ rows_from n (lines_of (q ++ l))
unfolding reach
from_here [] q n h f = last_kept n q h f ∙ ap (λ (l : List ℕ). rows_from n (lines_of l)) (sym (append-nil q))
from_here (x ∷ r) q n h f =
    one_more q r n x (eqb x 10) refl h f
    (next_line r n (ltb (suc n) limit) refl h λ m. from_here r [] (suc n) m (λ k j e. absurd (omega arith)))
    (λ g. from_here r (q ++ (x ∷ [])) n h (quiet_more q x f g))

pub said_of_all : (input : List ℕ) → said (reach 0 [] input) ≡ rows_from 0 (lines_of input)
said_of_all input = from_here input [] 0 (omega (arith, limit_is)) (λ k j e. absurd (omega arith))
