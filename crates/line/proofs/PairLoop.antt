-- The loop that writes a line: two digits of it at a time, from two places on.
use Rattle.std.specs.Prelude.{Ok}
use mathlib.Core.Path.{◌≡◌, refl, sym, ap, ap₂, ◌∙◌}
use mathlib.Core.Bool.{Bool, true, false}
use mathlib.Core.List.{List, ◌++◌}
use Prim.Native.Nat.{ℕ, ◌+◌, ◌*◌, ◌/◌, ◌%◌, ◌≤◌, ◌<◌}
use native.Mathlib.Omega.{arith}
use borrow.Author.Tests.{eqb-true, eqb-false, eq-eqb, ne_eqb, ltb-true, ltb-false, le-leb}
use lib.Dec.{eqb, ltb}
use lib.ListN.{length, get_or, set, take, drop, length-set, take-append-drop}
use lib.Seq.{get_or-set_same, get_or-set_other, get_or-take, length-take-le, ext_get_or, drop-set-lt, take_all}
use Rattle.bits.specs.Frame.{field_of}
use Rattle.bits.proofs.ByteLoops.{copy_more, drop_more}
use Rattle.line.specs.Lines.{capital, line_of, line_answer, line_into}
use Rattle.line.proofs.Pairs.{line_length, digit_at}

-- a place that is given its own element of l
own : (l o : List ℕ) (j k : ℕ) → j < length o → ((k ≡ j → ⊥) → get_or o k 0 ≡ get_or l k 0) → get_or (set o j (get_or l j 0)) k 0 ≡ get_or l k 0
own l o j k h other = by (eqb k j) refl
  where
    by : (t : Bool) → eqb k j ≡ t → get_or (set o j (get_or l j 0)) k 0 ≡ get_or l k 0
    by true e = rw (eqb-true k j e) (get_or-set_same o j (get_or l j 0) 0 h)
    by false e = get_or-set_other o j k (get_or l j 0) 0 (eqb-false k j e) ∙ other (eqb-false k j e)

-- the two digits of a byte in their places
abbrev with_pair : List ℕ → ℕ → ℕ → List ℕ
with_pair o i b = set (set o (2 * i) (capital (b / 16))) (2 * i + 1) (capital (b % 16))

pair_length : (o : List ℕ) (i b : ℕ) → length (with_pair o i b) ≡ length o
pair_length o i b = simp length-set

pair_behind : (o : List ℕ) (i b : ℕ) → 2 * i + 1 < 62 → drop 62 (with_pair o i b) ≡ drop 62 o
pair_behind o i b h = drop-set-lt 62 (set o (2 * i) (capital (b / 16))) (2 * i + 1) (capital (b % 16)) h ∙ drop-set-lt 62 o (2 * i) (capital (b / 16)) (omega arith)

module _ (s : List ℕ) (n : length s ≡ 32) where
  pub high_digit : (i : ℕ) → 2 * i < 63 → capital (get_or s i 0 / 16) ≡ get_or (line_of s) (2 * i) 0
  high_digit i h =
      let e : 2 * i / 2 ≡ i = omega arith in
      sym (digit_at s n (2 * i) h ∙ rw (eq-eqb (2 * i % 2) 0 (omega arith), e))

  low_digit : (i : ℕ) → 2 * i + 1 < 63 → capital (get_or s i 0 % 16) ≡ get_or (line_of s) (2 * i + 1) 0
  low_digit i h =
      let e : (2 * i + 1) / 2 ≡ i = omega arith in
      let odd : (2 * i + 1) % 2 ≡ 0 → ⊥ = λ z. omega arith in
      sym (digit_at s n (2 * i + 1) h ∙ rw (ne_eqb ((2 * i + 1) % 2) 0 odd, e))

  pair_own : (o : List ℕ) (i k : ℕ) → 2 * i + 1 < length o → 2 * i + 1 < 63 → ((k ≡ 2 * i → ⊥) → (k ≡ 2 * i + 1 → ⊥) → get_or o k 0 ≡ get_or (line_of s) k 0)
      → get_or (with_pair o i (get_or s i 0)) k 0 ≡ get_or (line_of s) k 0
  pair_own o i k r h other =
      rw (high_digit i (omega arith), low_digit i h)
      (own (line_of s) (set o (2 * i) (get_or (line_of s) (2 * i) 0)) (2 * i + 1) k (omega (arith, length-set o (2 * i) (get_or (line_of s) (2 * i) 0)))
      λ p. own (line_of s) o (2 * i) k (omega arith) λ q. other q p)

-- `o` has the digits of the first i bytes and of i bytes from byte 15 on, and `b` behind them all
pub record Begun (s b o : List ℕ) (i : ℕ) : Type 0 where
  pub long : length o ≡ length b
  pub first : (k : ℕ) → k < 2 * i → get_or o k 0 ≡ get_or (line_of s) k 0
  pub later : (k : ℕ) → 30 ≤ k → k < 30 + 2 * i → get_or o k 0 ≡ get_or (line_of s) k 0
  pub behind : drop 62 o ≡ drop 62 b

pub not_begun : (s b : List ℕ) → Begun s b b 0
not_begun s b = record { long = refl; first = λ k h. absurd (omega arith); later = λ k l h. absurd (omega arith); behind = refl }

module _ (s : List ℕ) (n : length s ≡ 32) (b o : List ℕ) (room : 63 ≤ length b) where
  two_more : (i : ℕ) → i < 16 → Begun s b o i → Begun s b (with_pair (with_pair o i (get_or s i 0)) (i + 15) (get_or s (i + 15) 0)) (i + 1)
  two_more i h v =
      let m = with_pair o i (get_or s i 0) in
      let l₁ : length m ≡ length o = pair_length o i (get_or s i 0) in
      let l₀ : length o ≡ length b = v.long in
      record {
        long = pair_length m (i + 15) (get_or s (i + 15) 0) ∙ l₁ ∙ l₀;
        first =
            λ k f. pair_own s n m (i + 15) k (omega arith) (omega arith)
            λ p q. pair_own s n o i k (omega arith) (omega arith)
            λ x y. v.first k (omega arith);
        later =
            λ k e f. pair_own s n m (i + 15) k (omega arith) (omega arith)
            λ p q. pair_own s n o i k (omega arith) (omega arith)
            λ x y. v.later k e (omega arith);
        behind = pair_behind m (i + 15) (get_or s (i + 15) 0) (omega arith) ∙ pair_behind o i (get_or s i 0) (omega arith) ∙ v.behind;
      }

  pub pairs_more : (i : ℕ) (m r : List ℕ) → i < 16 → m ≡ with_pair o i (get_or s i 0) → r ≡ with_pair m (i + 15) (get_or s (i + 15) 0) → Begun s b o i → Begun s b r (i + 1)
  pairs_more i m r h e f v = rw (f, e) (two_more i h v)

  -- all but the last digit
  pub pairs_done : Begun s b o 16 → take 62 o ≡ take 62 (line_of s)
  pairs_done v =
      let lo : length (take 62 o) ≡ 62 = length-take-le 62 o (omega (arith, v.long)) in
      let ll : length (take 62 (line_of s)) ≡ 62 = length-take-le 62 (line_of s) (omega (arith, line_length s n)) in
      ext_get_or 0 (take 62 o) (take 62 (line_of s)) (lo ∙ sym ll) λ k h.
      let inside : k < 62 = omega arith in
      get_or-take 62 o k 0 inside ∙ by k inside (ltb k 32) refl ∙ sym (get_or-take 62 (line_of s) k 0 inside)
    where
      by : (k : ℕ) → k < 62 → (t : Bool) → ltb k 32 ≡ t → get_or o k 0 ≡ get_or (line_of s) k 0
      by k h true e = v.first k (ltb-true k 32 e)
      by k h false e = v.later k (omega (arith, ltb-false k 32 e)) h

  -- the last digit stands alone; what stood behind it stays
  pub line_done : Begun s b o 16 → set o 62 (capital (get_or s 31 0 / 16)) ≡ line_of s ++ drop 63 b
  line_done v =
      let l = line_of s in
      let long : length l ≡ 63 = line_length s n in
      let front : take 63 (set o 62 (get_or l 62 0)) ≡ take 63 l = copy_more l o 62 (omega arith) (omega (arith, v.long)) (pairs_done v) in
      ap (λ (d : ℕ). set o 62 d) (high_digit s n 31 (omega arith))
      ∙ sym (take-append-drop 63 (set o 62 (get_or l 62 0)))
      ∙ ap₂ (λ (x y : List ℕ). x ++ y) (front ∙ take_all 63 l (omega arith)) (drop_more b o 62 (get_or l 62 0) v.behind)

  pub written : (o : List ℕ) → field_of s 250 6 ≡ 0 → o ≡ line_of s ++ drop 63 b → (Ok tt ≡ line_answer s (length b)) × (o ≡ line_into s b)
  unfolding line_answer
  written r p e = simp (eq-eqb (length s) 32 n, eq-eqb (field_of s 250 6) 0 p, le-leb 63 (length b) room) (refl, e)
