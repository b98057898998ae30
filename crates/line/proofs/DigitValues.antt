-- What a byte of a line is worth, and how the code tells it. What holds of every byte is one computed test.
use Rattle.std.specs.Prelude.{Option, Some, None, is_some}
use Rattle.std.specs.Option.{unwrap_or}
use mathlib.Core.Path.{◌≡◌, refl, sym, ap, ◌∙◌}
use mathlib.Core.Bool.{Bool, true, false, ◌&&◌, cond}
use mathlib.Core.Logic.{⊎_elim}
use mathlib.Core.List.{List, [], ◌∷◌}
use Prim.Native.Nat.{ℕ, ◌+◌, ◌-◌, ◌≤◌, ◌<◌}
use native.Mathlib.Omega.{arith}
use lib.ListN.{get_or}
use lib.Bits.{bit_or}
use lib.Dec.{leb}
use borrow.Author.Tests.{leb-true}
use Rattle.rows.specs.Layout.{Span, ◌to◌}
use Rattle.rows.specs.Runs.Verdict.{allowed}
use Rattle.rows.specs.Values.{each}
use Rattle.rows.proofs.Rules.Spans.{allowed_in, span_in, span_out}
use Rattle.rows.proofs.Layouts.Lengths.{each_at}
use Rattle.line.specs.Lines.{digits, worth, digit_of, capital, upper}

-- ---- two tables that are the same

agree : {A : Type 0} (n : ℕ) (f g : ℕ → A) → each n f ≡ each n g → (i : ℕ) → i < n → f i ≡ g i
agree n f g e i h = sym (each_at n f (f 0) i h) ∙ ap (λ l. get_or l i (f 0)) e ∙ each_at n g (f 0) i h

-- ---- the tests of the code

-- a byte from 0 to 9, or one that is from a to f with 32 set
abbrev tested : ℕ → Option ℕ
tested b = cond (leb 48 b && leb b 57) (Some (b - 48)) (cond (leb 97 (bit_or b 32) && leb (bit_or b 32) 102) (Some (bit_or b 32 - 97 + 10)) None)

tests_agree : each 256 tested ≡ each 256 digit_of
unfolding allowed
tests_agree = refl

module _ (b : ℕ) (h : b < 256) where
  pub figure_digit : (48 ≤ b) × (b ≤ 57) → Some (b - 48) ≡ digit_of b
  figure_digit f = rw (span_in 48 57 b f) at (agree 256 tested digit_of tests_agree b h)

  pub letter_digit : ((48 ≤ b) × (b ≤ 57) → ⊥) → (97 ≤ bit_or b 32) × (bit_or b 32 ≤ 102) → Some (bit_or b 32 - 97 + 10) ≡ digit_of b
  letter_digit f l = rw (span_out 48 57 b f, span_in 97 102 (bit_or b 32) l) at (agree 256 tested digit_of tests_agree b h)

  pub no_digit : ((48 ≤ b) × (b ≤ 57) → ⊥) → ((97 ≤ bit_or b 32) × (bit_or b 32 ≤ 102) → ⊥) → None ≡ digit_of b
  no_digit f l = rw (span_out 48 57 b f, span_out 97 102 (bit_or b 32) l) at (agree 256 tested digit_of tests_agree b h)

all_small : each 256 (λ b. cond (allowed digits b) (leb (worth b) 15) true) ≡ each 256 (λ b. true)
unfolding allowed
all_small = refl

small_byte : (b : ℕ) → b < 256 → allowed digits b ≡ true → worth b ≤ 15
small_byte b h e =
    leb-true (worth b) 15
    (sym (ap (λ (t : Bool). cond t (leb (worth b) 15) true) e) ∙ agree 256 (λ b. cond (allowed digits b) (leb (worth b) 15) true) (λ b. true) all_small b h)

-- ---- there and back

-- a digit is a byte, for the last one is f
digit_byte : (b : ℕ) → allowed digits b ≡ true → b < 256
digit_byte b e = ⊎_elim (λ h. omega arith) (λ k. ⊎_elim (λ h. omega arith) (λ j. ⊎_elim (λ h. omega arith) (λ n. absurd n) j) k) (allowed_in digits b e)

pub worth_small : (b : ℕ) → allowed digits b ≡ true → worth b < 16
worth_small b e = omega (arith, small_byte b (digit_byte b e) e)

-- what the code finds of a byte: whether it is a digit ..
pub digit_tells : (b : ℕ) → is_some (digit_of b) ≡ allowed digits b
digit_tells b = by (allowed digits b)
  where
    by : (t : Bool) → is_some (cond t (Some (worth b)) None) ≡ t
    by true = refl
    by false = refl

-- .. and what it is worth, 0 where it is none
abbrev pub worth_found : ℕ → ℕ
worth_found b = unwrap_or (digit_of b) 0

pub digit_worth : (b : ℕ) → allowed digits b ≡ true → worth_found b ≡ worth b
digit_worth b e = ap (λ (t : Bool). unwrap_or (cond t (Some (worth b)) None) 0) e

-- a number is found of a digit alone, and it is what that is worth
pub digit_found : (b v : ℕ) → digit_of b ≡ Some v → (allowed digits b ≡ true) × (v ≡ worth b)
digit_found b v e = by (allowed digits b) refl e
  where
    by : (t : Bool) → allowed digits b ≡ t → cond t (Some (worth b)) None ≡ Some v → (allowed digits b ≡ true) × (v ≡ worth b)
    by true a f = (a, cc)
    by false a f = cc

pub digit_missed : (b : ℕ) → digit_of b ≡ None → allowed digits b ≡ false
digit_missed b e = by (allowed digits b) refl e
  where
    by : (t : Bool) → allowed digits b ≡ t → cond t (Some (worth b)) None ≡ None → allowed digits b ≡ false
    by true a f = cc
    by false a f = a

pub digit_small : (b v : ℕ) → digit_of b ≡ Some v → v < 16
digit_small b v e = let q = digit_found b v e in rw q.1 (worth_small b q.0)

pub worth_small_found : (b : ℕ) → worth_found b < 16
worth_small_found b = by (allowed digits b) refl
  where
    by : (t : Bool) → allowed digits b ≡ t → worth_found b < 16
    by true e = rw (digit_worth b e) (worth_small b e)
    by false e = rw e (omega arith)

capitals_are_digits : each 16 (λ d. allowed digits (capital d)) ≡ each 16 (λ d. true)
unfolding allowed
capitals_are_digits = refl

pub capital_digit : (d : ℕ) → d < 16 → allowed digits (capital d) ≡ true
capital_digit d h = agree 16 (λ d. allowed digits (capital d)) (λ d. true) capitals_are_digits d h

pub capital-worth : (d : ℕ) → d < 16 → worth (capital d) ≡ d
capital-worth d h = agree 16 (λ d. worth (capital d)) (λ d. d) refl d h

digits_again : each 256 (λ b. cond (allowed digits b) (capital (worth b)) 0) ≡ each 256 (λ b. cond (allowed digits b) (upper b) 0)
unfolding allowed
digits_again = refl

pub worth-capital : (b : ℕ) → allowed digits b ≡ true → capital (worth b) ≡ upper b
worth-capital b e =
    sym (ap (λ (t : Bool). cond t (capital (worth b)) 0) e)
    ∙ agree 256 (λ b. cond (allowed digits b) (capital (worth b)) 0) (λ b. cond (allowed digits b) (upper b) 0) digits_again b (digit_byte b e)
    ∙ ap (λ (t : Bool). cond t (upper b) 0) e

-- ---- either case

abbrev small_letters : List Span
small_letters = 0x61 to 0x66 ∷ []

-- what holds of the small letters and of what is left alone holds of every byte
either : {A : Type 0} (f : ℕ → A) → each 256 (λ b. f (upper b)) ≡ each 256 f → (b : ℕ) → f (upper b) ≡ f b
either f same b = by (allowed small_letters b) refl
  where
    by : (t : Bool) → allowed small_letters b ≡ t → f (upper b) ≡ f b
    by true e = agree 256 (λ b. f (upper b)) f same b (⊎_elim (λ h. omega arith) (λ n. absurd n) (allowed_in small_letters b e))
    by false e = ap (λ (t : Bool). f (cond t (b - 0x20) b)) e

same_worths : each 256 (λ b. worth (upper b)) ≡ each 256 worth
unfolding allowed
same_worths = refl

pub upper-worth : (b : ℕ) → worth (upper b) ≡ worth b
upper-worth b = either worth same_worths b

same_digits : each 256 (λ b. allowed digits (upper b)) ≡ each 256 (λ b. allowed digits b)
unfolding allowed
same_digits = refl

pub upper_digit : (b : ℕ) → allowed digits (upper b) ≡ allowed digits b
upper_digit b = either (allowed digits) same_digits b
