-- The two characters of a satellite, and its number.
use mathlib.Core.Path.{◌≡◌, refl, ap₂, ◌∙◌}
use mathlib.Core.Bool.{Bool, true, false, ◌&&◌, cond}
use mathlib.Core.List.{List}
use mathlib.Core.Logic.{⊎_elim}
use Prim.Native.Nat.{ℕ, ◌+◌, ◌-◌, ◌*◌, ◌/◌, ◌%◌, ◌≤◌}
use native.Mathlib.Omega.{arith}
use lib.ListN.{get_or}
use Rattle.rows.specs.Kept.{In}
use Rattle.rows.proofs.Rules.Outcomes.{and_both}
use Rattle.rows.proofs.Rules.Spans.{in_span, span_in}
use Rattle.sentence.specs.Sentences.{satellites, figure, satellite_in}
use Rattle.sentence.specs.Reasons.{Names}

pub two-figures : (a b : ℕ) → figure a && figure b ≡ true → ((48 ≤ a) × (a ≤ 57)) × ((48 ≤ b) × (b ≤ 57))
two-figures a b e = let q = and_both (figure a) (figure b) e in (in_span 48 57 a q.0, in_span 48 57 b q.1)

-- ---- a number, and the characters that name it

-- a listed number has two figures
pub listed_below : (n : ℕ) → In satellites n → n ≤ 61
listed_below n h = ⊎_elim (λ k. omega arith) (λ k. ⊎_elim (λ j. omega arith) (λ z. absurd z) k) h

pub named_number : (s : List ℕ) (n : ℕ) → In satellites n → Names s n → satellite_in s ≡ n
unfolding satellite_in
named_number s n h e =
    let low : n ≤ 61 = listed_below n h in
    let tens : figure (0x30 + n / 10) ≡ true = span_in 0x30 0x39 (0x30 + n / 10) (omega arith, omega arith) in
    let ones : figure (0x30 + n % 10) ≡ true = span_in 0x30 0x39 (0x30 + n % 10) (omega arith, omega arith) in
    let split : (0x30 + n / 10 - 0x30) * 10 + (0x30 + n % 10 - 0x30) ≡ n = omega arith in
    ap₂ (λ (a b : ℕ). cond (figure a && figure b) ((a - 0x30) * 10 + (b - 0x30)) 0) e.0 e.1
    ∙ ap₂ (λ (a b : Bool). cond (a && b) ((0x30 + n / 10 - 0x30) * 10 + (0x30 + n % 10 - 0x30)) 0) tens ones
    ∙ split

pub listed_above : (n : ℕ) → In satellites n → 55 ≤ n
listed_above n h = ⊎_elim (λ k. omega arith) (λ k. ⊎_elim (λ j. omega arith) (λ z. absurd z) k) h

not_zero : In satellites 0 → ⊥
not_zero i = omega (arith, listed_above 0 i)

tens : (a b : ℕ) → 48 ≤ a → a ≤ 57 → 48 ≤ b → b ≤ 57 → a ≡ 0x30 + ((a - 0x30) * 10 + (b - 0x30)) / 10
tens a b h i j k = omega arith

ones : (a b : ℕ) → 48 ≤ a → a ≤ 57 → 48 ≤ b → b ≤ 57 → b ≡ 0x30 + ((a - 0x30) * 10 + (b - 0x30)) % 10
ones a b h i j k = omega arith

-- 0 is not listed, so a number that is comes of two figures
pub number_named : (s : List ℕ) → In satellites (satellite_in s) → Names s (satellite_in s)
unfolding satellite_in
number_named s h = by (figure (get_or s 7 0) && figure (get_or s 8 0)) refl h
  where
    a : ℕ
    a = get_or s 7 0

    b : ℕ
    b = get_or s 8 0

    number : Bool → ℕ
    number t = cond t ((a - 0x30) * 10 + (b - 0x30)) 0

    by : (t : Bool) → figure a && figure b ≡ t → In satellites (number t) → (a ≡ 0x30 + number t / 10) × (b ≡ 0x30 + number t % 10)
    by true e i = let q = two-figures a b e in (tens a b q.0.0 q.0.1 q.1.0 q.1.1, ones a b q.0.0 q.0.1 q.1.0 q.1.1)
    by false e i = absurd (not_zero i)
