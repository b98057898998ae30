-- What a word says of a call: a refusal's word has a high byte, and no other has.
use Rattle.bulletin.specs.declared.take.Took.TheVariants.{New, Same, Disputed}
use Rattle.bulletin.specs.Takings.{Taken}
use Rattle.std.specs.Prelude.{Ok, Err}
use mathlib.Core.Path.{◌≡◌, refl, sym, ap, ◌∙◌}
use Prim.Native.Nat.{ℕ, ◌+◌, ◌*◌, ◌/◌, ◌%◌, ◌^◌, ◌≤◌, ◌<◌}
use mathlib.Core.List.{List, [], ◌∷◌}
use lib.ListN.{get_or}
use native.Mathlib.Omega.{arith}
use Rattle.rows.specs.declared.refusal.Refusal.{Refusal}
use Rattle.rows.specs.declared.refusal.Said.{Said}
use Rattle.rows.specs.Refusals.{plain, says, answers, Verdict}
use Rattle.rows.proofs.Rules.Numbers.{says_apart, says-numbered}
use Rattle.inserter.specs.Answers.{answer_word, taken_word, word_bytes, InBytes, IsRefusal}

high : (s : Said) → 1 ≤ s.number → IsRefusal (answer_word s)
high s h = omega arith

pub refusal_is_high : (x : Refusal) → IsRefusal (answer_word (says x))
refusal_is_high x = high (says x) (says-numbered x).0

-- each part stands in a byte of its own
pub four_bytes : (s : Said) → InBytes s → word_bytes (answer_word s) ≡ s.number ∷ s.place ∷ s.page ∷ s.mark ∷ []
four_bytes s h =
    λ i. first s.number s.place s.page s.mark h.place h.page h.mark i
    ∷ second s.number s.place s.page s.mark h.place h.page h.mark i
    ∷ third s.number s.place s.page s.mark h.page h.mark i
    ∷ fourth s.number s.place s.page s.mark h.mark i ∷ []
  where
    first : (a b c d : ℕ) → b < 256 → c < 256 → d < 256 → (a * 2 ^ 24 + b * 2 ^ 16 + c * 2 ^ 8 + d) / 2 ^ 24 ≡ a
    first a b c d p q r = omega arith

    second : (a b c d : ℕ) → b < 256 → c < 256 → d < 256 → (a * 2 ^ 24 + b * 2 ^ 16 + c * 2 ^ 8 + d) / 2 ^ 16 % 256 ≡ b
    second a b c d p q r = omega arith

    third : (a b c d : ℕ) → c < 256 → d < 256 → (a * 2 ^ 24 + b * 2 ^ 16 + c * 2 ^ 8 + d) / 2 ^ 8 % 256 ≡ c
    third a b c d q r = omega arith

    fourth : (a b c d : ℕ) → d < 256 → (a * 2 ^ 24 + b * 2 ^ 16 + c * 2 ^ 8 + d) % 256 ≡ d
    fourth a b c d r = omega arith

-- so the words of two refusals differ, or their values do
pub words_apart : (x y : Refusal) → InBytes (says x) → InBytes (says y) → answer_word (says x) ≡ answer_word (says y) → (says x).value ≡ (says y).value → x ≡ y
words_apart x y p q e f =
    let same : ((says x).number ∷ (says x).place ∷ (says x).page ∷ (says x).mark ∷ []) ≡ ((says y).number ∷ (says y).place ∷ (says y).page ∷ (says y).mark ∷ []) =
    sym (four_bytes (says x) p) ∙ ap word_bytes e ∙ four_bytes (says y) q
    in
    let at : (i : ℕ) → get_or ((says x).number ∷ (says x).place ∷ (says x).page ∷ (says x).mark ∷ []) i 0 ≡ get_or ((says y).number ∷ (says y).place ∷ (says y).page ∷ (says y).mark ∷ []) i 0 = λ i. ap (λ (l : List ℕ). get_or l i 0) same in
    says_apart x y (λ i. record { number = at 0 i; place = at 1 i; value = f i; page = at 2 i; mark = at 3 i })

pub wrong_call_is_high : IsRefusal (answer_word (plain 255))
wrong_call_is_high = omega arith

-- ---- of a verdict, and of a taking

pub fine_word : (v : Verdict) → answer_word (answers v) ≡ 0 → v ≡ Ok tt
fine_word (Ok tt) e = refl
fine_word (Err x) e = let h : 2 ^ 24 ≤ answer_word (says x) = refusal_is_high x in absurd (omega (arith, h, e))

pub low_word : (v : Verdict) → v ≡ Ok tt → answer_word (answers v) ≡ 0
low_word v e = rw e refl

pub taken_is_low : (t : Taken) → ((x : Refusal) → t ≡ Err x → ⊥) → taken_word t ≤ 3
taken_is_low (Ok New) h = omega arith
taken_is_low (Ok Same) h = omega arith
taken_is_low (Ok Disputed) h = omega arith
taken_is_low (Err x) h = absurd (h x refl)
