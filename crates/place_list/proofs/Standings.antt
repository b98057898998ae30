-- How a place stands to the table, by where it lies.
use mathlib.Core.Path.{◌≡◌, ◌∙◌, refl, sym, ap, subst}
use mathlib.Core.Bool.{Bool, true, false, ◌&&◌, cond, true≢false}
use Prim.Native.Nat.{ℕ, zero, suc, ◌+◌, ◌*◌, ◌/◌, ◌≤◌, ◌<◌}
use native.Mathlib.Omega.{arith}
use lib.Dec.{leb, eqb}
use borrow.Author.Tests.{le-leb, lt-leb, leb-true, eqb-true, eqb-false}
use Rattle.place_list.specs.Codes.{codes}
use Rattle.place_list.specs.Standing.{listed, in_prefecture, standing_of}
use Rattle.place_list.specs.declared.Standing.{Standing}
use Rattle.place_list.specs.declared.Standing.TheVariants.{Listed, Unlisted, Outside}
use Rattle.place_list.proofs.Entries.{Entry, entry_listed, listed_entry}
use Rattle.place_list.proofs.Rules.{in_prefecture_lem}
use Rattle.std.proofs.lemmas.Bool.{and_parts, false_from_ne_true}

-- ---- a prefecture's first digits

abbrev pub Digits : ℕ → Type 0
Digits place = (1 ≤ place / 100000) × (place / 100000 ≤ 47)

pub digits-within : (place : ℕ) → Digits place → in_prefecture place ≡ true
unfolding in_prefecture
digits-within place d = simp (le-leb 1 (place / 100000) d.0, le-leb (place / 100000) 47 d.1)

pub within-digits : (place : ℕ) → in_prefecture place ≡ true → Digits place
unfolding in_prefecture
within-digits place e =
    let a = leb 1 (place / 100000) in
    let b = leb (place / 100000) 47 in
    (leb-true 1 (place / 100000) (and_parts a b e).0, leb-true (place / 100000) 47 (and_parts a b e).1)

pub within : (place : ℕ) → 100000 ≤ place → place ≤ 4799999 → in_prefecture place ≡ true
within place low high = digits-within place (omega arith, omega arith)

pub below : (place : ℕ) → place < 100000 → in_prefecture place ≡ false
unfolding in_prefecture
below place h = simp (lt-leb 1 (place / 100000) (omega arith))

pub beyond : (place : ℕ) → 4799999 < place → in_prefecture place ≡ false
unfolding in_prefecture
beyond place h = simp (le-leb 1 (place / 100000) (omega arith), lt-leb (place / 100000) 47 (omega arith))

-- ---- what the table has lies in a prefecture

pub listed-within : (place : ℕ) → listed place ≡ true → in_prefecture place ≡ true
listed-within place e =
    let k = listed_entry place e in
    ap in_prefecture (sym k.here) ∙ in_prefecture_lem k.index k.within

-- ---- the three answers

pub is_listed : (place : ℕ) → listed place ≡ true → standing_of place ≡ Listed
unfolding standing_of
is_listed place e = simp e

pub is_unlisted : (place : ℕ) → listed place ≡ false → in_prefecture place ≡ true → standing_of place ≡ Unlisted
unfolding standing_of
is_unlisted place e p = simp (e, p)

pub is_outside : (place : ℕ) → in_prefecture place ≡ false → standing_of place ≡ Outside
unfolding standing_of
is_outside place p = by (listed place) refl
  where
    by : (b : Bool) → listed place ≡ b → cond b Listed (cond (in_prefecture place) Unlisted Outside) ≡ Outside
    by true e = absurd (true≢false (sym (listed-within place e) ∙ p))
    by false e = simp p

-- ---- what each answer means, and that it is given exactly there

pub entry_is_listed : (place : ℕ) → Entry place → listed place ≡ true
entry_is_listed place k = ap listed (sym k.here) ∙ entry_listed k.index k.within

abbrev pub Meant : ℕ → Standing → Type 0
Meant place Listed = Entry place
Meant place Unlisted = (Entry place → ⊥) × Digits place
Meant place Outside = Digits place → ⊥

pub meant : (place : ℕ) (s : Standing) → standing_of place ≡ s → Meant place s
meant place s e = subst (Meant place) e (by (listed place) refl (in_prefecture place) refl)
  where
    by : (a : Bool) → listed place ≡ a → (b : Bool) → in_prefecture place ≡ b → Meant place (standing_of place)
    by true l b p = subst (Meant place) (sym (is_listed place l)) (listed_entry place l)
    by false l true p = subst (Meant place) (sym (is_unlisted place l p)) (λ k. true≢false (sym (entry_is_listed place k) ∙ l), within-digits place p)
    by false l false p = subst (Meant place) (sym (is_outside place p)) (λ d. true≢false (sym (digits-within place d) ∙ p))

pub given : (place : ℕ) (s : Standing) → Meant place s → standing_of place ≡ s
given place Listed k = is_listed place (entry_is_listed place k)
given place Unlisted n = is_unlisted place (false_from_ne_true (listed place) (λ e. n.0 (listed_entry place e))) (digits-within place n.1)
given place Outside n = is_outside place (false_from_ne_true (in_prefecture place) (λ e. n (within-digits place e)))

-- ---- the codes for other places

abbrev others : ℕ → Bool
others zero = true
others (suc p) = listed (suc p * 100000 + 99999) && others p

others-at : (n p : ℕ) → others n ≡ true → 1 ≤ p → p ≤ n → listed (p * 100000 + 99999) ≡ true
others-at zero p e low high = absurd (omega (arith, low, high))
others-at (suc n) p e low high = by (eqb p (suc n)) refl (others-at n p (and_parts (listed (suc n * 100000 + 99999)) (others n) e).1 low)
  where
    by : (b : Bool) → eqb p (suc n) ≡ b → (p ≤ n → listed (p * 100000 + 99999) ≡ true) → listed (p * 100000 + 99999) ≡ true
    by true q later = ap (λ (p : ℕ). listed (p * 100000 + 99999)) (eqb-true p (suc n) q) ∙ (and_parts (listed (suc n * 100000 + 99999)) (others n) e).0
    by false q later = later (omega (arith, high, eqb-false p (suc n) q))

all_others : others 47 ≡ true
unfolding listed codes
all_others = refl

pub others-listed : (p : ℕ) → 1 ≤ p → p ≤ 47 → standing_of (p * 100000 + 99999) ≡ Listed
others-listed p low high = is_listed (p * 100000 + 99999) (others-at 47 p all_others low high)
