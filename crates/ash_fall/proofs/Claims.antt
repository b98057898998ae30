-- What is claimed of what a place says.
use mathlib.Core.Path.{◌≡◌, refl}
use mathlib.Core.Bool.{Bool, true, false, ◌&&◌, cond}
use Prim.Native.Nat.{ℕ, ◌/◌, ◌≤◌}
use native.Mathlib.Omega.{arith}
use lib.Dec.{leb}
use Rattle.rows.proofs.Rules.Spans.{in_span, span_in, span_out}
use Rattle.std.specs.Prelude.{Some, None}
use Rattle.ash_fall.specs.Meaning.{prefecture_of}

-- "A place divided by 100000, remainder dropped, is its prefecture, 1 to 47": no other number is ever told ..
pub a_prefecture_is_1_to_47 : (place n : ℕ) → prefecture_of place ≡ Some n → (n ≡ place / 100000) × ((1 ≤ n) × (n ≤ 47))
unfolding prefecture_of
a_prefecture_is_1_to_47 place n e = by (leb 100000 place && leb place 4799999) refl e
  where
    bounds : (n : ℕ) → (100000 ≤ place) × (place ≤ 4799999) → n ≡ place / 100000 → (1 ≤ n) × (n ≤ 47)
    bounds n h s = (omega arith, omega arith)

    by : (b : Bool) → leb 100000 place && leb place 4799999 ≡ b → cond b (Some (place / 100000)) None ≡ Some n → (n ≡ place / 100000) × ((1 ≤ n) × (n ≤ 47))
    by true t e = let same : n ≡ place / 100000 = cc in (same, bounds n (in_span 100000 4799999 place t) same)
    by false t e = absurd (let z : ◌≡◌ {A = ℕ} 0 1 = cc in omega arith)

-- .. each place from 100000 to 4799999 has one ..
pub each_place_has_a_prefecture : (place : ℕ) → 100000 ≤ place → place ≤ 4799999 → prefecture_of place ≡ Some (place / 100000)
unfolding prefecture_of
each_place_has_a_prefecture place low high = simp (span_in 100000 4799999 place (low, high))

-- .. and none that lies elsewhere has: not "an empty slot named by the first row of a table"
pub no_other_place_has_a_prefecture : (place : ℕ) → ((100000 ≤ place) × (place ≤ 4799999) → ⊥) → prefecture_of place ≡ None
unfolding prefecture_of
no_other_place_has_a_prefecture place out = simp (span_out 100000 4799999 place out)

pub an_empty_slot_names_none : prefecture_of 0 ≡ None
unfolding prefecture_of
an_empty_slot_names_none = refl
