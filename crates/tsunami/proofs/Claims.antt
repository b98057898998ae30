-- What is claimed of an area: what its arrival and its height say, and which areas keep their rules.
use mathlib.Core.Path.{◌≡◌, refl}
use mathlib.Core.Bool.{Bool, true, false, ◌&&◌, cond}
use mathlib.Core.Logic.{◌⊎◌, inl, inr, ⊎_elim, ◌↔◌}
use mathlib.Core.List.{List, [], ◌∷◌}
use Prim.Native.Nat.{ℕ, ◌≤◌}
use native.Mathlib.Omega.{arith}
use lib.Dec.{eqb, leb}
use borrow.Author.Tests.{eqb-true, eqb-false, leb-true, le-leb, ne_eqb}
use Rattle.rows.specs.Kept.{AllNormal, Kept}
use Rattle.rows.specs.Layout.{Row, row, within, codes_of}
use Rattle.rows.proofs.Rules.Outcomes.{and_both, not-true}
use Rattle.rows.proofs.Rules.Spans.{in_span, one_span, span_in, span_out}
use Rattle.rows.proofs.Rules.Groups.{group_kept}
use Rattle.tsunami.specs.declared.meaning.Arrival.TheVariants.{At, Arrived, OutOfRange}
use Rattle.tsunami.specs.declared.meaning.Height.TheVariants.{Code, Unknown, OutOfRange as NoHeight}
use Rattle.tsunami.specs.Meaning.{arrived, arrival_of, height_of}
use Rattle.tsunami.specs.Tsunami.{areas, arrivals}

-- ---- the arrival

both_codes : (hour minute : ℕ) → arrived hour minute ≡ true → (hour ≡ 31) × (minute ≡ 63)
both_codes hour minute e = let q = and_both (eqb hour 31) (eqb minute 63) e in (eqb-true hour 31 q.0, eqb-true minute 63 q.1)

time_of_day : (hour minute : ℕ) → leb hour 23 && leb minute 59 ≡ true → (hour ≤ 23) × (minute ≤ 59)
time_of_day hour minute e = let q = and_both (leb hour 23) (leb minute 59) e in (leb-true hour 23 q.0, leb-true minute 59 q.1)

-- "The codes in that table which say that no hour is given are values with names, not hours": 31 with 63 says that the wave has
-- arrived ..
pub hour_31_with_minute_63_has_arrived : arrival_of 31 63 ≡ Arrived
unfolding arrival_of
hour_31_with_minute_63_has_arrived = refl

-- .. and nothing else says so
pub only_31_with_63_has_arrived : (hour minute : ℕ) → arrival_of hour minute ≡ Arrived → (hour ≡ 31) × (minute ≡ 63)
unfolding arrival_of
only_31_with_63_has_arrived hour minute e = by (arrived hour minute) (leb hour 23 && leb minute 59) refl e
  where
    by : (a b : Bool) → arrived hour minute ≡ a → cond a Arrived (cond b (At hour minute) OutOfRange) ≡ Arrived → (hour ≡ 31) × (minute ≡ 63)
    by true b t e = both_codes hour minute t
    by false true t e = absurd (let z : ◌≡◌ {A = ℕ} 0 1 = cc in omega arith)
    by false false t e = absurd (let z : ◌≡◌ {A = ℕ} 0 1 = cc in omega arith)

-- each time of a day is told as it is ..
pub each_time_is_told : (hour minute : ℕ) → hour ≤ 23 → minute ≤ 59 → arrival_of hour minute ≡ At hour minute
unfolding arrival_of
each_time_is_told hour minute h m =
    let n : hour ≡ 31 → ⊥ = λ e. omega arith in
    simp (ne_eqb hour 31 n, le-leb hour 23 h, le-leb minute 59 m)

-- .. and no code is ever told as an hour or a minute
pub only_a_time_is_told : (hour minute x y : ℕ) → arrival_of hour minute ≡ At x y → ((x ≡ hour) × (y ≡ minute)) × ((hour ≤ 23) × (minute ≤ 59))
unfolding arrival_of
only_a_time_is_told hour minute x y e = by (arrived hour minute) (leb hour 23 && leb minute 59) refl e
  where
    by : (a b : Bool) → leb hour 23 && leb minute 59 ≡ b → cond a Arrived (cond b (At hour minute) OutOfRange) ≡ At x y
        → ((x ≡ hour) × (y ≡ minute)) × ((hour ≤ 23) × (minute ≤ 59))
    by true b t e = absurd (let z : ◌≡◌ {A = ℕ} 0 1 = cc in omega arith)
    by false true t e = ((let p : x ≡ hour = cc in p, let q : y ≡ minute = cc in q), time_of_day hour minute t)
    by false false t e = absurd (let z : ◌≡◌ {A = ℕ} 0 1 = cc in omega arith)

-- "a mixture" says nothing
pub nothing_else_is_an_arrival : (hour minute : ℕ) → ((hour ≡ 31) × (minute ≡ 63) → ⊥) → ((hour ≤ 23) × (minute ≤ 59) → ⊥)
    → arrival_of hour minute ≡ OutOfRange
unfolding arrival_of
nothing_else_is_an_arrival hour minute n m = simp (
  not-true (arrived hour minute) (λ e. n (both_codes hour minute e)),
  not-true (leb hour 23 && leb minute 59) (λ e. m (time_of_day hour minute e)),
)

-- ---- the height

-- 14 says that the height is unknown ..
pub height_14_is_unknown : height_of 14 ≡ Unknown
unfolding height_of
height_14_is_unknown = refl

-- .. and nothing else says so
pub only_14_is_unknown : (code : ℕ) → height_of code ≡ Unknown → code ≡ 14
unfolding height_of
only_14_is_unknown code e = by (eqb code 14) (leb 1 code && leb code 15) refl e
  where
    by : (a b : Bool) → eqb code 14 ≡ a → cond a Unknown (cond b (Code code) NoHeight) ≡ Unknown → code ≡ 14
    by true b t e = eqb-true code 14 t
    by false true t e = absurd (let z : ◌≡◌ {A = ℕ} 0 1 = cc in omega arith)
    by false false t e = absurd (let z : ◌≡◌ {A = ℕ} 0 1 = cc in omega arith)

-- every other code of 1 to 15 is told as it is, by table 4.1.2-23 of document 001 ..
pub each_height_is_told_by_its_code : (code : ℕ) → 1 ≤ code → code ≤ 15 → (code ≡ 14 → ⊥) → height_of code ≡ Code code
unfolding height_of
each_height_is_told_by_its_code code low high n = simp (ne_eqb code 14 n, span_in 1 15 code (low, high))

-- .. never as another one, and never 14
pub only_a_height_is_told : (code n : ℕ) → height_of code ≡ Code n → (n ≡ code) × ((code ≡ 14 → ⊥) × ((1 ≤ code) × (code ≤ 15)))
unfolding height_of
only_a_height_is_told code n e = by (eqb code 14) (leb 1 code && leb code 15) refl refl e
  where
    by : (a b : Bool) → eqb code 14 ≡ a → leb 1 code && leb code 15 ≡ b → cond a Unknown (cond b (Code code) NoHeight) ≡ Code n
        → (n ≡ code) × ((code ≡ 14 → ⊥) × ((1 ≤ code) × (code ≤ 15)))
    by true b s t e = absurd (let z : ◌≡◌ {A = ℕ} 0 1 = cc in omega arith)
    by false true s t e = (let p : n ≡ code = cc in p, (eqb-false code 14 s, in_span 1 15 code t))
    by false false s t e = absurd (let z : ◌≡◌ {A = ℕ} 0 1 = cc in omega arith)

-- no other code is a height: least of all the 0 of an empty area
pub no_other_code_is_a_height : (code : ℕ) → ((1 ≤ code) × (code ≤ 15) → ⊥) → height_of code ≡ NoHeight
unfolding height_of
no_other_code_is_a_height code out =
    let n : code ≡ 14 → ⊥ = λ e. out (omega arith, omega arith) in
    simp (ne_eqb code 14 n, span_out 1 15 code out)

pub an_empty_area_has_no_height : height_of 0 ≡ NoHeight
unfolding height_of
an_empty_area_has_no_height = refl

-- ---- the rules of an area

-- height and region
abbrev rest : List Row
rest = row 12 4 (within 1 15) ∷ row 16 10 (within 100 1000) ∷ []

-- "An arrival code that speaks for hour and minute together must have both": an area keeps its rules exactly where its day is 0 or
-- 1, its hour and minute are 31 and 63 or a time of a day, its height is 1 to 15, and its region 100 to 1000
pub an_area_keeps_its_rules : (day hour minute height region : ℕ) → Kept [] areas.rows (day ∷ hour ∷ minute ∷ height ∷ region ∷ [])
    ↔ (day ≤ 1) × ((((hour ≡ 31) × (minute ≡ 63)) ⊎ ((hour ≤ 23) × (minute ≤ 59))) × (((1 ≤ height) × (height ≤ 15)) × ((100 ≤ region) × (region ≤ 1000))))
an_area_keeps_its_rules d h m t r = (told, kept)
  where
    both : h ∷ m ∷ [] ≡ codes_of arrivals → (h ≡ 31) × (m ≡ 63)
    both e = (let p : h ≡ 31 = cc in p, let q : m ≡ 63 = cc in q)

    times : AllNormal arrivals (h ∷ m ∷ []) → (h ≤ 23) × (m ≤ 59)
    times n = ((one_span 0 23 h n.0).1, (one_span 0 59 m n.1.0).1)

    told : Kept [] areas.rows (d ∷ h ∷ m ∷ t ∷ r ∷ [])
        → (d ≤ 1) × ((((h ≡ 31) × (m ≡ 63)) ⊎ ((h ≤ 23) × (m ≤ 59))) × (((1 ≤ t) × (t ≤ 15)) × ((100 ≤ r) × (r ≤ 1000))))
    told k =
        let g = (group_kept rest (t ∷ r ∷ []) 1 (d ∷ []) arrivals (h ∷ m ∷ []) refl).0 k.1 in
        ((one_span 0 1 d k.0).1, (⊎_elim (λ e. inl (both e)) (λ n. inr (times n)) g.0, (one_span 1 15 t g.1.0, one_span 100 1000 r g.1.1.0)))

    codes : (h ≡ 31) × (m ≡ 63) → h ∷ m ∷ [] ≡ codes_of arrivals
    codes e = simp (e.0, e.1)

    normal : (h ≤ 23) × (m ≤ 59) → AllNormal arrivals (h ∷ m ∷ [])
    normal n = (inl (omega arith, n.0), (inl (omega arith, n.1), tt))

    kept : (d ≤ 1) × ((((h ≡ 31) × (m ≡ 63)) ⊎ ((h ≤ 23) × (m ≤ 59))) × (((1 ≤ t) × (t ≤ 15)) × ((100 ≤ r) × (r ≤ 1000))))
        → Kept [] areas.rows (d ∷ h ∷ m ∷ t ∷ r ∷ [])
    kept a =
        let g = (group_kept rest (t ∷ r ∷ []) 1 (d ∷ []) arrivals (h ∷ m ∷ []) refl).1 in
        (inl (omega arith, a.0), g (⊎_elim (λ e. inl (codes e)) (λ n. inr (normal n)) a.1.0, (inl a.1.1.0, (inl a.1.1.1, tt))))
