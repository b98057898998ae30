-- What is claimed of an activity: what its time and its ambiguity say, which times are refused and where, and which fields keep their rules.
use Rattle.std.specs.Prelude.{Err}
use mathlib.Core.Path.{◌≡◌, refl, subst}
use mathlib.Core.Bool.{Bool, true, false, ◌&&◌, cond}
use mathlib.Core.Logic.{◌⊎◌, inl, inr, ⊎_elim, ◌↔◌}
use mathlib.Core.List.{List, [], ◌∷◌}
use Prim.Native.Nat.{ℕ, ◌^◌, ◌≤◌, ◌<◌}
use native.Mathlib.Omega.{arith}
use lib.Dec.{eqb, leb}
use borrow.Author.Tests.{eqb-true, leb-true, le-leb, lt-leb, ne_eqb}
use Rattle.rows.specs.declared.refusal.Refusal.TheVariants.{Range}
use Rattle.rows.specs.Kept.{AllNormal, Kept}
use Rattle.rows.specs.Layout.{Row, row, within, codes_of, group}
use Rattle.rows.specs.Runs.Verdict.{allowed, judge, walk}
use Rattle.rows.proofs.Rules.Outcomes.{and_both, not-true}
use Rattle.rows.proofs.Rules.Spans.{in_span, one_span, span_in}
use Rattle.rows.proofs.Rules.Groups.{group_kept}
use Rattle.volcano.specs.declared.meaning.ActivityTime.TheVariants.{At, Unknown, OutOfRange}
use Rattle.volcano.specs.declared.meaning.Validity.{Validity}
use Rattle.volcano.specs.declared.meaning.Validity.TheVariants.{DayHourMinute, DayHour, Day, Nothing, OutOfRange as NoAmbiguity}
use Rattle.volcano.specs.Meaning.{unknown, timely, activity_time_of, validity_of}
use Rattle.volcano.specs.Volcano.{activity_times, volcano}

-- ---- the time of an activity

-- "day 0, hour 31, minute 63, all three together"
abbrev pub AllCodes : ℕ → ℕ → ℕ → Type 0
AllCodes day hour minute = (day ≡ 0) × ((hour ≡ 31) × (minute ≡ 63))

-- a day from 1 to 31, an hour from 0 to 23, a minute from 0 to 59
abbrev pub Timely : ℕ → ℕ → ℕ → Type 0
Timely day hour minute = ((1 ≤ day) × (day ≤ 31)) × ((hour ≤ 23) × (minute ≤ 59))

all_codes : (day hour minute : ℕ) → unknown day hour minute ≡ true → AllCodes day hour minute
all_codes d h m e =
    let p = and_both (eqb d 0) (eqb h 31 && eqb m 63) e in
    let q = and_both (eqb h 31) (eqb m 63) p.1 in
    (eqb-true d 0 p.0, (eqb-true h 31 q.0, eqb-true m 63 q.1))

is_timely : (day hour minute : ℕ) → timely day hour minute ≡ true → Timely day hour minute
is_timely d h m e =
    let p = and_both (leb 1 d && leb d 31) (leb h 23 && leb m 59) e in
    let q = and_both (leb h 23) (leb m 59) p.1 in
    (in_span 1 31 d p.0, (leb-true h 23 q.0, leb-true m 59 q.1))

-- "An activity time may be unknown: day 0, hour 31, minute 63, all three together" ..
pub day_0_with_hour_31_and_minute_63_is_unknown : activity_time_of 0 31 63 ≡ Unknown
unfolding activity_time_of
day_0_with_hour_31_and_minute_63_is_unknown = refl

-- .. and nothing else says so
pub only_those_three_are_unknown : (day hour minute : ℕ) → activity_time_of day hour minute ≡ Unknown → AllCodes day hour minute
unfolding activity_time_of
only_those_three_are_unknown d h m e = by (unknown d h m) (timely d h m) refl e
  where
    by : (a b : Bool) → unknown d h m ≡ a → cond a Unknown (cond b (At d h m) OutOfRange) ≡ Unknown → AllCodes d h m
    by true b t e = all_codes d h m t
    by false true t e = absurd (let z : ◌≡◌ {A = ℕ} 0 1 = cc in omega arith)
    by false false t e = absurd (let z : ◌≡◌ {A = ℕ} 0 1 = cc in omega arith)

-- each time is told as it is ..
pub each_activity_time_is_told : (day hour minute : ℕ) → Timely day hour minute → activity_time_of day hour minute ≡ At day hour minute
unfolding activity_time_of
each_activity_time_is_told d h m t =
    let n : d ≡ 0 → ⊥ = λ e. omega (arith, t.0.0) in
    simp (ne_eqb d 0 n, span_in 1 31 d t.0, le-leb h 23 t.1.0, le-leb m 59 t.1.1)

-- .. and no code is ever told as a day, an hour or a minute
pub only_an_activity_time_is_told : (day hour minute x y z : ℕ) → activity_time_of day hour minute ≡ At x y z
    → ((x ≡ day) × ((y ≡ hour) × (z ≡ minute))) × Timely day hour minute
unfolding activity_time_of
only_an_activity_time_is_told d h m x y z e = by (unknown d h m) (timely d h m) refl e
  where
    by : (a b : Bool) → timely d h m ≡ b → cond a Unknown (cond b (At d h m) OutOfRange) ≡ At x y z
        → ((x ≡ d) × ((y ≡ h) × (z ≡ m))) × Timely d h m
    by true b t e = absurd (let z : ◌≡◌ {A = ℕ} 0 1 = cc in omega arith)
    by false true t e = ((let p : x ≡ d = cc in p, (let q : y ≡ h = cc in q, let r : z ≡ m = cc in r)), is_timely d h m t)
    by false false t e = absurd (let z : ◌≡◌ {A = ℕ} 0 1 = cc in omega arith)

-- "a partly unknown time" says nothing
pub nothing_else_is_an_activity_time : (day hour minute : ℕ) → (AllCodes day hour minute → ⊥) → (Timely day hour minute → ⊥)
    → activity_time_of day hour minute ≡ OutOfRange
unfolding activity_time_of
nothing_else_is_an_activity_time d h m n t = simp (not-true (unknown d h m) (λ e. n (all_codes d h m e)), not-true (timely d h m) (λ e. t (is_timely d h m e)))

-- ---- where a time is refused: "A partly unknown time is 8 at its first field that is out of the normal range"

-- day 0 without both of the other codes: at the day ..
pub a_day_of_0_is_refused_at_53 : (hour minute : ℕ) → ((hour ≡ 31) × (minute ≡ 63) → ⊥)
    → walk [] (group 53 activity_times) (0 ∷ hour ∷ minute ∷ []) ≡ Err (Range 53 0)
unfolding walk judge allowed
a_day_of_0_is_refused_at_53 h m n = simp (not-true (eqb h 31 && (eqb m 63 && true)) (λ e. n (both e)))
  where
    both : eqb h 31 && (eqb m 63 && true) ≡ true → (h ≡ 31) × (m ≡ 63)
    both e = let p = and_both (eqb h 31) (eqb m 63 && true) e in (eqb-true h 31 p.0, eqb-true m 63 (and_both (eqb m 63) true p.1).0)

-- .. with a day, an hour past 23, be it 31 beside minute 63: at the hour ..
pub an_hour_beside_a_day_is_refused_at_58 : (day hour minute : ℕ) → 1 ≤ day → day ≤ 31 → 23 < hour
    → walk [] (group 53 activity_times) (day ∷ hour ∷ minute ∷ []) ≡ Err (Range 58 hour)
unfolding walk judge allowed
an_hour_beside_a_day_is_refused_at_58 d h m low high past =
    let n : d ≡ 0 → ⊥ = λ e. omega (arith, low) in
    let zero : 0 ≤ h = omega arith in
    simp (le-leb 1 d low, le-leb d 31 high, le-leb 0 h zero, lt-leb h 23 past, ne_eqb d 0 n)

-- .. and with a day and an hour, a minute past 59, be it 63: at the minute
pub a_minute_beside_an_hour_is_refused_at_63 : (day hour minute : ℕ) → 1 ≤ day → day ≤ 31 → hour ≤ 23 → 59 < minute
    → walk [] (group 53 activity_times) (day ∷ hour ∷ minute ∷ []) ≡ Err (Range 63 minute)
unfolding walk judge allowed
a_minute_beside_an_hour_is_refused_at_63 d h m low high at past =
    let n : h ≡ 31 → ⊥ = λ e. omega (arith, at) in
    let zero : (v : ℕ) → 0 ≤ v = λ v. omega arith in
    simp (le-leb 1 d low, le-leb d 31 high, le-leb 0 h (zero h), le-leb h 23 at, le-leb 0 m (zero m), lt-leb m 59 past, ne_eqb h 31 n)

-- ---- the ambiguity: "how much of it is valid"

-- 0 to 3: "Activity Time (day, hour, minute) is valid"
pub up_to_3_all_is_valid : (code : ℕ) → code ≤ 3 → validity_of code ≡ DayHourMinute
unfolding validity_of
up_to_3_all_is_valid code h = simp (le-leb code 3 h)

-- 4: the minute is not, 5: neither hour nor minute
pub with_4_the_minute_is_not_valid : validity_of 4 ≡ DayHour
unfolding validity_of
with_4_the_minute_is_not_valid = refl

pub with_5_the_day_alone_is_valid : validity_of 5 ≡ Day
unfolding validity_of
with_5_the_day_alone_is_valid = refl

-- 6 and 7: nothing of it is
pub with_6_and_7_nothing_is_valid : (validity_of 6 ≡ Nothing) × (validity_of 7 ≡ Nothing)
unfolding validity_of
with_6_and_7_nothing_is_valid = (refl, refl)

-- so each code up to 7 says one of these
pub an_ambiguity_is_told : (code : ℕ) → code ≤ 7 → validity_of code ≡ NoAmbiguity → ⊥
unfolding validity_of
an_ambiguity_is_told code h e =
    let told : Bool → Validity = λ b. cond (leb code 3) DayHourMinute (cond (eqb code 4) DayHour (cond (eqb code 5) Day (cond b Nothing NoAmbiguity))) in
    by (leb code 3) (eqb code 4) (eqb code 5) (subst (λ (b : Bool). told b ≡ NoAmbiguity) (le-leb code 7 h) e)
  where
    by : (a b c : Bool) → cond a DayHourMinute (cond b DayHour (cond c Day Nothing)) ≡ NoAmbiguity → ⊥
    by true b c e = let z : ◌≡◌ {A = ℕ} 0 1 = cc in omega arith
    by false true c e = let z : ◌≡◌ {A = ℕ} 0 1 = cc in omega arith
    by false false true e = let z : ◌≡◌ {A = ℕ} 0 1 = cc in omega arith
    by false false false e = let z : ◌≡◌ {A = ℕ} 0 1 = cc in omega arith

-- no other code is an ambiguity
pub no_code_past_7_is_an_ambiguity : (code : ℕ) → 7 < code → validity_of code ≡ NoAmbiguity
unfolding validity_of
no_code_past_7_is_an_ambiguity code h =
    let four : code ≡ 4 → ⊥ = λ e. omega arith in
    let five : code ≡ 5 → ⊥ = λ e. omega arith in
    let three : 3 < code = omega arith in
    simp (lt-leb code 3 three, ne_eqb code 4 four, ne_eqb code 5 five, lt-leb code 7 h)

-- ---- the rules of the fields in front of the places

-- warning code and volcano
abbrev rest : List Row
rest = row 69 7 (within 1 127) ∷ row 76 12 (within 101 4000) ∷ []

-- They are kept exactly where the spare fits its seven bits, the ambiguity is at most 7, whatever the time is, day, hour and minute are
-- all codes or a time, and warning code and volcano are in their ranges.
pub an_activity_keeps_its_rules : (spare ambiguity day hour minute warning name : ℕ) → Kept [] volcano.front (spare ∷ ambiguity ∷ day ∷ hour ∷ minute ∷ warning ∷ name ∷ [])
    ↔ (spare < 2 ^ 7) × ((ambiguity ≤ 7) × ((AllCodes day hour minute ⊎ Timely day hour minute) × (((1 ≤ warning) × (warning ≤ 127)) × ((101 ≤ name) × (name ≤ 4000)))))
an_activity_keeps_its_rules z a d h m w v = (told, kept)
  where
    three : d ∷ h ∷ m ∷ [] ≡ codes_of activity_times → AllCodes d h m
    three e = (let p : d ≡ 0 = cc in p, (let q : h ≡ 31 = cc in q, let r : m ≡ 63 = cc in r))

    times : AllNormal activity_times (d ∷ h ∷ m ∷ []) → Timely d h m
    times n = (one_span 1 31 d n.0, ((one_span 0 23 h n.1.0).1, (one_span 0 59 m n.1.1.0).1))

    told : Kept [] volcano.front (z ∷ a ∷ d ∷ h ∷ m ∷ w ∷ v ∷ [])
        → (z < 2 ^ 7) × ((a ≤ 7) × ((AllCodes d h m ⊎ Timely d h m) × (((1 ≤ w) × (w ≤ 127)) × ((101 ≤ v) × (v ≤ 4000)))))
    told k =
        let g = (group_kept rest (w ∷ v ∷ []) 53 (a ∷ z ∷ []) activity_times (d ∷ h ∷ m ∷ []) refl).0 k.1.1 in
        (k.0, ((one_span 0 7 a k.1.0).1, (⊎_elim (λ e. inl (three e)) (λ n. inr (times n)) g.0, (one_span 1 127 w g.1.0, one_span 101 4000 v g.1.1.0))))

    codes : AllCodes d h m → d ∷ h ∷ m ∷ [] ≡ codes_of activity_times
    codes e = simp (e.0, e.1.0, e.1.1)

    normal : Timely d h m → AllNormal activity_times (d ∷ h ∷ m ∷ [])
    normal n = (inl n.0, (inl (omega arith, n.1.0), (inl (omega arith, n.1.1), tt)))

    kept : (z < 2 ^ 7) × ((a ≤ 7) × ((AllCodes d h m ⊎ Timely d h m) × (((1 ≤ w) × (w ≤ 127)) × ((101 ≤ v) × (v ≤ 4000)))))
        → Kept [] volcano.front (z ∷ a ∷ d ∷ h ∷ m ∷ w ∷ v ∷ [])
    kept r =
        let g = (group_kept rest (w ∷ v ∷ []) 53 (a ∷ z ∷ []) activity_times (d ∷ h ∷ m ∷ []) refl).1 in
        (r.0, (inl (omega arith, r.1.0), g (⊎_elim (λ e. inl (codes e)) (λ n. inr (normal n)) r.1.1.0, (inl r.1.1.1.0, (inl r.1.1.1.1, tt)))))
