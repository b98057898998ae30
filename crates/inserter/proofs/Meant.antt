-- What the doors say of a number, in the words that a program in C sees.
use mathlib.Core.Path.{◌≡◌, refl, ap}
use mathlib.Core.Logic.{◌↔◌}
use native.Mathlib.Omega.{arith}
use Prim.Native.Nat.{ℕ, ◌+◌, ◌*◌, ◌/◌, ◌^◌, ◌≤◌, ◌<◌}
use mathlib.Core.List.{List}
use Rattle.hypocenter.proofs.Claims.{depth_501_is_deeper, depth_511_is_unknown, each_depth_is_told_in_kilometres, each_magnitude_is_told_in_tenths, magnitude_126_is_above_8, magnitude_127_is_unknown, no_other_code_is_a_depth, no_other_code_is_a_magnitude}
use Rattle.ash_fall.proofs.Claims.{each_place_has_a_prefecture, no_other_place_has_a_prefecture}
use Rattle.tsunami.proofs.Claims.{each_height_is_told_by_its_code, each_time_is_told, height_14_is_unknown, hour_31_with_minute_63_has_arrived, no_other_code_is_a_height, nothing_else_is_an_arrival}
use Rattle.volcano.proofs.Claims.{day_0_with_hour_31_and_minute_63_is_unknown, each_activity_time_is_told, no_code_past_7_is_an_ambiguity, nothing_else_is_an_activity_time, up_to_3_all_is_valid, with_4_the_minute_is_not_valid, with_5_the_day_alone_is_valid, with_6_and_7_nothing_is_valid}
use Rattle.report.proofs.Reading.Used.{few, InPrefecture}
use Rattle.place_list.specs.declared.Standing.{Standing}
use Rattle.place_list.specs.declared.Standing.TheVariants.{Listed, Unlisted, Outside}
use Rattle.place_list.specs.Standing.{standing_of}
use Rattle.place_list.proofs.Claims.{a_place_is_listed_exactly_where_it_is_an_entry, a_place_is_outside_exactly_where_it_names_no_prefecture, a_place_is_unlisted_exactly_where_it_is_no_entry_and_names_a_prefecture}
use Rattle.place_list.proofs.Entries.{Entry}
use Rattle.record_bytes.specs.Unpacked.{record_from}
use Rattle.record_bytes.proofs.Accepted.{record_shaped}
use Rattle.inserter.specs.Meanings.{activity_answer, activity_word, arrival_answer, arrival_word, depth_answer, depth_word, height_answer, height_word, magnitude_answer, magnitude_word, standing_answer, standing_word, prefecture_answer, prefecture_word, slots_answer, validity_answer, validity_word}

-- ---- a depth

pub in_kilometres : (code : ℕ) → code ≤ 500 → depth_answer code ≡ 2 ^ 16 + code
in_kilometres code h = ap depth_word (each_depth_is_told_in_kilometres code h)

pub deeper : depth_answer 501 ≡ 2 * 2 ^ 16
deeper = ap depth_word depth_501_is_deeper

pub depth-unknown : depth_answer 511 ≡ 3 * 2 ^ 16
depth-unknown = ap depth_word depth_511_is_unknown

pub no_depth : (code : ℕ) → 501 < code → (code ≡ 511 → ⊥) → depth_answer code ≡ 0
no_depth code h n = ap depth_word (no_other_code_is_a_depth code h n)

-- ---- a magnitude

pub in_tenths : (code : ℕ) → 1 ≤ code → code ≤ 101 → magnitude_answer code ≡ 2 ^ 16 + code
in_tenths code low high = ap magnitude_word (each_magnitude_is_told_in_tenths code low high)

pub above_eight : magnitude_answer 126 ≡ 2 * 2 ^ 16
above_eight = ap magnitude_word magnitude_126_is_above_8

pub magnitude-unknown : magnitude_answer 127 ≡ 3 * 2 ^ 16
magnitude-unknown = ap magnitude_word magnitude_127_is_unknown

pub no_magnitude : (code : ℕ) → ((1 ≤ code) × (code ≤ 101) → ⊥) → (code ≡ 126 → ⊥) → (code ≡ 127 → ⊥) → magnitude_answer code ≡ 0
no_magnitude code out n m = ap magnitude_word (no_other_code_is_a_magnitude code out n m)

-- ---- an area

pub at_a_time : (hour minute : ℕ) → hour ≤ 23 → minute ≤ 59 → arrival_answer hour minute ≡ 2 ^ 16 + (hour * 2 ^ 8 + minute)
at_a_time hour minute h m = ap arrival_word (each_time_is_told hour minute h m)

pub has_arrived : arrival_answer 31 63 ≡ 4 * 2 ^ 16
has_arrived = ap arrival_word hour_31_with_minute_63_has_arrived

pub no_arrival : (hour minute : ℕ) → ((hour ≡ 31) × (minute ≡ 63) → ⊥) → ((hour ≤ 23) × (minute ≤ 59) → ⊥) → arrival_answer hour minute ≡ 0
no_arrival hour minute n m = ap arrival_word (nothing_else_is_an_arrival hour minute n m)

pub by_code : (code : ℕ) → 1 ≤ code → code ≤ 15 → (code ≡ 14 → ⊥) → height_answer code ≡ 2 ^ 16 + code
by_code code low high n = ap height_word (each_height_is_told_by_its_code code low high n)

pub height-unknown : height_answer 14 ≡ 3 * 2 ^ 16
height-unknown = ap height_word height_14_is_unknown

pub no_height : (code : ℕ) → ((1 ≤ code) × (code ≤ 15) → ⊥) → height_answer code ≡ 0
no_height code out = ap height_word (no_other_code_is_a_height code out)

-- ---- an activity

pub active-at : (day hour minute : ℕ) → 1 ≤ day → day ≤ 31 → hour ≤ 23 → minute ≤ 59 → activity_answer day hour minute ≡ 2 ^ 16 + (day * 2 ^ 11 + hour * 2 ^ 6 + minute)
active-at day hour minute low high h m = ap activity_word (each_activity_time_is_told day hour minute ((low, high), (h, m)))

pub time-unknown : activity_answer 0 31 63 ≡ 3 * 2 ^ 16
time-unknown = ap activity_word day_0_with_hour_31_and_minute_63_is_unknown

pub no_time : (day hour minute : ℕ) → ((day ≡ 0) × ((hour ≡ 31) × (minute ≡ 63)) → ⊥) → (((1 ≤ day) × (day ≤ 31)) × ((hour ≤ 23) × (minute ≤ 59)) → ⊥) → activity_answer day hour minute ≡ 0
no_time day hour minute n t = ap activity_word (nothing_else_is_an_activity_time day hour minute n t)

pub all_valid : (code : ℕ) → code ≤ 3 → validity_answer code ≡ 2 ^ 16 + 3
all_valid code h = ap validity_word (up_to_3_all_is_valid code h)

pub two_valid : validity_answer 4 ≡ 2 ^ 16 + 2
two_valid = ap validity_word with_4_the_minute_is_not_valid

pub day_valid : validity_answer 5 ≡ 2 ^ 16 + 1
day_valid = ap validity_word with_5_the_day_alone_is_valid

pub none_valid : (validity_answer 6 ≡ 2 ^ 16) × (validity_answer 7 ≡ 2 ^ 16)
none_valid = (ap validity_word with_6_and_7_nothing_is_valid.0, ap validity_word with_6_and_7_nothing_is_valid.1)

pub no_ambiguity : (code : ℕ) → 7 < code → validity_answer code ≡ 0
no_ambiguity code h = ap validity_word (no_code_past_7_is_an_ambiguity code h)

-- ---- a prefecture

pub in_prefecture_lem : (place : ℕ) → 100000 ≤ place → place ≤ 4799999 → prefecture_answer place ≡ place / 100000
in_prefecture_lem place low high = ap prefecture_word (each_place_has_a_prefecture place low high)

pub nowhere : (place : ℕ) → ((100000 ≤ place) × (place ≤ 4799999) → ⊥) → prefecture_answer place ≡ 0
nowhere place out = ap prefecture_word (no_other_place_has_a_prefecture place out)

-- ---- a place

told_apart : (s t : Standing) → standing_word s ≡ standing_word t → s ≡ t
told_apart Listed Listed e = refl
told_apart Listed Unlisted e = absurd (omega (arith, e))
told_apart Listed Outside e = absurd (omega (arith, e))
told_apart Unlisted Listed e = absurd (omega (arith, e))
told_apart Unlisted Unlisted e = refl
told_apart Unlisted Outside e = absurd (omega (arith, e))
told_apart Outside Listed e = absurd (omega (arith, e))
told_apart Outside Unlisted e = absurd (omega (arith, e))
told_apart Outside Outside e = refl

-- an answer has one word, and a word one answer
by_word : (place : ℕ) (s : Standing) {P : Type 0} → standing_of place ≡ s ↔ P → standing_answer place ≡ standing_word s ↔ P
by_word place s law = (λ e. law.0 (told_apart (standing_of place) s e), λ p. ap standing_word (law.1 p))

pub told_listed : (place : ℕ) → standing_answer place ≡ 1 ↔ Entry place
told_listed place = by_word place Listed (a_place_is_listed_exactly_where_it_is_an_entry place)

pub told_unlisted : (place : ℕ) → standing_answer place ≡ 2 ↔ ((Entry place → ⊥) × ((1 ≤ place / 100000) × (place / 100000 ≤ 47)))
told_unlisted place = by_word place Unlisted (a_place_is_unlisted_exactly_where_it_is_no_entry_and_names_a_prefecture place)

pub told_outside : (place : ℕ) → standing_answer place ≡ 0 ↔ ((1 ≤ place / 100000) × (place / 100000 ≤ 47) → ⊥)
told_outside place = by_word place Outside (a_place_is_outside_exactly_where_it_names_no_prefecture place)

-- where a place lies outside, no prefecture is told, and the other way round
pub outside_nowhere : (place : ℕ) → standing_answer place ≡ 0 ↔ prefecture_answer place ≡ 0
outside_nowhere place = (λ e. nowhere place (λ r. (told_outside place).0 e (omega (arith, r.0), omega (arith, r.1))), λ e. (told_outside place).1 (λ d. in_one d e))
  where
    in_one : (1 ≤ place / 100000) × (place / 100000 ≤ 47) → prefecture_answer place ≡ 0 → ⊥
    in_one d e = omega (arith, d.0, e, in_prefecture_lem place (omega (arith, d.0)) (omega (arith, d.1)))

pub used_not_outside : (place : ℕ) → InPrefecture place → standing_answer place ≡ 0 → ⊥
used_not_outside place p e = omega (arith, p.1.1.0, ap prefecture_word p.1.0, (outside_nowhere place).0 e)

-- ---- slots

pub sixteen_at-most : (bytes : List ℕ) → slots_answer bytes ≤ 16
sixteen_at-most bytes = few (record_from bytes) (record_shaped bytes).slots
