-- The codes of an unknown time, as the hour and the minute see them: each sees those before it the latest first.
use mathlib.Core.Bool.{Bool, true, false, ◌&&◌}
use mathlib.Core.Path.{◌≡◌, refl}

pub seen_by_the_hour : (day hour minute : Bool) → (day && true) && (hour && (minute && true)) ≡ day && (hour && minute)
seen_by_the_hour true true true = refl
seen_by_the_hour true true false = refl
seen_by_the_hour true false minute = refl
seen_by_the_hour false hour minute = refl

pub seen_by_the_minute : (day hour minute : Bool) → (hour && (day && true)) && (minute && true) ≡ day && (hour && minute)
seen_by_the_minute true true true = refl
seen_by_the_minute true true false = refl
seen_by_the_minute true false minute = refl
seen_by_the_minute false true minute = refl
seen_by_the_minute false false minute = refl
