-- What the time of an activity and its ambiguity say (table 4.1.2-30 of document 001).
use Rattle.std.specs.Prelude.{ℕ, Bool, ◌&&◌, cond, eqb, leb}
use Rattle.volcano.specs.declared.meaning.ActivityTime.{ActivityTime}
use Rattle.volcano.specs.declared.meaning.ActivityTime.TheVariants.{At, Unknown, OutOfRange}
use Rattle.volcano.specs.declared.meaning.Validity.{Validity}
use Rattle.volcano.specs.declared.meaning.Validity.TheVariants.{DayHourMinute, DayHour, Day, Nothing, OutOfRange as NoAmbiguity}

-- "If Activity Time is unknown, activity day is 0, activity hour is 31, and activity minute is 63"
abbrev pub unknown : ℕ → ℕ → ℕ → Bool
unknown day hour minute = eqb day 0 && (eqb hour 31 && eqb minute 63)

-- a day of a month and a time of that day
abbrev pub timely : ℕ → ℕ → ℕ → Bool
timely day hour minute = leb 1 day && leb day 31 && (leb hour 23 && leb minute 59)

unfoldable pub activity_time_of : ℕ → ℕ → ℕ → ActivityTime
activity_time_of day hour minute = cond (unknown day hour minute) Unknown (cond (timely day hour minute) (At day hour minute) OutOfRange)

-- up to 3, "Activity Time (day, hour, minute) is valid"; 4: "(day, hour) is valid and (minute) is not valid"; 5: "(day) is valid and
-- (hour, minute) is not valid"; 6 and 7: "(day, hour, minute) is not valid". The field has three bits
unfoldable pub validity_of : ℕ → Validity
validity_of code = cond (leb code 3) DayHourMinute (cond (eqb code 4) DayHour (cond (eqb code 5) Day (cond (leb code 7) Nothing NoAmbiguity)))
