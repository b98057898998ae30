-- What the functions for C and Rust answer of a number: whether it is known, and what it says. 0 is said of a number that
-- says nothing.
use Rattle.std.specs.Prelude.{ℕ, ◌+◌, ◌*◌, ◌^◌, List, Option, Some, None}
use Rattle.hypocenter.specs.declared.meaning.Depth.{Depth}
use Rattle.hypocenter.specs.declared.meaning.Depth.TheVariants.{Kilometres, Deeper, Unknown, OutOfRange}
use Rattle.hypocenter.specs.declared.meaning.Magnitude.{Magnitude}
use Rattle.hypocenter.specs.declared.meaning.Magnitude.TheVariants.{InRange, UnknownAboveEight, Unknown as NoMagnitude, OutOfRange as NotAMagnitude}
use Rattle.hypocenter.specs.Hypocenter.{depth_of, magnitude_of}
use Rattle.ash_fall.specs.Meaning.{prefecture_of}
use Rattle.place_list.specs.declared.Standing.{Standing}
use Rattle.place_list.specs.declared.Standing.TheVariants.{Listed, Unlisted, Outside}
use Rattle.place_list.specs.Standing.{standing_of}
use Rattle.tsunami.specs.declared.meaning.Arrival.{Arrival}
use Rattle.tsunami.specs.declared.meaning.Arrival.TheVariants.{At, Arrived, OutOfRange as NoArrival}
use Rattle.tsunami.specs.declared.meaning.Height.{Height}
use Rattle.tsunami.specs.declared.meaning.Height.TheVariants.{Code, Unknown as NoHeightKnown, OutOfRange as NotAHeight}
use Rattle.tsunami.specs.Meaning.{arrival_of, height_of}
use Rattle.volcano.specs.declared.meaning.ActivityTime.{ActivityTime}
use Rattle.volcano.specs.declared.meaning.ActivityTime.TheVariants.{At as AtTime, Unknown as NoTimeKnown, OutOfRange as NotATime}
use Rattle.volcano.specs.declared.meaning.Validity.{Validity}
use Rattle.volcano.specs.declared.meaning.Validity.TheVariants.{DayHourMinute, DayHour, Day, Nothing, OutOfRange as NotAnAmbiguity}
use Rattle.volcano.specs.Meaning.{activity_time_of, validity_of}
use Rattle.report.specs.Meaning.{used_of}
use Rattle.record_bytes.specs.Unpacked.{record_from}

-- how a number is known stands in the second byte of the answer, the number itself behind it
abbrev pub known : ℕ → ℕ
known n = 1 * 2 ^ 16 + n

abbrev pub beyond : ℕ
beyond = 2 * 2 ^ 16

abbrev pub unknown : ℕ
unknown = 3 * 2 ^ 16

abbrev pub depth_word : Depth → ℕ
depth_word (Kilometres n) = known n
depth_word Deeper = beyond
depth_word Unknown = unknown
depth_word OutOfRange = 0

abbrev pub depth_answer : ℕ → ℕ
depth_answer code = depth_word (depth_of code)

abbrev pub magnitude_word : Magnitude → ℕ
magnitude_word (InRange n) = known n
magnitude_word UnknownAboveEight = beyond
magnitude_word NoMagnitude = unknown
magnitude_word NotAMagnitude = 0

abbrev pub magnitude_answer : ℕ → ℕ
magnitude_answer code = magnitude_word (magnitude_of code)

-- no prefecture has the number 0
abbrev pub prefecture_word : Option ℕ → ℕ
prefecture_word (Some n) = n
prefecture_word None = 0

abbrev pub prefecture_answer : ℕ → ℕ
prefecture_answer place = prefecture_word (prefecture_of place)

-- "listed, unlisted but within a prefecture, or outside"
abbrev pub standing_word : Standing → ℕ
standing_word Listed = 1
standing_word Unlisted = 2
standing_word Outside = 0

abbrev pub standing_answer : ℕ → ℕ
standing_answer place = standing_word (standing_of place)

-- a time has its hour in front of its minute
abbrev pub arrival_word : Arrival → ℕ
arrival_word (At hour minute) = known (hour * 2 ^ 8 + minute)
arrival_word Arrived = 4 * 2 ^ 16
arrival_word NoArrival = 0

abbrev pub arrival_answer : ℕ → ℕ → ℕ
arrival_answer hour minute = arrival_word (arrival_of hour minute)

abbrev pub height_word : Height → ℕ
height_word (Code n) = known n
height_word NoHeightKnown = unknown
height_word NotAHeight = 0

abbrev pub height_answer : ℕ → ℕ
height_answer code = height_word (height_of code)

-- a time of an activity has its day in front, and each of the three the bits that it has in a frame: 5, 5 and 6
abbrev pub activity_word : ActivityTime → ℕ
activity_word (AtTime day hour minute) = known (day * 2 ^ 11 + hour * 2 ^ 6 + minute)
activity_word NoTimeKnown = unknown
activity_word NotATime = 0

abbrev pub activity_answer : ℕ → ℕ → ℕ → ℕ
activity_answer day hour minute = activity_word (activity_time_of day hour minute)

-- how many of day, hour and minute are valid
abbrev pub validity_word : Validity → ℕ
validity_word DayHourMinute = known 3
validity_word DayHour = known 2
validity_word Day = known 1
validity_word Nothing = known 0
validity_word NotAnAmbiguity = 0

abbrev pub validity_answer : ℕ → ℕ
validity_answer code = validity_word (validity_of code)

abbrev pub slots_answer : List ℕ → ℕ
slots_answer bytes = used_of (record_from bytes)
