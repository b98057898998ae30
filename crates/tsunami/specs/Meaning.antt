-- What the arrival and the height of an area say (tables 4.1.2-21 and 4.1.2-23 of document 001).
use Rattle.std.specs.Prelude.{ℕ, Bool, ◌&&◌, cond, eqb, leb}
use Rattle.tsunami.specs.declared.meaning.Arrival.{Arrival}
use Rattle.tsunami.specs.declared.meaning.Arrival.TheVariants.{At, Arrived, OutOfRange}
use Rattle.tsunami.specs.declared.meaning.Height.{Height}
use Rattle.tsunami.specs.declared.meaning.Height.TheVariants.{Code, Unknown, OutOfRange as NoHeight}

-- "If the tsunami has arrived at the region, the arrival hour is 31 and the arrival minute is 63"
abbrev pub arrived : ℕ → ℕ → Bool
arrived hour minute = eqb hour 31 && eqb minute 63

unfoldable pub arrival_of : ℕ → ℕ → Arrival
arrival_of hour minute = cond (arrived hour minute) Arrived (cond (leb hour 23 && leb minute 59) (At hour minute) OutOfRange)

-- 14 says that the height is unknown; every other code of the field is told as it is, listed or not
unfoldable pub height_of : ℕ → Height
height_of code = cond (eqb code 14) Unknown (cond (leb 1 code && leb code 15) (Code code) NoHeight)
