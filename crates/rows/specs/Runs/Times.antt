-- What reading and judging a time give wherever it is said to stand: at a bit that leaves it room those of its rows.
use Rattle.rows.specs.Refusals.{Verdict}
use Rattle.std.specs.Prelude.{ℕ, ◌+◌, cond, List, [], leb, Ok}
use Rattle.bits.specs.Frame.{field_in}
use Rattle.rows.specs.declared.time.Time.{Time}
use Rattle.rows.specs.Layout.{time}
use Rattle.rows.specs.Runs.Verdict.{walk}
use Rattle.rows.specs.Values.{time_values}

abbrev pub time_in : List ℕ → ℕ → Time
time_in s a = record { day = field_in 8 s a 5; hour = field_in 8 s (a + 5) 5; minute = field_in 8 s (a + 10) 6 }

abbrev pub time_verdict : ℕ → Time → Verdict
time_verdict a t = cond (leb a 240) (walk [] (time a) (time_values t)) (Ok tt)
