-- `report::tidy::is_blank` meets its contract: what is left decides.
use Rattle.rows.specs.Runs.Verdict.{empty}
use lib.ListN.{drop}
use mathlib.Core.Path.{◌≡◌}
use Rattle.report.proofs.tidy.is_blank.Given as goal

abbrev pub invariant-loop-i : goal.invariant-loop-i
invariant-loop-i l = empty (drop l.i l.text) ≡ empty l.text
