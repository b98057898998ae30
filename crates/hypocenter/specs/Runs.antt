-- What code finds on its way, for contracts of private functions alone.
use Rattle.std.specs.Prelude.{[]}
use Rattle.rows.specs.Refusals.{Verdict}
use Rattle.rows.specs.declared.fields.Spares.{Spares}
use Rattle.rows.specs.Runs.Verdict.{walk}
use Rattle.hypocenter.specs.declared.Quake.{Quake}
use Rattle.hypocenter.specs.Hypocenter.{hypocenter, quake_values}

-- in the rows in front
unfoldable pub front_verdict : Quake → Spares → Verdict
front_verdict q z = walk [] hypocenter.front (quake_values q z).front
