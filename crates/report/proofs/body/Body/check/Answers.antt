-- `report::body::Body::check` meets its contract.
use Rattle.report.specs.declared.body.Body.{Body}
use Rattle.rows.specs.Refusals.{Verdict}
use Rattle.report.specs.Runs.Told.{told_of}
use Rattle.report.proofs.Told.{of_body}
use Rattle.report.proofs.body.Body.check.Goals as goal

pub returns-in-Hypocenter : goal.returns-in-Hypocenter
returns-in-Hypocenter c =
    let says : Body → Verdict = λ b. told_of b c.args.common c.args.slots.now c.args.spares in
    of_body says c.in-Hypocenter.is c.check-in-Hypocenter.ensures
