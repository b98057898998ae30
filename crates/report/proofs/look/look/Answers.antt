-- `report::look::look` meets its contract.
use mathlib.Core.Path.{◌≡◌, ap, sym, ◌∙◌}
use Rattle.std.specs.Prelude.{Ok}
use Rattle.std.proofs.Common.{arith}
use Rattle.std.proofs.lemmas.Grind.{common_steps}
use Rattle.report.specs.Records.{record_of}
use Rattle.report.specs.Runs.Reading.{look_told, read_answer, read_of, seen}
use Rattle.report.proofs.Reading.ReadSteps.{look_made, look_or_zeros, look_refused}
use Rattle.report.proofs.look.look.Goals as goal

pub returns-in_err-content-clause-zeros : goal.returns-in_err-content-clause-zeros
returns-in_err-content-clause-zeros c =
    let s = c.args.frame.now in
    let refused = look_refused s c.in_err-content.field-0.0 (sym c.content.ensures ∙ c.in_err-content.was) in
    let told : c.from_residual.result ≡ look_told (seen (read_of s)) = grind (arith, common_steps, refused) in
    look_or_zeros (read_answer s) (record_of s) c.from_residual.result told

pub returns-clause-zeros : goal.returns-clause-zeros
returns-clause-zeros c =
    let s = c.args.frame.now in
    look_or_zeros (read_answer s) (record_of s) (Ok c.at.result) (ap Ok c.at.ensures ∙ sym (look_made s _ (sym c.content.ensures ∙ c.in_ok-content.was)))
