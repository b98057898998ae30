-- `sentence::from_sentence::hear_line` meets its contract.
use Rattle.std.proofs.Common.{◌∙◌, sym, arith}
use Rattle.std.proofs.lemmas.Grind.{common_steps}
use Rattle.report.specs.Runs.Reading.{looked, seen}
use Rattle.rows.proofs.Rules.Outcomes.{refused_outcome}
use Rattle.line.specs.Lines.{line_reading}
use Rattle.sentence.specs.Sentences.{digits_in, fed}
use Rattle.sentence.proofs.Hearing.{line_found, hears_on, heard_not, heard_with, sentence_found}
use Rattle.sentence.proofs.Read.{hearing_or_zeros}
use Rattle.sentence.proofs.from_sentence.hear_line.Goals as goal

pub slice_bounds-look_line-end : goal.slice_bounds-look_line-end
slice_bounds-look_line-end c =
    omega (arith, line_found c.args.line.now c.in_ok-satellite.satellite (sym c.around_in.ensures ∙ c.in_ok-satellite.was))

pub returns-in_err-look-clause-value : goal.returns-in_err-look-clause-value
returns-in_err-look-clause-value c =
    let l = c.args.line.now in
    let hears = hears_on l c.in_ok-satellite.satellite (sym c.around_in.ensures ∙ c.in_ok-satellite.was) in
    let told = heard_not c.in_ok-satellite.satellite (line_reading (digits_in l)) _ (sym c.look_line.ensures.value ∙ c.in_err-look.was) in
    grind (arith, common_steps, hears, told)

pub returns-in_err-look-clause-answer_value : goal.returns-in_err-look-clause-answer_value
returns-in_err-look-clause-answer_value c =
    let l = c.args.line.now in
    let hears = hears_on l c.in_ok-satellite.satellite (sym c.around_in.ensures ∙ c.in_ok-satellite.was) in
    let v = refused_outcome (line_reading (digits_in l)).answer (looked (seen (line_reading (digits_in l)))) _ (sym c.look_line.ensures.value ∙ c.in_err-look.was) in
    grind (arith, common_steps, sentence_found, hears, v)

pub returns-clause-value : goal.returns-clause-value
returns-clause-value c =
    let l = c.args.line.now in
    let hears = hears_on l c.in_ok-satellite.satellite (sym c.around_in.ensures ∙ c.in_ok-satellite.was) in
    let told = heard_with c.in_ok-satellite.satellite (line_reading (digits_in l)) _ (sym c.look_line.ensures.value ∙ c.in_ok-look.was) in
    grind (arith, common_steps, hears, told)

pub returns-in_err-look-clause-zeros : goal.returns-in_err-look-clause-zeros
returns-in_err-look-clause-zeros c = hearing_or_zeros (fed c.args.line.now) c.from_residual-in_err-look.result (returns-in_err-look-clause-value c)

pub returns-clause-zeros : goal.returns-clause-zeros
returns-clause-zeros c = hearing_or_zeros (fed c.args.line.now) _ (returns-clause-value c)
