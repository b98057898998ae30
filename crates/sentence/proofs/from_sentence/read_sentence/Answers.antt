-- `sentence::from_sentence::read_sentence` meets its contract.
use Rattle.std.proofs.Common.{◌∙◌, sym, arith}
use Rattle.std.proofs.lemmas.Grind.{common_steps}
use Rattle.line.specs.Lines.{line_reading}
use Rattle.sentence.specs.Sentences.{digits_in}
use Rattle.sentence.proofs.Hearing.{long_around, reads_on, received_not, sentence_found}
use Rattle.rows.proofs.Rules.Outcomes.{refused_outcome}
use Rattle.sentence.proofs.Read.{reception_or_zeros}
use Rattle.sentence.proofs.from_sentence.read_sentence.Goals as goal

pub slice_bounds-read_line-end : goal.slice_bounds-read_line-end
slice_bounds-read_line-end c =
    omega (arith, long_around c.args.sentence.now c.in_ok-satellite.satellite (sym c.around.ensures.value ∙ c.in_ok-satellite.was))

pub returns-in_err-record-clause-value : goal.returns-in_err-record-clause-value
returns-in_err-record-clause-value c =
    let s = c.args.sentence.now in
    let reads = reads_on s c.in_ok-satellite.satellite (sym c.around.ensures.value ∙ c.in_ok-satellite.was) in
    let told = received_not c.in_ok-satellite.satellite (line_reading (digits_in s)) _ (sym c.read_line.ensures.value ∙ c.in_err-record.was) in
    grind (arith, common_steps, reads, told)

pub returns-in_err-record-clause-answer_value : goal.returns-in_err-record-clause-answer_value
returns-in_err-record-clause-answer_value c =
    let s = c.args.sentence.now in
    let reads = reads_on s c.in_ok-satellite.satellite (sym c.around.ensures.value ∙ c.in_ok-satellite.was) in
    let v = refused_outcome (line_reading (digits_in s)).answer (line_reading (digits_in s)).«record» _ (sym c.read_line.ensures.value ∙ c.in_err-record.was) in
    grind (arith, common_steps, sentence_found, reads, v)

pub returns-in_err-record-clause-zeros : goal.returns-in_err-record-clause-zeros
returns-in_err-record-clause-zeros c = reception_or_zeros c.args.sentence.now c.from_residual-in_err-record.result (returns-in_err-record-clause-value c)
