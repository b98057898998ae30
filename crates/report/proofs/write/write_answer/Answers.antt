-- `report::write::write_answer` meets its contract.
use borrow.Author.Rules.{rules}
use mathlib.Core.Path.{ap}
use native.Mathlib.Omega.{arith}
use Rattle.rows.specs.Refusals.{answers}
use Rattle.report.proofs.Writing.WriteSteps.{write_front, write_parts}
use Rattle.report.proofs.write.write_answer.Goals as goal

pub returns-in_err-unless-clause-value : goal.returns-in_err-unless-clause-value
returns-in_err-unless-clause-value c = rw (write_front c.args.r.now c.args.size (omega arith)) (search rules)

pub returns-in_err-unless-clause-result_value : goal.returns-in_err-unless-clause-result_value
returns-in_err-unless-clause-result_value c = ap answers (returns-in_err-unless-clause-value c)

pub returns-in_err-unless-2-clause-value : goal.returns-in_err-unless-2-clause-value
returns-in_err-unless-2-clause-value c = rw (write_front c.args.r.now c.args.size (omega arith)) (search rules)

pub returns-in_err-unless-2-clause-result_value : goal.returns-in_err-unless-2-clause-result_value
returns-in_err-unless-2-clause-result_value c = ap answers (returns-in_err-unless-2-clause-value c)

pub returns-in_err-unless-3-clause-value : goal.returns-in_err-unless-3-clause-value
returns-in_err-unless-3-clause-value c = rw (write_front c.args.r.now c.args.size (omega arith)) (search rules)

pub returns-in_err-unless-3-clause-result_value : goal.returns-in_err-unless-3-clause-result_value
returns-in_err-unless-3-clause-result_value c = ap answers (returns-in_err-unless-3-clause-value c)

pub returns-in_err-unless-4-clause-value : goal.returns-in_err-unless-4-clause-value
returns-in_err-unless-4-clause-value c = rw (write_front c.args.r.now c.args.size (omega arith)) (search rules)

pub returns-in_err-unless-4-clause-result_value : goal.returns-in_err-unless-4-clause-result_value
returns-in_err-unless-4-clause-result_value c = ap answers (returns-in_err-unless-4-clause-value c)

pub returns-in_err-check-clause-value : goal.returns-in_err-check-clause-value
returns-in_err-check-clause-value c = rw (write_parts c.args.r.now c.args.size (omega arith) c.is_tidy.ensures.bytes) (search rules)

pub returns-in_err-check-clause-result_value : goal.returns-in_err-check-clause-result_value
returns-in_err-check-clause-result_value c = ap answers (returns-in_err-check-clause-value c)

pub returns-clause-value : goal.returns-clause-value
returns-clause-value c = rw (write_parts c.args.r.now c.args.size (omega arith) c.is_tidy.ensures.bytes) (search rules)

pub returns-clause-result_value : goal.returns-clause-result_value
returns-clause-result_value c = ap answers (returns-clause-value c)
