-- `hypocenter::QuakeCategory::check` meets its contract.
use borrow.Author.Rules.{rules}
use Rattle.hypocenter.proofs.Walks.{quake_walk}
use Rattle.hypocenter.proofs.QuakeCategory.check.Goals as goal

pub returns-in_err-check : goal.returns-in_err-check
returns-in_err-check c = rw (quake_walk c.args.self c.args.spares c.args.common) (search rules)

pub returns-in_err-check_front : goal.returns-in_err-check_front
returns-in_err-check_front c = rw (quake_walk c.args.self c.args.spares c.args.common) (search rules)

pub returns : goal.returns
returns c = rw (quake_walk c.args.self c.args.spares c.args.common) (search rules)
