-- `rows::time::Time::check` meets its contract.
use borrow.Author.Rules.{rules}
use borrow.Author.Tests.{lt-leb}
use Rattle.rows.proofs.Rules.Walks.{time_parts}
use Rattle.rows.proofs.time.Time.check.Goals as goal

pub returns-then-at-gt240 : goal.returns-then-at-gt240
returns-then-at-gt240 c = simp (lt-leb _ _ c.if-at-gt240.true)

pub returns-in_err-within : goal.returns-in_err-within
returns-in_err-within c = rw (time_parts c.args.at c.args.self c.if-at-gt240.false) (search rules)

pub returns-in_err-within-2 : goal.returns-in_err-within-2
returns-in_err-within-2 c = rw (time_parts c.args.at c.args.self c.if-at-gt240.false) (search rules)

pub returns : goal.returns
returns c = rw (time_parts c.args.at c.args.self c.if-at-gt240.false) (search rules)
