-- `sentence::form::is_marked` meets its contract.
use mathlib.Core.Path.{◌∙◌}
use borrow.Author.Tests.{eq-eqb}
use Rattle.sentence.specs.Sentences.{head}
use Rattle.sentence.proofs.Beginnings.{starts_begins}
use Rattle.sentence.proofs.form.is_marked.Goals as goal

pub returns : goal.returns
returns c = simp (c.starts_with.ensures.value ∙ starts_begins c.args.line.now head, eq-eqb _ 77 c.if-line-ne77.false)
