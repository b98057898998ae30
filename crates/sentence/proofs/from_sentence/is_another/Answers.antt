-- `sentence::from_sentence::is_another` meets its contract.
use mathlib.Core.Path.{◌∙◌}
use Rattle.sentence.specs.Sentences.{header, is_another}
use mathlib.Core.List.{[], ◌∷◌}
use Rattle.sentence.proofs.Beginnings.{starts_begins}
use Rattle.sentence.proofs.from_sentence.is_another.Goals as goal

pub returns : goal.returns
unfolding is_another
returns c = simp (c.starts_with.ensures.value ∙ starts_begins c.args.line.now (0x24 ∷ []), c.starts_with-2.ensures.value ∙ starts_begins c.args.line.now header)
