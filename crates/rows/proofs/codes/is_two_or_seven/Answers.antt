-- `rows::codes::is_two_or_seven` meets its contract.
use Rattle.rows.proofs.Rules.Spans.{key_yes, key_no}
use mathlib.Core.List.{[], ◌∷◌}
use mathlib.Core.Path.{sym}
use Rattle.rows.proofs.codes.is_two_or_seven.Goals as goal

pub returns-in-2 : goal.returns-in-2
returns-in-2 c = sym (key_yes (2 ∷ 7 ∷ []) _ c.in-2.is)

pub returns-in_default : goal.returns-in_default
returns-in_default c = sym (key_no (2 ∷ 7 ∷ []) _ c.in_default.in_default-own.rest.1)
