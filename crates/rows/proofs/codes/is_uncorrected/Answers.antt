-- `rows::codes::is_uncorrected` meets its contract.
use Rattle.rows.proofs.Rules.Spans.{key_yes, key_no}
use mathlib.Core.List.{[], ◌∷◌}
use mathlib.Core.Path.{sym}
use Rattle.rows.proofs.codes.is_uncorrected.Goals as goal

pub returns-in-0 : goal.returns-in-0
returns-in-0 c = sym (key_yes (0 ∷ 2 ∷ []) _ c.in-0.is)

pub returns-in_default : goal.returns-in_default
returns-in_default c = sym (key_no (0 ∷ 2 ∷ []) _ c.in_default.in_default-own.rest.1)
