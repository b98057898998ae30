-- `report::codes::is_preamble` meets its contract.
use Rattle.rows.proofs.Rules.Spans.{key_yes, key_no}
use mathlib.Core.List.{[], ◌∷◌}
use mathlib.Core.Path.{sym}
use Rattle.report.proofs.codes.is_preamble.Goals as goal

pub returns-in-83 : goal.returns-in-83
returns-in-83 c = sym (key_yes (0x53 ∷ 0x9A ∷ 0xC6 ∷ []) _ c.in-83.is)

pub returns-in_default : goal.returns-in_default
returns-in_default c = sym (key_no (0x53 ∷ 0x9A ∷ 0xC6 ∷ []) _ c.in_default.in_default-own.rest.1)
