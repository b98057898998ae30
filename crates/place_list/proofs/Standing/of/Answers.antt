-- `place_list::Standing::of` meets its contract.
use mathlib.Core.Path.{◌∙◌, sym}
use native.Mathlib.Omega.{arith}
use Rattle.place_list.proofs.Standings.{within, below, beyond, is_listed, is_unlisted, is_outside}
use Rattle.place_list.proofs.Standing.of.Goals as goal

pub returns-then-is_listed : goal.returns-then-is_listed
returns-then-is_listed c = sym (is_listed c.args.place (sym c.is_listed.ensures ∙ c.if-is_listed.true))

pub returns-else-is_listed : goal.returns-else-is_listed
returns-else-is_listed c =
    let place = c.args.place in
    sym (is_unlisted place (sym c.is_listed.ensures ∙ c.if-is_listed.false) (within place (omega arith) (omega arith)))

pub returns-in_default : goal.returns-in_default
returns-in_default c = sym (is_outside c.args.place (below c.args.place (omega arith)))

pub returns-in_default-2 : goal.returns-in_default-2
returns-in_default-2 c = sym (is_outside c.args.place (beyond c.args.place (omega arith)))
