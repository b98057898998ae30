-- `pages::name::Name::verdict` meets its contract.
use mathlib.Core.Path.{ap}
use Rattle.rows.specs.Refusals.{answers}
use Rattle.pages.proofs.Ranges.{name_found}
use Rattle.pages.proofs.name.Name.verdict.Goals as goal

pub returns : goal.returns
returns c =
    let found = name_found c.args.self _ c.check.result c.none-2.ensures c.check.ensures in
    record { value = found; result_value = ap answers found }
