-- `rows::codes::is_corrected` meets its contract.
use mathlib.Core.Bool.{Bool, ◌&&◌}
use mathlib.Core.Path.{◌∙◌, ap, sym}
use Rattle.rows.proofs.Rules.Spans.{allowed_one}
use lib.Dec.{leb, leb-zero}
use Rattle.rows.proofs.codes.is_corrected.Goals as goal

pub returns : goal.returns
returns c = let v = c.args.v in sym (allowed_one 0 2 v ∙ ap (λ (b : Bool). b && leb v 2) (leb-zero v))
