-- `bulletin::store::Store::take` meets its contract.
use mathlib.Core.Path.{sym, ◌∙◌}
use Rattle.bulletin.proofs.Taking.TakingOutcomes.{admitted_number}
use Rattle.bulletin.proofs.store.Store.take.Goals as goal

pub put-requires : goal.put-requires
put-requires c = admitted_number _ c.args.came.now _ (sym c.write_answer-written.ensures.value ∙ c.in-Ok-written.is) (sym c.admit-admitted.ensures ∙ c.in-Ok-admitted.is)
