-- `bulletin::store::Store::check_whole` meets its contract.
use mathlib.Core.Path.{◌∙◌, sym}
use Rattle.rows.proofs.Rules.Outcomes.{unless_fine}
use Rattle.bulletin.proofs.Telling.TextOutcomes.{all_held, one_not_held}
use Rattle.bulletin.proofs.store.Store.check_whole.Goals as goal

pub returns-in-None : goal.returns-in-None
returns-in-None c =
    all_held c.args.self.now (sym c.is_sound.ensures ∙ unless_fine _ _ (sym c.in_ok-unless.ensures)) c.in-None.ensures

pub returns-in-Some : goal.returns-in-Some
returns-in-Some c =
    one_not_held c.args.self.now (sym c.is_sound.ensures ∙ unless_fine _ _ (sym c.in_ok-unless.ensures)) c.in-Some.ensures c.absence.ensures
