-- `bulletin::store::Store::count` meets its contract.
use borrow.Author.Rules.{rules}
use mathlib.Core.Path.{◌≡◌, ap, sym, ◌∙◌}
use Rattle.rows.proofs.Rules.Outcomes.{unless_fine}
use Rattle.bulletin.proofs.Stores.Counted.{number_of, found, counts, counts_or_zeros}
use Rattle.bulletin.proofs.store.Store.count.Goals as goal

pub returns-clause-value : goal.returns-clause-value
returns-clause-value c =
    let sound = sym c.is_sound.ensures ∙ unless_fine _ _ (sym c.in_ok-unless.ensures) in
    let lowest : c.map_or.result ≡ number_of c.lowest.result = search rules in
    counts c.args.self.now sound c.marked.ensures c.marked-2.ensures (lowest ∙ ap number_of c.lowest.ensures ∙ found _ _)

pub returns-clause-zeros : goal.returns-clause-zeros
returns-clause-zeros c = counts_or_zeros c.args.self.now _ (returns-clause-value c)
