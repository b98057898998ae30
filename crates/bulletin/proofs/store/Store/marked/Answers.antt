-- `bulletin::store::Store::marked` meets its contract: the pages passed are counted.
use mathlib.Core.Path.{◌≡◌, sym, ap, ◌∙◌}
use lib.Dec.{eqb}
use lib.ListN.{length}
use lib.Seq.{take_all}
use borrow.Author.Rules.{rules}
use native.Mathlib.Omega.{arith}
use Rattle.std.specs.List.{count_by}
use Rattle.bulletin.proofs.Stores.Counted.{counted}
use Rattle.bulletin.proofs.store.Store.marked.Goals as goal

pub returns : goal.returns
returns c =
    let p = c.args.self.now.pages in
    let long : length p ≡ 63 = search rules in
    c.loop-page.invariant.0 ∙ ap (count_by (λ p. eqb p.mark c.args.mark)) (take_all c.loop-page.page-index p (omega arith)) ∙ sym (counted c.args.mark p)
