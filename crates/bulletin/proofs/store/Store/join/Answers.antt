-- `bulletin::store::Store::join` meets its contract: the pages passed are joined.
use mathlib.Core.Path.{◌≡◌, ◌∙◌}
use lib.ListN.{length}
use borrow.Author.Rules.{rules}
use Prim.Native.Nat.{◌<◌}
use native.Mathlib.Omega.{arith}
use Rattle.pages.specs.declared.page.Kept.TheVariants.{Own, Other, Neither}
use Rattle.bulletin.proofs.Merging.Joins.{joining_more, joining_stays, joining_all}
use Rattle.pages.proofs.KeptPages.{joined_by}
use Rattle.bulletin.proofs.store.Store.join.Goals as goal
use Rattle.bulletin.proofs.store.Store.join.Goals.{in-Own, in-Other, in-Neither}

pub loop-i-preserved : goal.loop-i-preserved
loop-i-preserved c =
    let long : length c.args.self.now.pages ≡ 63 = search rules in
    let there : c.loop-i.i < length c.args.self.now.pages = omega arith in
    elim c.match-kept.branch [
      | in-Own w ↦ rw w.self-is (c.loop-i.invariant.0, joining_stays _ _ _ _ there c.loop-i.invariant.1 (joined_by _ _ Own c.kept.ensures w.in-Own.is))
      | in-Other w ↦ rw w.self-is (c.loop-i.invariant.0, joining_more _ _ _ _ _ there c.loop-i.invariant.1 (joined_by _ _ Other c.kept.ensures w.in-Other.is))
      | in-Neither w ↦ rw w.self-is (c.loop-i.invariant.0, joining_more _ _ _ _ _ there c.loop-i.invariant.1 (w.disputed.ensures ∙ joined_by _ _ Neither c.kept.ensures w.in-Neither.is))
    ]

pub returns : goal.returns
returns c =
    let long : length c.args.self.now.pages ≡ 63 = search rules in
    let same : length c.args.self.now.pages ≡ length c.args.other.now.pages = search rules in
    let pages = joining_all c.args.self.now.pages c.args.other.now.pages c.loop-i.i c.loop-i.self.pages same (omega arith) c.loop-i.invariant.1 in
    λ j. record { name = c.loop-i.invariant.0 j; pages = pages j }
