use mathlib.Core.Path.{◌≡◌}
use Prim.Native.Nat.{◌≤◌}
use lib.Dec.{eqb}
use lib.ListN.{take}
use Rattle.std.specs.List.{count_by}
use Rattle.bulletin.proofs.store.Store.marked.Given as goal

-- `bulletin::store::Store::marked` meets its contract: the pages passed are counted.
abbrev pub invariant-loop-page : goal.invariant-loop-page
invariant-loop-page l = (l.n ≡ count_by (λ p. eqb p.mark l.mark) (take l.page-index l.self.pages)) × (l.n ≤ l.page-index)
