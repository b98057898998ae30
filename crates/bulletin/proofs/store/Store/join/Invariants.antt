use mathlib.Core.Path.{◌≡◌}
use Rattle.bulletin.proofs.Merging.Joins.{Joining}
use Rattle.bulletin.proofs.store.Store.join.Given as goal

-- `bulletin::store::Store::join` meets its contract: the pages passed are joined.
abbrev pub invariant-loop-i : goal.invariant-loop-i
invariant-loop-i l = (l.self.name ≡ l.initial.self.name) × Joining l.initial.self.pages l.other.pages l.i l.self.pages
