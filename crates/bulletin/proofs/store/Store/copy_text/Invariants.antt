use mathlib.Core.Path.{◌≡◌}
use mathlib.Core.List.{◌++◌}
use Prim.Native.Nat.{◌*◌}
use lib.ListN.{take, drop}
use Rattle.bulletin.specs.Text.{bytes_in_order}
use Rattle.bulletin.proofs.store.Store.copy_text.Given as goal

-- `bulletin::store::Store::copy_text` meets its contract: the pages passed are written, and then what is left of the next.
abbrev pub invariant-loop-i : goal.invariant-loop-i
invariant-loop-i l = l.out ≡ take (18 * l.i) (bytes_in_order l.self.pages) ++ drop (18 * l.i) l.initial.out
