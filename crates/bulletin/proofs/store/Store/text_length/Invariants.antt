use mathlib.Core.Path.{◌≡◌}
use Prim.Native.Nat.{ℕ, ◌≤◌, ◌<◌, ◌*◌}
use lib.ListN.{get_or}
use Rattle.bulletin.specs.Text.{bytes_in_order}
use Rattle.bulletin.proofs.store.Store.text_length.Given as goal

-- `bulletin::store::Store::text_length` meets its contract: the bytes of the pages behind are zeros.
abbrev pub invariant-loop-i : goal.invariant-loop-i
invariant-loop-i l = (k : ℕ) → 18 * l.i ≤ k → k < 18 * l.self.name.total → get_or (bytes_in_order l.self.pages) k 0 ≡ 0
