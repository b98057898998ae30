-- The table: an entry of those that an arm gives.
use mathlib.Core.Path.{◌≡◌, ap}
use Prim.Native.Nat.{ℕ}
use mathlib.Core.List.{List}
use lib.ListN.{get_or}

pub entry : (behind : ℕ) {l m : List ℕ} → l ≡ m → get_or l behind 0 ≡ get_or m behind 0
entry behind e = ap (λ (l : List ℕ). get_or l behind 0) e
