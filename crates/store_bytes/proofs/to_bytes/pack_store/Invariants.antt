use mathlib.Core.Path.{◌≡◌}
use Prim.Native.Nat.{◌<◌}
use lib.ListN.{length, take}
use Rattle.bulletin.proofs.Telling.PageBytes.{Eighteen}
use lib.Seq.{sets}
use Rattle.store_bytes.specs.Stores.{pages_bytes}
use Rattle.store_bytes.proofs.to_bytes.pack_store.Given as goal

-- `store_bytes::to_bytes::pack_store` meets its contract: the bytes passed are those of the pages.
abbrev pub invariant-loop-k : goal.invariant-loop-k
invariant-loop-k l = (l.out ≡ sets l.initial.out 8 (pages_bytes (take l.k l.store.pages))) × (0 < l.k → (length l.store.pages ≡ 63) × Eighteen l.store.pages)
