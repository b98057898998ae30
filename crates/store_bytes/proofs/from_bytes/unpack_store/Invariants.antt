use mathlib.Core.Path.{◌≡◌}
use mathlib.Core.List.{List, ◌++◌}
use Prim.Native.Nat.{ℕ, ◌+◌, ◌-◌, ◌*◌}
use lib.ListN.{length, replicate}
use Rattle.rows.specs.Values.{each}
use Rattle.pages.specs.declared.page.Page.{Page}
use Rattle.pages.specs.Pages.{absent_page}
use Rattle.store_bytes.specs.Stores.{name_from, page_at}
use Rattle.store_bytes.proofs.from_bytes.unpack_store.Given as goal

-- `store_bytes::from_bytes::unpack_store` meets its contract: the pages passed are those of the bytes.
abbrev pub nth : List ℕ → ℕ → Page
nth l i = page_at l (8 + 19 * i)

abbrev pub invariant-loop-k : goal.invariant-loop-k
invariant-loop-k l = (l.store.name ≡ name_from l.bytes) × (length l.store.pages ≡ 63) × (l.store.pages ≡ each l.k (nth l.bytes) ++ replicate (63 - l.k) absent_page)
