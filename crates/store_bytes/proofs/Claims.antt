-- What this crate claims of its definitions. Each is proved in the file that its last line names.
use mathlib.Core.Path.{◌≡◌}
use Prim.Native.Nat.{ℕ, ◌<◌}
use mathlib.Core.List.{List}
use lib.ListN.{length}
use Rattle.store_bytes.specs.Stores.{store_bytes, store_into, page_into, store_from, store_or_zeros}
use Rattle.pages.specs.declared.page.Page.{Page}
use Rattle.bulletin.specs.declared.store.Store.{Store}
use Rattle.bulletin.specs.Takings.{with_page}
use Rattle.bulletin.proofs.Telling.PageBytes.{Eighteen}
use Rattle.store_bytes.proofs.OnePage as OnePage
use Rattle.store_bytes.proofs.Pages as Pages
use Rattle.store_bytes.proofs.RoundTrip as RoundTrip

-- A store of 63 pages of 18 bytes has 1205 bytes.
pub a_store_has_1205_bytes : (s : Store) → length s.pages ≡ 63 → Eighteen s.pages → length (store_bytes s) ≡ 1205
a_store_has_1205_bytes = Pages.length_store

-- Nothing is lost, either way: such a store is given back by its bytes, and any 1205 bytes by their store.
pub store_to_bytes_and_back : (s : Store) → length s.pages ≡ 63 → Eighteen s.pages → store_from (store_bytes s) ≡ s
store_to_bytes_and_back = RoundTrip.store_back

pub bytes_to_store_and_back : (l : List ℕ) → length l ≡ 1205 → store_bytes (store_from l) ≡ l
bytes_to_store_and_back = RoundTrip.bytes_back

-- Where one page of a buffer's store is another, putting that page leaves the buffer as putting the whole store would.
pub one_page_is_enough : (buffer : List ℕ) (i : ℕ) (p : Page) → i < 63 → length p.text ≡ 18
    → page_into p i buffer ≡ store_into (with_page (store_or_zeros buffer) i p) buffer
one_page_is_enough = OnePage.page_put
