-- A page store as 1205 bytes, for callers that know bytes only:
--
--   0           Rc
--   1 to 4      month, day, hour, minute of the issue
--   5           It
--   6           Is
--   7           page total
--   8 to 1204   63 pages of 19 bytes, page 1 first: the mark (0 absent, 1 held, 2 disputed), then 18 bytes of text
--
-- Any 1205 bytes are a store, which may be far from sound.
use Rattle.std.specs.Prelude.{ℕ, ◌+◌, ◌*◌, cond, List, [], ◌∷◌, ◌++◌, length, get_or, eqb}
use Rattle.std.proofs.lemmas.List.Edits.{sets}
use Rattle.rows.specs.Values.{each}
use Rattle.pages.specs.declared.name.Name.{Name}
use Rattle.pages.specs.declared.page.Page.{Page}
use Rattle.bulletin.specs.declared.store.Store.{Store}
use Rattle.pages.specs.Names.{zero_name}
use Rattle.bulletin.specs.Stores.{zero_store}
use Rattle.record_bytes.specs.Text.{text_at}

-- ---- from a store to its bytes

abbrev pub name_bytes : Name → List ℕ
name_bytes n =
    n.common.rc
    ∷ n.common.month
    ∷ n.common.day
    ∷ n.common.hour
    ∷ n.common.minute
    ∷ n.common.it
    ∷ n.serial
    ∷ n.total ∷ []

abbrev pub page_bytes : Page → List ℕ
page_bytes p = p.mark ∷ p.text

unfoldable pub pages_bytes : List Page → List ℕ
pages_bytes [] = []
pages_bytes (p ∷ ps) = page_bytes p ++ pages_bytes ps

abbrev pub store_bytes : Store → List ℕ
store_bytes s = name_bytes s.name ++ pages_bytes s.pages

-- a lent buffer of 1205 bytes takes them; one of another length stays as it was
unfoldable pub store_into : Store → List ℕ → List ℕ
store_into s buffer = cond (eqb (length buffer) 1205) (store_bytes s) buffer

-- and one page, which stands behind i others, in its place: a page behind 63 others or more has none there
unfoldable pub page_into : Page → ℕ → List ℕ → List ℕ
page_into p i buffer = cond (eqb (length buffer) 1205) (sets buffer (8 + 19 * i) (page_bytes p)) buffer

-- ---- from bytes to a store

abbrev pub name_from : List ℕ → Name
name_from l = record {
  common = record { rc = get_or l 0 0; month = get_or l 1 0; day = get_or l 2 0; hour = get_or l 3 0; minute = get_or l 4 0; it = get_or l 5 0 };
  serial = get_or l 6 0;
  total = get_or l 7 0;
}

-- the page from the byte k on
abbrev pub page_at : List ℕ → ℕ → Page
page_at l k = record { mark = get_or l k 0; text = text_at l (k + 1) }

abbrev pub pages_from : List ℕ → List Page
pages_from l = each 63 (λ i. page_at l (8 + 19 * i))

abbrev pub store_from : List ℕ → Store
store_from l = record { name = name_from l; pages = pages_from l }

-- bytes of another length are a store of zeros, and a name of zeros
unfoldable pub store_or_zeros : List ℕ → Store
store_or_zeros l = cond (eqb (length l) 1205) (store_from l) zero_store

unfoldable pub name_or_zeros : List ℕ → Name
name_or_zeros l = cond (eqb (length l) 8) (name_from l) zero_name
