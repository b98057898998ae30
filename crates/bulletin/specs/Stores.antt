-- A store: opened, and sound.
use Rattle.rows.specs.Refusals.{Verdict}
use Rattle.std.specs.Prelude.{◌≡◌, Bool, false, cond, true, ℕ, ◌<◌, suc, length, get_or, replicate, List, [], ◌∷◌, Ok, Err}
use Rattle.pages.specs.declared.page.Page.{Page}
use Rattle.pages.specs.declared.name.Name.{Name}
use Rattle.bulletin.specs.declared.store.Store.{Store}
use Rattle.pages.specs.Pages.{absent_page, no_page, sound_at, Shaped}
use Rattle.pages.specs.Names.{zero_name, name_verdict, name_in_range}

-- "it starts with no page"
abbrev pub no_pages : Name → Store
no_pages n = record { name = n; pages = replicate 63 absent_page }

-- "a refused opening [gives] a store of zeros"
abbrev pub zero_store : Store
zero_store = no_pages zero_name

-- what opening comes to: what is found, and a store
pub record Opening : Type 0 where
  pub answer : Verdict
  pub store : Store

abbrev pub opening : Verdict → Name → Opening
opening (Ok tt) n = record { answer = Ok tt; store = no_pages n }
opening (Err x) n = record { answer = Err x; store = zero_store }

abbrev pub open_of : Name → Opening
open_of n = opening (name_verdict n) n

-- each of these pages is sound, the first of which stands behind i others in a bulletin of so many
unfoldable pub sound_from : ℕ → ℕ → List Page → Bool
sound_from total i [] = true
sound_from total i (p ∷ ps) = cond (sound_at total i p) (sound_from total (suc i) ps) false

-- "A store is sound when its name is in range", and its pages are
unfoldable pub sound_store : Store → Bool
sound_store s = cond (name_in_range s.name) (sound_from s.name.total 0 s.pages) false

-- the page behind i others
abbrev pub page_behind : Store → ℕ → Page
page_behind s i = get_or s.pages i no_page

-- what the type of a store tells: 63 pages of 18 bytes
pub record ShapedStore (s : Store) : Type 0 where
  pub long : length s.pages ≡ 63
  pub pages : (i : ℕ) → i < 63 → Shaped (page_behind s i)
