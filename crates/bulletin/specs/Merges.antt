-- Merging: "14, 13", then page by page.
use Rattle.std.specs.Prelude.{List, [], ◌∷◌, Ok, Err}
use Rattle.rows.specs.declared.refusal.Refusal.TheVariants.{OtherBulletin, Unsound}
use Rattle.rows.specs.declared.refusal.Said.{Said}
use Rattle.rows.specs.Refusals.{answers, Verdict}
use Rattle.rows.specs.Runs.Questions.{◌then◌, unless}
use Rattle.pages.specs.declared.page.Page.{Page}
use Rattle.bulletin.specs.declared.store.Store.{Store}
use Rattle.pages.specs.Pages.{join}
use Rattle.pages.specs.Names.{same_name}
use Rattle.bulletin.specs.Stores.{sound_store}

unfoldable pub merge_verdict : Store → Store → Verdict
merge_verdict s o =
    unless (sound_store s) Unsound then unless (sound_store o) Unsound then unless (same_name s.name o.name) OtherBulletin

-- what merging says, in the paper's numbers
abbrev pub merge_says : Store → Store → Said
merge_says s o = answers (merge_verdict s o)

unfoldable pub joins : List Page → List Page → List Page
joins [] qs = []
joins (p ∷ ps) [] = p ∷ ps
joins (p ∷ ps) (q ∷ qs) = join p q ∷ joins ps qs

abbrev pub joined_stores : Store → Store → Store
joined_stores s o = record { name = s.name; pages = joins s.pages o.pages }

-- what merging comes to: what is found, and a store
pub record Merging : Type 0 where
  pub answer : Verdict
  pub store : Store

-- "a refused merge [gives] the first store as given"
abbrev pub merging : Verdict → Store → Store → Merging
merging (Ok tt) s o = record { answer = Ok tt; store = joined_stores s o }
merging (Err x) s o = record { answer = Err x; store = s }

abbrev pub merge_of : Store → Store → Merging
merge_of s o = merging (merge_verdict s o) s o
