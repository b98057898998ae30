-- "A store reports how many pages are held, how many are disputed, and the lowest page that is not held (0 if none)."
use Rattle.std.specs.Prelude.{cond, List, [], ◌∷◌, ℕ, suc, eqb, ltb, Ok, Err, Result}
use Rattle.rows.specs.declared.refusal.Refusal.{Refusal}
use Rattle.rows.specs.declared.refusal.Refusal.TheVariants.{Unsound}
use Rattle.rows.specs.declared.refusal.Said.{Said}
use Rattle.rows.specs.Refusals.{answers, outcome, Verdict}
use Rattle.rows.specs.Runs.Questions.{unless}
use Rattle.pages.specs.declared.page.Page.{Page}
use Rattle.bulletin.specs.declared.count.Count.{Count}
use Rattle.bulletin.specs.declared.store.Store.{Store}
use Rattle.bulletin.specs.Stores.{sound_store}

-- how many pages have the mark
unfoldable pub count_marked : ℕ → List Page → ℕ
count_marked k [] = 0
count_marked k (p ∷ ps) = cond (eqb p.mark k) (suc (count_marked k ps)) (count_marked k ps)

-- the lowest page that is not held, of those up to the total, looked for behind i others
unfoldable pub lowest_not_held : ℕ → ℕ → List Page → ℕ
lowest_not_held total i [] = 0
lowest_not_held total i (p ∷ ps) = cond (ltb i total) (cond (eqb p.mark 1) (lowest_not_held total (suc i) ps) (suc i)) 0

-- what a report comes to: what is found, and the numbers
pub record Counted : Type 0 where
  pub answer : Verdict
  pub held : ℕ
  pub disputed : ℕ
  pub lowest : ℕ

-- "The reports of a store: 14"; "A refused report gives zeros"
unfoldable pub count_of : Store → Counted
count_of s =
    cond (sound_store s)
    (record { answer = Ok tt; held = count_marked 1 s.pages; disputed = count_marked 2 s.pages; lowest = lowest_not_held s.name.total 0 s.pages })
    (record { answer = Err Unsound; held = 0; disputed = 0; lowest = 0 })

-- the numbers alone
abbrev pub counts_in : Counted → Count
counts_in c = record { held = c.held; disputed = c.disputed; lowest = c.lowest }

-- what is handed back
abbrev pub count_told : Counted → Result Count Refusal
count_told c = outcome c.answer (counts_in c)

-- "A refused report gives zeros"
abbrev pub no_count : Count
no_count = record { held = 0; disputed = 0; lowest = 0 }

-- what the report says, in the paper's numbers
abbrev pub count_says : Store → Said
count_says s = answers (unless (sound_store s) Unsound)
