-- "A store is sound when its name is in range, each page's state is one of the three, absent and disputed pages hold zero
-- bytes, and pages past the total are absent" (document 01, "The page store").
use Rattle.std.specs.Prelude.{◌≡◌, List, [], ◌∷◌, ◌⊎◌, ℕ, ◌≤◌, ◌<◌, length}
use Rattle.rows.specs.declared.refusal.Refusal.TheVariants.{Range}
use Rattle.rows.specs.Faults.{◌or◌, Question, Met}
use Rattle.pages.specs.declared.name.Name.{Name}
use Rattle.bulletin.specs.declared.store.Store.{Store}
use Rattle.pages.specs.Pages.{no_text}
use Rattle.bulletin.specs.Stores.{page_behind}

-- "Opening: 8 at the first bad value in frame order; the total is 1-63, at bit 207": each value's range, as "The frame on the
-- wire" and "Category 4" have it, and its first bit
abbrev pub open_questions : Name → List Question
open_questions n =
    ((n.common.rc ≡ 2) ⊎ (n.common.rc ≡ 7)) or Range 14 n.common.rc
    ∷ ((1 ≤ n.common.month) × (n.common.month ≤ 12)) or Range 21 n.common.month
    ∷ ((1 ≤ n.common.day) × (n.common.day ≤ 31)) or Range 25 n.common.day
    ∷ (n.common.hour ≤ 23) or Range 30 n.common.hour
    ∷ (n.common.minute ≤ 59) or Range 35 n.common.minute
    ∷ ((n.common.it ≡ 0) ⊎ (n.common.it ≡ 2)) or Range 41 n.common.it
    ∷ ((1 ≤ n.serial) × (n.serial ≤ 15)) or Range 53 n.serial
    ∷ ((1 ≤ n.total) × (n.total ≤ 63)) or Range 207 n.total
    ∷ []

-- each value is in its range
abbrev pub InRange : Name → Type 0
InRange n = Met (open_questions n)

-- the three states: 0 absent, 1 held, 2 disputed
abbrev pub OneOfThree : ℕ → Type 0
OneOfThree mark = (mark ≡ 0) ⊎ ((mark ≡ 1) ⊎ (mark ≡ 2))

-- of each page of a store, the one behind i others
pub record Sound (s : Store) : Type 0 where
  pub name : InRange s.name
  pub state : (i : ℕ) → i < length s.pages → OneOfThree (page_behind s i).mark
  pub empty : (i : ℕ) → i < length s.pages → ((page_behind s i).mark ≡ 0) ⊎ ((page_behind s i).mark ≡ 2) → (page_behind s i).text ≡ no_text
  pub past : (i : ℕ) → i < length s.pages → s.name.total ≤ i → (page_behind s i).mark ≡ 0
