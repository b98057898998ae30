-- How the code holds the codes and searches them. No contract that a caller sees speaks of it: a place is listed where the codes
-- have it.
use Rattle.std.specs.Prelude.{ℕ, zero, suc, ◌+◌, ◌-◌, ◌*◌, cond, List, [], ◌∷◌, ◌++◌, map, ltb, get_or, take, drop}
use Rattle.place_list.specs.Codes.{codes}

-- ---- the table: 32 codes to a row, and the last of each row

unfoldable pub row_of : ℕ → List ℕ
row_of row = take 32 (drop (32 * row) codes)

abbrev pub lasts_of : ℕ → List ℕ → List ℕ
lasts_of zero l = []
lasts_of (suc rows) l = get_or l 31 0 ∷ lasts_of rows (drop 32 l)

unfoldable pub lasts : List ℕ
lasts = lasts_of 56 codes

abbrev pub entry_of : List ℕ → ℕ → ℕ
entry_of l k = get_or l k 0

-- ---- the search for a place in numbers that rise, by halves

-- one step looks at one number, the last of as many as it has: where that is below the place, they are left out
abbrev pub past : (ℕ → ℕ) → ℕ → ℕ → ℕ → ℕ
past number place from step = cond (ltb (number (from + step - 1)) place) (from + step) from

-- steps, one behind the other: where they end ..
abbrev pub search : (ℕ → ℕ) → ℕ → List ℕ → ℕ → ℕ
search number place [] from = from
search number place (step ∷ steps) from = search number place steps (past number place from step)

-- .. and what they look at
abbrev pub looks : (ℕ → ℕ) → ℕ → List ℕ → ℕ → List ℕ
looks number place [] from = []
looks number place (step ∷ steps) from = (from + step - 1) ∷ looks number place steps (past number place from step)

-- ---- its steps

-- the steps among 56 rows, by their last codes: they end at the first row whose last code is not below the place, or behind all rows
abbrev pub row_steps : List ℕ
row_steps = 28 ∷ 14 ∷ 7 ∷ 4 ∷ 2 ∷ 1 ∷ []

unfoldable pub row_for : ℕ → ℕ
row_for place = search (entry_of lasts) place row_steps 0

-- the steps among the codes of a row, but for its last: they end at the first that is not below the place, or at the last
abbrev pub code_steps : List ℕ
code_steps = 16 ∷ 8 ∷ 4 ∷ 2 ∷ 1 ∷ []

unfoldable pub found_in : List ℕ → ℕ → ℕ
found_in row place = search (entry_of row) place code_steps 0

-- which codes of the table are looked at where there is such a row, each by how many stand before it
abbrev pub looked : ℕ → List ℕ
looked place =
    map (λ row. 32 * row + 31) (looks (entry_of lasts) place row_steps 0)
    ++ map (λ k. 32 * row_for place + k) (looks (entry_of (row_of (row_for place))) place code_steps 0)
