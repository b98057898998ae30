-- `place_list::search::row_for` meets its contract: six steps, each from where the one before it ended.
use mathlib.Core.Path.{◌∙◌, ap}
use Prim.Native.Nat.{ℕ}
use mathlib.Core.List.{List, [], ◌∷◌}
use native.Mathlib.Omega.{arith}
use Rattle.place_list.specs.Codes.{codes}
use Rattle.place_list.specs.Search.{lasts, entry_of, search as searched, row_for}
use Rattle.place_list.proofs.search.row_for.Goals as goal

pub returns : goal.returns
unfolding codes lasts row_for
returns c =
    let then : List ℕ → ℕ → ℕ = searched (entry_of lasts) c.args.place in record {
      value = c.past.ensures.value
          ∙ ap (then (1 ∷ [])) c.past-of_2.ensures.value
          ∙ ap (then (2 ∷ 1 ∷ [])) c.past-of_4.ensures.value
          ∙ ap (then (4 ∷ 2 ∷ 1 ∷ [])) c.past-of_8.ensures.value
          ∙ ap (then (7 ∷ 4 ∷ 2 ∷ 1 ∷ [])) c.past-of_15.ensures.value
          ∙ ap (then (14 ∷ 7 ∷ 4 ∷ 2 ∷ 1 ∷ [])) c.past-of_29.ensures.value;
      within = omega arith;
    }
