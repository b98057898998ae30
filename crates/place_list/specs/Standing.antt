-- How a place stands to the list (document 02, f).
use Rattle.std.specs.Prelude.{ℕ, ◌/◌, Bool, false, ◌&&◌, ◌||◌, cond, List, [], ◌∷◌, leb, eqb}
use Rattle.place_list.specs.Codes.{codes}
use Rattle.place_list.specs.declared.Standing.{Standing}
use Rattle.place_list.specs.declared.Standing.TheVariants.{Listed, Unlisted, Outside}

-- one of the numbers is the place
abbrev pub among : ℕ → List ℕ → Bool
among place [] = false
among place (code ∷ others) = eqb code place || among place others

-- "whether a place code is in the standard's list"
unfoldable pub listed : ℕ → Bool
listed place = among place codes

-- "A place divided by 100000, remainder dropped, is its prefecture, 1 to 47"
unfoldable pub in_prefecture : ℕ → Bool
in_prefecture place = leb 1 (place / 100000) && leb (place / 100000) 47

-- "Answer listed, unlisted but within a prefecture, or outside."
unfoldable pub standing_of : ℕ → Standing
standing_of place = cond (listed place) Listed (cond (in_prefecture place) Unlisted Outside)
