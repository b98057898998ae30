-- What is claimed of the list of places (document 02, f).
use mathlib.Core.Path.{◌≡◌, refl}
use mathlib.Core.Bool.{true}
use mathlib.Core.Logic.{◌↔◌}
use Prim.Native.Nat.{ℕ, ◌+◌, ◌*◌, ◌/◌, ◌≤◌, ◌<◌}
use native.Mathlib.Omega.{arith}
use lib.ListN.{length}
use Rattle.place_list.specs.Codes.{codes, code_at}
use Rattle.place_list.specs.Search.{row_of, row_for, found_in, looked}
use Rattle.place_list.specs.Standing.{among, listed, in_prefecture, standing_of}
use Rattle.place_list.specs.declared.Standing.TheVariants.{Listed, Unlisted, Outside}
use Rattle.place_list.proofs.Found as Found
use Rattle.place_list.proofs.Entries.{Entry}
use Rattle.place_list.proofs.Rules as Rules
use Rattle.place_list.proofs.Tests.{added, endings}
use Rattle.place_list.proofs.Standings.{below, beyond, entry_is_listed, given, is_outside, listed-within, meant, others-listed, within-digits}

-- ---- the table

-- "Hold all codes of table 4.1.2-33 as printed in document 001": so many were counted there
pub the_table_has_1792_codes : length codes ≡ 1792
the_table_has_1792_codes = Rules.there_are_1792

-- .. and they add up to this there: a code that was copied wrongly into the definitions and the code alike is found by it
pub the_codes_add_up_to_3800813856 : added codes ≡ 3800813856
unfolding codes
the_codes_add_up_to_3800813856 = refl

-- "That the table rises strictly"
pub the_table_rises : (i j : ℕ) → i < j → j < 1792 → code_at i < code_at j
the_table_rises = Rules.rising

-- "and that every entry's first digits name prefecture 1 to 47"
pub each_code_names_a_prefecture : (k : ℕ) → k < 1792 → (1 ≤ code_at k / 100000) × (code_at k / 100000 ≤ 47)
each_code_names_a_prefecture k h = within-digits (code_at k) (Rules.in_prefecture_lem k h)

-- .. from 110000 in the first prefecture on, to the last of the codes for other places
pub the_table_begins_with_110000 : code_at 0 ≡ 110000
unfolding code_at codes
the_table_begins_with_110000 = refl

pub the_table_ends_with_4799999 : code_at 1791 ≡ 4799999
the_table_ends_with_4799999 = Rules.the_last_code

-- ---- the three answers, each exactly where it is given

-- "whether a place code is in the standard's list"
pub a_place_is_listed_exactly_where_it_is_an_entry : (place : ℕ) → standing_of place ≡ Listed ↔ Entry place
a_place_is_listed_exactly_where_it_is_an_entry place = (meant place Listed, given place Listed)

-- "unlisted but within a prefecture"
pub a_place_is_unlisted_exactly_where_it_is_no_entry_and_names_a_prefecture : (place : ℕ) → standing_of place ≡ Unlisted ↔ ((Entry place → ⊥) × ((1 ≤ place / 100000) × (place / 100000 ≤ 47)))
a_place_is_unlisted_exactly_where_it_is_no_entry_and_names_a_prefecture place = (meant place Unlisted, given place Unlisted)

-- "or outside"
pub a_place_is_outside_exactly_where_it_names_no_prefecture : (place : ℕ) → standing_of place ≡ Outside ↔ ((1 ≤ place / 100000) × (place / 100000 ≤ 47) → ⊥)
a_place_is_outside_exactly_where_it_names_no_prefecture place = (meant place Outside, given place Outside)

pub a_listed_place_is_never_outside : (place : ℕ) → Entry place → standing_of place ≡ Outside → ⊥
a_listed_place_is_never_outside place k e = meant place Outside e (within-digits place (listed-within place (entry_is_listed place k)))

-- a place that lies where the tables of categories 8 and 9 allow one is never outside
pub a_place_in_the_range_of_the_tables_is_never_outside : (place : ℕ) → 110000 ≤ place → place ≤ 4799999 → standing_of place ≡ Outside → ⊥
a_place_in_the_range_of_the_tables_is_never_outside place low high e = meant place Outside e (omega arith, omega arith)

-- ---- witnesses

-- "with the special 'other' codes ending in 99999": each prefecture has one ..
pub each_prefecture_has_a_code_for_other_places : (prefecture : ℕ) → 1 ≤ prefecture → prefecture ≤ 47 → standing_of (prefecture * 100000 + 99999) ≡ Listed
each_prefecture_has_a_code_for_other_places = others-listed

-- .. and no other code ends so
pub there_are_47_codes_for_other_places : endings codes ≡ 47
unfolding codes
there_are_47_codes_for_other_places = refl

pub place_110000_is_listed : standing_of 110000 ≡ Listed
unfolding standing_of listed codes
place_110000_is_listed = refl

pub place_100000_is_unlisted : standing_of 100000 ≡ Unlisted
unfolding standing_of listed in_prefecture codes
place_100000_is_unlisted = refl

pub place_110001_is_unlisted : standing_of 110001 ≡ Unlisted
unfolding standing_of listed in_prefecture codes
place_110001_is_unlisted = refl

pub place_4800000_is_outside : standing_of 4800000 ≡ Outside
place_4800000_is_outside = is_outside 4800000 (beyond 4800000 (omega arith))

-- an empty slot's zero is no place, and is not the first of the table or any other of its codes
pub place_0_is_outside : standing_of 0 ≡ Outside
place_0_is_outside = is_outside 0 (below 0 (omega arith))

pub place_0_is_no_entry : Entry 0 → ⊥
place_0_is_no_entry k = a_listed_place_is_never_outside 0 k place_0_is_outside

-- ---- the search

-- eleven codes are looked at, one by each step, and none where a place is outside ..
pub eleven_codes_are_looked_at : (place : ℕ) → length (looked place) ≡ 11
eleven_codes_are_looked_at place = refl

-- .. and the one that the place is compared with at last is one of them
pub the_code_compared_at_last_was_looked_at : (place : ℕ) → place ≤ 4799999 → among (32 * row_for place + found_in (row_of (row_for place)) place) (looked place) ≡ true
the_code_compared_at_last_was_looked_at place h = Found.seen-at_last place (Found.reaches_a_row place h)
