-- `place_list::search::stands_in` meets its contract.
use Rattle.place_list.specs.Search.{found_in}
use Rattle.place_list.proofs.search.stands_in.Goals as goal

pub returns : goal.returns
unfolding found_in
returns c =
    simp (c.past-found.ensures.value, c.past-of_2.ensures.value, c.past-of_4.ensures.value, c.past-of_8.ensures.value, c.past-of_16.ensures.value)
