-- Every public function of `place_list` is settled (crate `settled`).
use Rattle.place_list.proofs as place_list
use Rattle.place_list.specs.contracts as promised
use Rattle.settled.specs.Settled.{Settled}
use Rattle.settled.proofs.Law.{answer}

pub Standing-of_is_settled : Settled promised.Standing.of.ended place_list.Standing.of.Reads.Post
Standing-of_is_settled κs a x y = answer
