-- Every public function of `parity` is settled (crate `settled`).
use Rattle.parity.proofs as parity
use Rattle.parity.specs.contracts as promised
use Rattle.settled.specs.Settled.{Settled}
use Rattle.settled.proofs.Law.{answer}

pub parity_is_settled : Settled promised.parity.ended parity.parity.Reads.Post
parity_is_settled κs a x y = answer

pub parity_right_is_settled : Settled promised.parity_right.ended parity.parity_right.Reads.Post
parity_right_is_settled κs a x y = answer
