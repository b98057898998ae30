-- Every public function of `hypocenter` is settled (crate `settled`); those of the trait `Category` are so at the trait.
use Rattle.hypocenter.proofs as hypocenter
use Rattle.hypocenter.specs.contracts as promised
use Rattle.settled.specs.Settled.{Settled}
use Rattle.settled.proofs.Law.{answer}

pub Depth-of_is_settled : Settled promised.meaning.Depth.of.ended hypocenter.meaning.Depth.of.Reads.Post
Depth-of_is_settled κs a x y = answer

pub Magnitude-of_is_settled : Settled promised.meaning.Magnitude.of.ended hypocenter.meaning.Magnitude.of.Reads.Post
Magnitude-of_is_settled κs a x y = answer
