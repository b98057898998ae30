-- Every public function of `tsunami` is settled: those of its traits where the traits are (crate `settled`).
use Rattle.tsunami.proofs as tsunami
use Rattle.tsunami.specs.contracts as promised
use Rattle.settled.specs.Settled.{Settled}
use Rattle.settled.proofs.Law.{answer}

pub Arrival-of_is_settled : Settled promised.meaning.Arrival.of.ended tsunami.meaning.Arrival.of.Reads.Post
Arrival-of_is_settled κs a x y = answer

pub Height-of_is_settled : Settled promised.meaning.Height.of.ended tsunami.meaning.Height.of.Reads.Post
Height-of_is_settled κs a x y = answer
