-- Every public function of `ash_fall` is settled: those of its traits where the traits are (crate `settled`).
use Rattle.ash_fall.proofs as ash_fall
use Rattle.ash_fall.specs.contracts as promised
use Rattle.settled.specs.Settled.{Settled}
use Rattle.settled.proofs.Law.{answer}

pub prefecture_of_is_settled : Settled promised.meaning.prefecture_of.ended ash_fall.meaning.prefecture_of.Reads.Post
prefecture_of_is_settled κs a x y = answer
