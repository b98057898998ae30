-- Every public function of `volcano` is settled: those of its traits where the traits are (crate `settled`).
use Rattle.volcano.proofs as volcano
use Rattle.volcano.specs.contracts as promised
use Rattle.settled.specs.Settled.{Settled}
use Rattle.settled.proofs.Law.{answer}

pub ActivityTime-of_is_settled : Settled promised.meaning.ActivityTime.of.ended volcano.meaning.ActivityTime.of.Reads.Post
ActivityTime-of_is_settled κs a x y = answer

pub Validity-of_is_settled : Settled promised.meaning.Validity.of.ended volcano.meaning.Validity.of.Reads.Post
Validity-of_is_settled κs a x y = answer
