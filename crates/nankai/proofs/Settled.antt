-- Every public function of `nankai` is settled (crate `settled`); those of the trait `Category` are so at the trait.
use Rattle.nankai.proofs as nankai
use Rattle.nankai.specs.contracts as promised
use Rattle.settled.specs.Settled.{Settled}
use Rattle.settled.proofs.Law.{answer}

pub push_text_is_settled : Settled promised.push_text.ended nankai.push_text.Reads.Post
push_text_is_settled κs a x y = answer
