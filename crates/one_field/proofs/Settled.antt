-- Every public function of `one_field` is settled (crate `settled`).
use Rattle.one_field.proofs as one_field
use Rattle.one_field.specs.contracts as promised
use Rattle.settled.specs.Settled.{Settled}
use Rattle.settled.proofs.Law.{answer}

pub one_field_is_settled : Settled promised.one_field.ended one_field.one_field.Reads.Post
one_field_is_settled κs a x y = answer
