-- Every public function of `record_bytes` is settled (crate `settled`).
use Rattle.record_bytes.proofs as record_bytes
use Rattle.record_bytes.specs.contracts as promised
use Rattle.settled.specs.Settled.{Settled}
use Rattle.settled.proofs.Law.{answer, buffer, second}

pub unpack_is_settled : Settled promised.unpack.ended record_bytes.unpack.Reads.Post
unpack_is_settled κs a x y = answer

pub pack_is_settled : Settled promised.pack.ended record_bytes.pack.Reads.Post
pack_is_settled κs a x y = buffer second

pub text_at_is_settled : Settled promised.text.text_at.ended record_bytes.text.text_at.Reads.Post
text_at_is_settled κs a x y = answer
