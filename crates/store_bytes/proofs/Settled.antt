-- Every public function of `store_bytes` is settled (crate `settled`).
use Rattle.store_bytes.proofs as store_bytes
use Rattle.store_bytes.specs.contracts as promised
use Rattle.settled.specs.Settled.{Settled}
use Rattle.settled.proofs.Law.{answer, buffer, second, third}

pub unpack_name_is_settled : Settled promised.unpack_name.ended store_bytes.unpack_name.Reads.Post
unpack_name_is_settled κs a x y = answer

pub unpack_store_is_settled : Settled promised.unpack_store.ended store_bytes.unpack_store.Reads.Post
unpack_store_is_settled κs a x y = answer

pub pack_store_is_settled : Settled promised.pack_store.ended store_bytes.pack_store.Reads.Post
pack_store_is_settled κs a x y = buffer second

pub pack_page_is_settled : Settled promised.pack_page.ended store_bytes.pack_page.Reads.Post
pack_page_is_settled κs a x y = buffer third
