-- Every public function of `bulletin` is settled (crate `settled`).
use Rattle.bulletin.proofs as bulletin
use Rattle.bulletin.specs.contracts as promised
use Rattle.settled.specs.Settled.{Settled}
use Rattle.settled.proofs.Law.{answer, both, beside, first, second}

pub Store-of_zeros_is_settled : Settled promised.store.Store.of_zeros.ended bulletin.store.Store.of_zeros.Reads.Post
Store-of_zeros_is_settled κs a x y = answer

pub Store-open_is_settled : Settled promised.store.Store.open.ended bulletin.store.Store.open.Reads.Post
Store-open_is_settled κs a x y = beside answer

pub Store-is_sound_is_settled : Settled promised.store.Store.is_sound.ended bulletin.store.Store.is_sound.Reads.Post
Store-is_sound_is_settled κs a x y = answer

pub Store-take_is_settled : Settled promised.store.Store.take.ended bulletin.store.Store.take.Reads.Post
Store-take_is_settled κs a x y = beside (both first)

pub Store-merge_is_settled : Settled promised.store.Store.merge.ended bulletin.store.Store.merge.Reads.Post
Store-merge_is_settled κs a x y = beside (both first)

pub Store-count_is_settled : Settled promised.store.Store.count.ended bulletin.store.Store.count.Reads.Post
Store-count_is_settled κs a x y = beside answer

pub Store-text_is_settled : Settled promised.store.Store.text.ended bulletin.store.Store.text.Reads.Post
Store-text_is_settled κs a x y = beside (both second)
