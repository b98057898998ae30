-- Every public function of `sentence` is settled (crate `settled`).
use Rattle.sentence.proofs as sentence
use Rattle.sentence.specs.contracts as promised
use Rattle.settled.specs.Settled.{Settled}
use Rattle.settled.proofs.Law.{answer, both, beside, third}

pub around_is_settled : Settled promised.from_sentence.around.ended sentence.from_sentence.around.Reads.Post
around_is_settled κs a x y = beside answer

pub read_sentence_is_settled : Settled promised.from_sentence.read_sentence.ended sentence.from_sentence.read_sentence.Reads.Post
read_sentence_is_settled κs a x y = beside answer

pub hear_line_is_settled : Settled promised.from_sentence.hear_line.ended sentence.from_sentence.hear_line.Reads.Post
hear_line_is_settled κs a x y = beside answer

pub is_another_is_settled : Settled promised.from_sentence.is_another.ended sentence.from_sentence.is_another.Reads.Post
is_another_is_settled κs a x y = answer

pub send_answer_is_settled : Settled promised.to_sentence.send_answer.ended sentence.to_sentence.send_answer.Reads.Post
send_answer_is_settled κs a x y = beside answer

pub write_sentence_is_settled : Settled promised.to_sentence.write_sentence.ended sentence.to_sentence.write_sentence.Reads.Post
write_sentence_is_settled κs a x y = beside (both third)
