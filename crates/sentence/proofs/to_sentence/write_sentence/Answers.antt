-- `sentence::to_sentence::write_sentence` meets its contract.
use Rattle.std.proofs.Common.{◌∙◌, sym, length, arith}
use Rattle.sentence.proofs.Sending.{may_put}
use Rattle.sentence.proofs.to_sentence.write_sentence.Goals as goal

pub overflow_cast-satellite : goal.overflow_cast-satellite
overflow_cast-satellite c =
    let a = c.args in
    omega (arith, (may_put a.satellite a.frame.now (length a.buffer.now) (sym c.send_answer.ensures.value ∙ c.in_ok-send_answer.was)).0)

pub put_sentence-requires : goal.put_sentence-requires
put_sentence-requires c =
    let a = c.args in
    may_put a.satellite a.frame.now (length a.buffer.now) (sym c.send_answer.ensures.value ∙ c.in_ok-send_answer.was)
