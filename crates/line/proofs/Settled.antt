-- Every public function of `line` is settled (crate `settled`).
use Rattle.line.proofs as line
use Rattle.line.specs.contracts as promised
use Rattle.settled.specs.Settled.{Settled}
use Rattle.settled.proofs.Law.{answer, both, beside, second}

pub digit_is_settled : Settled promised.from_line.digit.ended line.from_line.digit.Reads.Post
digit_is_settled κs a x y = answer

pub frame_of_line_is_settled : Settled promised.from_line.frame_of_line.ended line.from_line.frame_of_line.Reads.Post
frame_of_line_is_settled κs a x y = beside answer

pub read_line_is_settled : Settled promised.from_line.read_line.ended line.from_line.read_line.Reads.Post
read_line_is_settled κs a x y = beside answer

pub look_line_is_settled : Settled promised.from_line.look_line.ended line.from_line.look_line.Reads.Post
look_line_is_settled κs a x y = beside answer

pub two_capitals_is_settled : Settled promised.to_line.two_capitals.ended line.to_line.two_capitals.Reads.Post
two_capitals_is_settled κs a x y = answer

pub write_line_is_settled : Settled promised.to_line.write_line.ended line.to_line.write_line.Reads.Post
write_line_is_settled κs a x y = beside (both second)
