-- Every public function of `report` is settled (crate `settled`).
use Rattle.report.proofs as report
use Rattle.report.specs.contracts as promised
use Rattle.settled.specs.Settled.{Settled}
use Rattle.settled.proofs.Law.{answer, both, beside, second}

pub Record-slots_used_is_settled : Settled promised.record.Record.slots_used.ended report.record.Record.slots_used.Reads.Post
Record-slots_used_is_settled κs a x y = answer

pub Record-of_zeros_is_settled : Settled promised.record.Record.of_zeros.ended report.record.Record.of_zeros.Reads.Post
Record-of_zeros_is_settled κs a x y = answer

pub read_is_settled : Settled promised.read.read.ended report.read.read.Reads.Post
read_is_settled κs a x y = beside answer

pub look_is_settled : Settled promised.look.look.ended report.look.look.Reads.Post
look_is_settled κs a x y = beside answer

pub Looked-of_zeros_is_settled : Settled promised.look.Looked.of_zeros.ended report.look.Looked.of_zeros.Reads.Post
Looked-of_zeros_is_settled κs a x y = answer

pub Looked-of_is_settled : Settled promised.look.Looked.of.ended report.look.Looked.of.Reads.Post
Looked-of_is_settled κs a x y = answer

pub write_answer_is_settled : Settled promised.write.write_answer.ended report.write.write_answer.Reads.Post
write_answer_is_settled κs a x y = beside answer

pub write_is_settled : Settled promised.write.write.ended report.write.write.Reads.Post
write_is_settled κs a x y = beside (both second)

pub Body-table_is_settled : Settled promised.body.Body.table.ended report.body.Body.table.Reads.Post
Body-table_is_settled κs a x y = answer

pub Body-fields_is_settled : Settled promised.body.Body.fields.ended report.body.Body.fields.Reads.Post
Body-fields_is_settled κs a x y = answer

pub Body-page_is_settled : Settled promised.body.Body.page.ended report.body.Body.page.Reads.Post
Body-page_is_settled κs a x y = answer

pub Body-code_is_settled : Settled promised.body.Body.code.ended report.body.Body.code.Reads.Post
Body-code_is_settled κs a x y = answer

pub Body-count_is_settled : Settled promised.body.Body.count.ended report.body.Body.count.Reads.Post
Body-count_is_settled κs a x y = answer

pub Body-of_values_is_settled : Settled promised.body.Body.of_values.ended report.body.Body.of_values.Reads.Post
Body-of_values_is_settled κs a x y = answer
