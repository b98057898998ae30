-- Every public function of `rows` is settled (crate `settled`).
use Rattle.rows.proofs as rows
use Rattle.rows.specs.contracts as promised
use Rattle.settled.specs.Settled.{Settled}
use Rattle.settled.proofs.Law.{answer}

pub Refusal-says_is_settled : Settled promised.refusal.Refusal.says.ended rows.refusal.Refusal.says.Reads.Post
Refusal-says_is_settled κs a x y = answer

pub unless_is_settled : Settled promised.question.unless.ended rows.question.unless.Reads.Post
unless_is_settled κs a x y = answer

pub within_is_settled : Settled promised.question.within.ended rows.question.within.Reads.Post
within_is_settled κs a x y = answer

pub spare_is_settled : Settled promised.question.spare.ended rows.question.spare.Reads.Post
spare_is_settled κs a x y = answer

pub Time-check_is_settled : Settled promised.time.Time.check.ended rows.time.Time.check.Reads.Post
Time-check_is_settled κs a x y = answer

pub Time-at_is_settled : Settled promised.time.Time.at.ended rows.time.Time.at.Reads.Post
Time-at_is_settled κs a x y = answer

pub ranged_is_settled : Settled promised.question.ranged.ended rows.question.ranged.Reads.Post
ranged_is_settled κs a x y = answer

pub is_two_or_seven_is_settled : Settled promised.codes.is_two_or_seven.ended rows.codes.is_two_or_seven.Reads.Post
is_two_or_seven_is_settled κs a x y = answer

pub is_two_three_or_seven_is_settled : Settled promised.codes.is_two_three_or_seven.ended rows.codes.is_two_three_or_seven.Reads.Post
is_two_three_or_seven_is_settled κs a x y = answer

pub is_uncorrected_is_settled : Settled promised.codes.is_uncorrected.ended rows.codes.is_uncorrected.Reads.Post
is_uncorrected_is_settled κs a x y = answer

pub is_corrected_is_settled : Settled promised.codes.is_corrected.ended rows.codes.is_corrected.Reads.Post
is_corrected_is_settled κs a x y = answer

pub Common-of_is_settled : Settled promised.common.Common.of.ended rows.common.Common.of.Reads.Post
Common-of_is_settled κs a x y = answer

pub Common-check_is_settled : Settled promised.common.Common.check.ended rows.common.Common.check.Reads.Post
Common-check_is_settled κs a x y = answer

pub Time-of_values_is_settled : Settled promised.time.Time.of_values.ended rows.time.Time.of_values.Reads.Post
Time-of_values_is_settled κs a x y = answer

pub Common-of_zeros_is_settled : Settled promised.common.Common.of_zeros.ended rows.common.Common.of_zeros.Reads.Post
Common-of_zeros_is_settled κs a x y = answer

pub in_group_is_settled : Settled promised.question.in_group.ended rows.question.in_group.Reads.Post
in_group_is_settled κs a x y = answer

pub notification_is_settled : Settled promised.codes.notification.ended rows.codes.notification.Reads.Post
notification_is_settled κs a x y = answer

pub Spares-none_is_settled : Settled promised.fields.Spares.none.ended rows.fields.Spares.none.Reads.Post
Spares-none_is_settled κs a x y = answer
