-- Every public function of `pages` is settled (crate `settled`).
use Rattle.pages.proofs as pages
use Rattle.pages.specs.contracts as promised
use Rattle.settled.specs.Settled.{Settled}
use Rattle.settled.proofs.Law.{answer, beside}

pub Page-absent_is_settled : Settled promised.page.Page.absent.ended pages.page.Page.absent.Reads.Post
Page-absent_is_settled κs a x y = answer

pub Page-held_is_settled : Settled promised.page.Page.held.ended pages.page.Page.held.Reads.Post
Page-held_is_settled κs a x y = answer

pub Page-disputed_is_settled : Settled promised.page.Page.disputed.ended pages.page.Page.disputed.Reads.Post
Page-disputed_is_settled κs a x y = answer

pub Page-kept_is_settled : Settled promised.page.Page.kept.ended pages.page.Page.kept.Reads.Post
Page-kept_is_settled κs a x y = answer

pub Page-join_is_settled : Settled promised.page.Page.join.ended pages.page.Page.join.Reads.Post
Page-join_is_settled κs a x y = answer

pub Page-is_sound_at_is_settled : Settled promised.page.Page.is_sound_at.ended pages.page.Page.is_sound_at.Reads.Post
Page-is_sound_at_is_settled κs a x y = answer

pub Name-of_zeros_is_settled : Settled promised.name.Name.of_zeros.ended pages.name.Name.of_zeros.Reads.Post
Name-of_zeros_is_settled κs a x y = answer

pub Name-verdict_is_settled : Settled promised.name.Name.verdict.ended pages.name.Name.verdict.Reads.Post
Name-verdict_is_settled κs a x y = beside answer

pub Name-is_in_range_is_settled : Settled promised.name.Name.is_in_range.ended pages.name.Name.is_in_range.Reads.Post
Name-is_in_range_is_settled κs a x y = answer

-- `==`
pub Name-eq_is_settled : Settled promised.name.NamePartialEq.eq.ended pages.name.NamePartialEq.eq.Reads.Post
Name-eq_is_settled κs a x y = answer
