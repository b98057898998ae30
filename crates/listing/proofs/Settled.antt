-- Every public function of `listing` is settled (crate `settled`).
use Prim.Native.Nat.{ℕ}
use mathlib.Core.Path.{◌≡◌}
use mathlib.Core.List.{List}
use Rattle.listing.specs.declared.scan.Step.{Step}
use Rattle.listing.specs.Rows.{Filled, filled}
use Rattle.listing.specs.Scanning.{AfterScan, after_scan}
use Rattle.listing.proofs as listing
use Rattle.listing.specs.contracts as promised
use Rattle.settled.specs.Settled.{Settled}
use Rattle.settled.proofs.Law.{answer, read_off, beside, only, second, third}

-- the contracts speak of the answer and the lent buffer as one value
length_and_buffer : {U : Type 0} (at : List ℕ → U) {x y : ℕ} {b c : List ℕ} {z : Filled} → filled x b ≡ z → filled y c ≡ z → ◌≡◌ {A = ℕ × U} (x, at b) (y, at c)
length_and_buffer at = read_off (λ l. (l.written, at l.buffer))

step_and_buffer : {U : Type 0} (at : List ℕ → U) {x y : Step} {b c : List ℕ} {z : AfterScan} → after_scan x b ≡ z → after_scan y c ≡ z → ◌≡◌ {A = Step × U} (x, at b) (y, at c)
step_and_buffer at = read_off (λ l. (l.step, at l.buffer))

pub Row-of_is_settled : Settled promised.row.Row.of.ended listing.row.Row.of.Reads.Post
Row-of_is_settled κs a x y = answer

pub write_heading_is_settled : Settled promised.row.write_heading.ended listing.row.write_heading.Reads.Post
write_heading_is_settled κs a x y = beside (length_and_buffer only)

pub write_row_is_settled : Settled promised.row.write_row.ended listing.row.write_row.Reads.Post
write_row_is_settled κs a x y = beside (length_and_buffer third)

pub Progress-behind_is_settled : Settled promised.progress.Progress.behind.ended listing.progress.Progress.behind.Reads.Post
Progress-behind_is_settled κs a x y = answer

pub Progress-with_is_settled : Settled promised.progress.Progress.with.ended listing.progress.Progress.with.Reads.Post
Progress-with_is_settled κs a x y = answer

pub scan_is_settled : Settled promised.scan.scan.ended listing.scan.scan.Reads.Post
scan_is_settled κs a x y = beside (step_and_buffer third)

pub finish_is_settled : Settled promised.scan.finish.ended listing.scan.finish.Reads.Post
finish_is_settled κs a x y = beside (length_and_buffer second)
