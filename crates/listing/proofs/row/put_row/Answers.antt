-- `listing::row::put_row` meets its contract: ten digits, four entries of at most four bytes, a value of at most 21, a line feed.
use mathlib.Core.Path.{ap}
use Prim.Native.Nat.{◌≤◌}
use native.Mathlib.Omega.{arith}
use lib.ListN.{length}
use Rattle.lent.specs.Numbers.{decimal}
use Rattle.listing.specs.Rows.{row_text}
use Rattle.lent.proofs.Decimals.{ten_digits}
use Rattle.lent.proofs.Chains.{◌then◌, wrote_as, wrote_within}
use borrow.Author.Rules.{rules}
use Rattle.listing.proofs.row.put_row.Goals as goal

pub returns : goal.returns
unfolding row_text
returns c =
    let digits : length (decimal c.args.number) ≤ 10 = ten_digits c.args.number (search rules) in
    let number = wrote_as (ap decimal c.from.ensures) c.put_decimal-behind_number.ensures in (
      number
          then c.put_small-behind_answer.ensures.0
          then c.put_small-behind_place.ensures.0
          then c.put_small-behind_category.ensures.0
          then c.put_small-behind_slots.ensures.0
          then c.put_entry-end.ensures.0
          then c.put_byte.ensures,
      omega (
        arith,
        wrote_within number digits,
        c.put_small-behind_answer.ensures.1,
        c.put_small-behind_place.ensures.1,
        c.put_small-behind_category.ensures.1,
        c.put_small-behind_slots.ensures.1,
        c.put_entry-end.ensures.1,
        c.put_byte.ensures.place,
      ),
    )
