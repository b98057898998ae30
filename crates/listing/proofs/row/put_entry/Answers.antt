-- `listing::row::put_entry` meets its contract.
use Prim.Native.Nat.{ℕ, ◌<◌}
use native.Mathlib.Omega.{arith}
use Rattle.lent.proofs.Decimals.{twenty_digits}
use Rattle.lent.proofs.Chains.{◌then◌}
use borrow.Author.Rules.{rules}
use Rattle.listing.proofs.row.put_entry.Goals as goal

pub returns-in-Some : goal.returns-in-Some
returns-in-Some c =
    let n : ℕ = c.in-Some.n in
    let h : n < 18446744073709551616 = search rules in
    (rw c.in-Some.is (c.put_byte-next.ensures then c.put_decimal.ensures), omega (arith, c.put_decimal.ensures.place, c.put_byte-next.ensures.place, twenty_digits n h))
