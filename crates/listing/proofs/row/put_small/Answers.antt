-- `listing::row::put_small` meets its contract: a number of one byte has at most three digits.
use mathlib.Core.Path.{◌≡◌, ap}
use mathlib.Core.List.{◌∷◌}
use Prim.Native.Nat.{ℕ, ◌≤◌, ◌<◌}
use native.Mathlib.Omega.{arith}
use lib.ListN.{length}
use borrow.Author.Rules.{rules}
use Rattle.lent.specs.Numbers.{decimal}
use Rattle.lent.proofs.Decimals.{three-digits}
use Rattle.lent.proofs.Chains.{wrote_as, wrote_within}
use Rattle.listing.proofs.row.put_small.Goals as goal

pub returns-in-None : goal.returns-in-None
returns-in-None c = (rw c.in-None.is c.put_entry.ensures.0, wrote_within c.put_entry.ensures.0 (omega arith))

pub returns-in-Some : goal.returns-in-Some
returns-in-Some c =
    let n : ℕ = c.in-Some.n in
    let h : n < 256 = search rules in
    let wide = wrote_as (ap (λ (m : ℕ). 32 ∷ decimal m) c.from.ensures) c.put_entry-in-Some.ensures.0 in
    (rw c.in-Some.is wide, wrote_within wide (omega (arith, three-digits n h)))
