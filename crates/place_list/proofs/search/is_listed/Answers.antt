-- `place_list::search::is_listed` meets its contract: the steps among the rows and then in the row find what the table has.
use mathlib.Core.Path.{◌∙◌, sym, ap}
use Prim.Native.Nat.{ℕ, ◌<◌}
use mathlib.Core.List.{List}
use native.Mathlib.Omega.{arith}
use lib.Dec.{eqb}
use Rattle.place_list.specs.Search.{row_of, entry_of, row_for, found_in}
use Rattle.place_list.proofs.Found.{found, behind-all}
use Rattle.place_list.proofs.search.is_listed.Goals as goal

pub returns-then-number-eq56 : goal.returns-then-number-eq56
returns-then-number-eq56 c = behind-all c.args.place (sym c.row_for-number.ensures.value ∙ c.if-number-eq56.true)

pub returns : goal.returns
returns c =
    let place = c.args.place in
    let h : row_for place < 56 = omega (arith, c.row_for-number.ensures.value, c.row_for-number.ensures.within, c.if-number-eq56.false) in
    c.stands_in.ensures
    ∙ ap (λ (l : List ℕ). eqb (entry_of l (found_in l place)) place) (c.row-codes.ensures ∙ ap row_of c.row_for-number.ensures.value)
    ∙ found place h
