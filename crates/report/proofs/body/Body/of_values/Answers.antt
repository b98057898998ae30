-- `report::body::Body::of_values` meets its contract.
use borrow.Author.Rules.{rules}
use borrow.Author.Tests.{ne_eqb}
use lib.Dec.{eqb}
use mathlib.Core.Bool.{false}
use mathlib.Core.Path.{◌≡◌}
use Rattle.report.specs.Categories.{body_from}
use Rattle.report.proofs.body.Body.of_values.Goals as goal

pub returns-in-2 : goal.returns-in-2
unfolding body_from
returns-in-2 c = rw c.in-2.is (simp (c.with_spares.ensures, c.body.ensures, c.of_values.ensures))

pub returns-in-3 : goal.returns-in-3
unfolding body_from
returns-in-3 c = rw c.in-3.is (simp (c.with_spares-in-3.ensures, c.body-in-3.ensures, c.of_values-in-3.ensures))

pub returns-in-4 : goal.returns-in-4
unfolding body_from
returns-in-4 c = rw c.in-4.is (simp (c.with_spares-in-4.ensures, c.body-in-4.ensures, c.of_values-in-4.ensures))

pub returns-in-5 : goal.returns-in-5
unfolding body_from
returns-in-5 c = rw c.in-5.is (simp (c.with_spares-in-5.ensures, c.body-in-5.ensures, c.of_values-in-5.ensures))

pub returns-in-8 : goal.returns-in-8
unfolding body_from
returns-in-8 c = rw c.in-8.is (simp (c.with_spares-in-8.ensures, c.body-in-8.ensures, c.of_values-in-8.ensures))

pub returns-in-9 : goal.returns-in-9
unfolding body_from
returns-in-9 c = rw c.in-9.is (simp (c.with_spares-in-9.ensures, c.body-in-9.ensures, c.of_values-in-9.ensures))

pub returns-in-11 : goal.returns-in-11
unfolding body_from
returns-in-11 c = rw c.in-11.is (simp c.with_spares-in-11.ensures)

pub returns-in_default : goal.returns-in_default
unfolding body_from
returns-in_default c =
    let code = c.args.code in
    let two : eqb code 2 ≡ false = ne_eqb code 2 (search rules) in
    let three : eqb code 3 ≡ false = ne_eqb code 3 (search rules) in
    let four : eqb code 4 ≡ false = ne_eqb code 4 (search rules) in
    let five : eqb code 5 ≡ false = ne_eqb code 5 (search rules) in
    let eight : eqb code 8 ≡ false = ne_eqb code 8 (search rules) in
    let nine : eqb code 9 ≡ false = ne_eqb code 9 (search rules) in
    let eleven : eqb code 11 ≡ false = ne_eqb code 11 (search rules) in
    simp (c.with_spares-in_default.ensures, two, three, four, five, eight, nine, eleven)
