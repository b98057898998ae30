-- `bulletin::store::Store::copy_text` meets its contract: the pages passed are written, and then what is left of the next.
use borrow.Author.Rules.{rules}
use mathlib.Core.Path.{◌≡◌}
use Prim.Native.Nat.{◌/◌, ◌%◌}
use native.Mathlib.Omega.{arith}
use lib.ListN.{length}
use Rattle.pages.proofs.Shapes.{shapes}
use Rattle.bulletin.proofs.Telling.PageBytes.{Eighteen, page_copied}
use Rattle.bulletin.proofs.store.Store.copy_text.Goals as goal

pub loop-i-preserved : goal.loop-i-preserved
loop-i-preserved c =
    let p = c.args.self.now.pages in
    let long : length p ≡ 63 = search rules in
    let eighteen : Eighteen p = λ i h. search (rules, shapes) in
    page_copied p c.args.out.now c.loop-i.i 18 eighteen (omega arith) (omega arith) (omega arith) (omega arith) (omega arith) c.loop-i.invariant c.put_page.ensures

pub returns-then-rest-gt0 : goal.returns-then-rest-gt0
returns-then-rest-gt0 c =
    let p = c.args.self.now.pages in
    let n = c.args.n in
    let long : length p ≡ 63 = search rules in
    let eighteen : Eighteen p = λ i h. search (rules, shapes) in
    let whole : c.loop-i.i ≡ n / 18 = omega arith in
    page_copied p c.args.out.now (n / 18) (n % 18) eighteen (omega arith) (omega arith) (omega arith) (omega arith) (omega arith) (rw whole at c.loop-i.invariant) c.put_page-then-rest-gt0.ensures
