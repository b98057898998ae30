-- `bulletin::store::Store::text_length` meets its contract: the bytes of the pages behind are zeros.
use mathlib.Core.Path.{◌≡◌, ◌∙◌, sym}
use lib.ListN.{length}
use Rattle.bulletin.specs.Text.{bytes_in_order}
use Rattle.pages.proofs.Shapes.{shapes}
use borrow.Author.Rules.{rules}
use Prim.Native.Nat.{◌<◌, ◌-◌, ◌+◌, ◌*◌}
use native.Mathlib.Omega.{arith}
use Rattle.bulletin.proofs.Telling.PageBytes.{Eighteen, ends_at, all_zeros, byte_of_page, zeros_from}
use Rattle.bulletin.proofs.store.Store.text_length.Goals as goal

pub returns-in-Some : goal.returns-in-Some
returns-in-Some c =
    let p = c.args.self.now.pages in
    let long : length p ≡ 63 = search rules in
    let eighteen : Eighteen p = λ i h. search (rules, shapes) in
    let i = c.loop-i.i - 1 in
    let last = c.in-Some.last in
    let short : last < 18 = c.in-Some.ensures.0 in
    sym (ends_at (18 * c.args.self.now.name.total) (18 * i + last) (bytes_in_order p) (omega arith)
    (λ e. c.in-Some.ensures.1 (sym (byte_of_page p i eighteen (omega arith) last short) ∙ e))
    (λ k h. zeros_from p i eighteen (omega arith) (last + 1) _ (λ j l. c.in-Some.ensures.2 j (omega arith)) (λ j l. c.loop-i.invariant j (omega arith)) k (omega arith)))

pub loop-i-preserved : goal.loop-i-preserved
loop-i-preserved c =
    let p = c.args.self.now.pages in
    let long : length p ≡ 63 = search rules in
    let eighteen : Eighteen p = λ i h. search (rules, shapes) in
    let i = c.loop-i.i - 1 in
    λ k h. zeros_from p i eighteen (omega arith) 0 _ (λ j l h. c.in_default.ensures j (omega (arith, eighteen i (omega arith)))) (λ j l. c.loop-i.invariant j (omega arith)) k (omega arith)

pub returns : goal.returns
returns c = sym (all_zeros _ _ (λ k h. c.loop-i.invariant k (omega arith) h))
