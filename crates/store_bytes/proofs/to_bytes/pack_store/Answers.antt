-- `store_bytes::to_bytes::pack_store` meets its contract: the bytes passed are those of the pages.
use mathlib.Core.Path.{◌≡◌, refl, ap, ◌∙◌}
use mathlib.Core.List.{List}
use Prim.Native.Nat.{◌+◌, ◌*◌}
use native.Mathlib.Omega.{arith}
use borrow.Author.Rules.{rules}
use lib.ListN.{length, get_or}
use lib.Seq.{sets, take_all}
use Rattle.pages.specs.declared.page.Page.{Page}
use Rattle.pages.specs.Pages.{no_page}
use Rattle.pages.proofs.Shapes.{shapes}
use Rattle.bulletin.proofs.Telling.PageBytes.{Eighteen}
use Rattle.store_bytes.specs.Stores.{page_bytes, pages_bytes}
use Rattle.store_bytes.proofs.Pages.{page_more, store_in_parts}
use Rattle.store_bytes.proofs.to_bytes.pack_store.Goals as goal

pub loop-k-init : goal.loop-k-init
unfolding pages_bytes
loop-k-init c = (refl, λ h. absurd (omega arith))

pub loop-k-preserved : goal.loop-k-preserved
loop-k-preserved c =
    let ps = c.args.store.now.pages in
    let k = c.loop-k.k in
    let long : length ps ≡ 63 = search rules in
    let eighteen : Eighteen ps = λ i h. search (rules, shapes) in (
      c.put_page.ensures
          ∙ ap (λ (d : List _). sets d (8 + 19 * k) (page_bytes (get_or ps k no_page))) c.loop-k.invariant.0
          ∙ page_more _ k ps (omega arith) eighteen,
      λ h. (long, eighteen),
    )

pub returns-after-loop-k : goal.returns-after-loop-k
returns-after-loop-k c =
    let ps = c.args.store.now.pages in
    let shape = c.loop-k.invariant.1 (omega arith) in
    store_in_parts c.args.out.now c.args.store.now shape.0 shape.1 c.if-out-eq-STORE_SIZE.true c.put_name.ensures
    (c.loop-k.invariant.0 ∙ ap (λ (l : List Page). sets c.put_name.new.out 8 (pages_bytes l)) (take_all c.loop-k.k ps (omega (arith, shape.0))))
