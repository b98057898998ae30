-- `store_bytes::from_bytes::unpack_store` meets its contract: the pages passed are those of the bytes.
use mathlib.Core.Path.{◌∙◌}
use native.Mathlib.Omega.{arith}
use lib.ListN.{length-set}
use Rattle.rows.proofs.Layouts.Filling.{fill}
use Rattle.pages.specs.Pages.{absent_page}
use Rattle.store_bytes.proofs.from_bytes.unpack_store.Invariants.{nth}
use Rattle.store_bytes.proofs.from_bytes.unpack_store.Goals as goal

pub loop-k-preserved : goal.loop-k-preserved
loop-k-preserved c =
    let l = c.loop-k in (
      l.invariant.0,
      length-set l.store.pages l.k c.page_at.result ∙ l.invariant.1,
      fill 63 l.k (nth c.args.bytes.now) absent_page c.page_at.result l.store.pages (omega arith) l.invariant.2 c.page_at.ensures,
    )
