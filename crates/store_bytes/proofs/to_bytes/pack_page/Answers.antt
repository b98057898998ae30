-- `store_bytes::to_bytes::pack_page` meets its contract.
use mathlib.Core.Logic.{⊎_elim}
use mathlib.Core.Path.{sym}
use Prim.Native.Nat.{◌+◌, ◌*◌}
use native.Mathlib.Omega.{arith}
use borrow.Author.Tests.{eq-eqb, ne_eqb}
use Rattle.lent.proofs.Chains.{sets-past}
use Rattle.store_bytes.specs.Stores.{page_bytes, page_into}
use Rattle.store_bytes.proofs.to_bytes.pack_page.Goals as goal

-- behind 63 others the buffer has ended
pub returns-else-out-eq-STORE_SIZE : goal.returns-else-out-eq-STORE_SIZE
unfolding page_into
returns-else-out-eq-STORE_SIZE c =
    let a = c.args in
    ⊎_elim
    (λ past. rw (eq-eqb _ 1205 past.0) (sym (sets-past (page_bytes a.page.now) a.out.now (8 + 19 * a.i) (omega (arith, past.0, past.1)))))
    (λ other. rw (ne_eqb _ 1205 other)) c.else-out-eq-STORE_SIZE.either
