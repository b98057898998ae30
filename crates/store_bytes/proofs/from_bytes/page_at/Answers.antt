-- `store_bytes::from_bytes::page_at` meets its contract.
use Prim.Native.Nat.{◌+◌}
use native.Mathlib.Omega.{arith}
use Rattle.record_bytes.proofs.Texts.{text-found}
use Rattle.store_bytes.proofs.from_bytes.page_at.Goals as goal

pub returns : goal.returns
returns c =
    simp (c.text_at.ensures, text-found c.args.bytes.now (c.args.at + 1) (omega arith))
