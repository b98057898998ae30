-- `record_bytes::from_bytes::unpack` meets its contract.
use mathlib.Core.Path.{sym}
use native.Mathlib.Omega.{arith}
use lib.ListN.{length}
use borrow.Author.Tests.{eq-eqb}
use Rattle.record_bytes.specs.Unpacked.{unpacked_as, record_from}
use Rattle.record_bytes.proofs.Texts.{text-found}
use Rattle.record_bytes.proofs.from_bytes.unpack.Goals as goal

pub returns : goal.returns
unfolding record_from unpacked_as
returns c =
    let l = c.in-Ok.bytes.now in
    simp (
      sym c.in-Ok.ensures.1.same,
      eq-eqb (length l) 251 (omega arith),
      c.common_of.ensures,
      c.text_at.ensures,
      text-found l 233 (omega arith),
      c.slots_of.ensures,
      c.has_stray.ensures,
      sym c.body_of-own.ensures.1.1.1,
      c.body_of-own.ensures.0,
    )
