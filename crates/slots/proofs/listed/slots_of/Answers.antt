-- `slots::listed::slots_of` meets its contract.
use native.Mathlib.Omega.{arith}
use Rattle.bits.specs.Frame.{frame_in}
use Rattle.slots.proofs.Taken.{all_sixteen}
use Rattle.slots.proofs.listed.slots_of.Goals as goal

pub returns : goal.returns
returns g c =
    rw (
      c.slot_or_none.ensures,
      c.slot_or_none-2.ensures,
      c.slot_or_none-3.ensures,
      c.slot_or_none-4.ensures,
      c.slot_or_none-5.ensures,
      c.slot_or_none-6.ensures,
      c.slot_or_none-7.ensures,
      c.slot_or_none-8.ensures,
      c.slot_or_none-9.ensures,
      c.slot_or_none-10.ensures,
      c.slot_or_none-11.ensures,
      c.slot_or_none-12.ensures,
      c.slot_or_none-13.ensures,
      c.slot_or_none-14.ensures,
      c.slot_or_none-15.ensures,
      c.slot_or_none-16.ensures,
    ) (all_sixteen g.C.Listed.slots (frame_in c.args.f.now) (omega (arith, g.met.C.Listed.sixteen, g.met.C.Listed.count)))
