-- `slots::silence::is_tidy` meets its contract.
use borrow.Author.Tests.{le-ltb}
use mathlib.Core.Path.{◌∙◌, sym}
use Rattle.slots.specs.Slots.{slot_parts}
use Rattle.slots.proofs.Vacant.{empty-vacant, none_held}
use Rattle.slots.proofs.silence.is_tidy.Goals as goal

pub returns-then-is_empty : goal.returns-then-is_empty
returns-then-is_empty c = c.if-is_empty.true ∙ sym (empty-vacant _ (slot_parts c.args.slot.now) (sym c.is_empty.ensures ∙ c.if-is_empty.true))

pub returns-else-i-count : goal.returns-else-i-count
returns-else-i-count c =
    simp (le-ltb _ _ c.if-i-count.false) (sym (none_held (slot_parts c.args.slot.now) ∙ sym c.is_empty.ensures ∙ c.if-is_empty.false))
