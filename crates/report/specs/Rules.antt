-- What a record must be so that it can be written, as a list of rules without an order.
use Rattle.std.specs.Prelude.{ℕ, ◌≤◌, ◌<◌, ◌≡◌, get_or, drop, length, false}
use Rattle.report.specs.declared.record.Record.{Record}
use Rattle.slots.specs.Slots.{no_slot, Vacant, slot_parts}
use Rattle.report.specs.Records.{values}
use Rattle.rows.specs.Kept.{In, Empty, Holds}
use Rattle.report.specs.declared.body.Body.TheVariants.{NoCategory}
use Rattle.report.specs.Categories.{layout, preambles}
use Rattle.rows.specs.Values.{has_spare, part_widths}

-- nothing stands where the category has nothing
pub record Tidy (r : Record) : Type 0 where
  pub slots : (i : ℕ) → i < (layout r.body).slots.count → Vacant (part_widths (layout r.body).slots) (slot_parts (get_or r.slots i no_slot))
  pub others : (i : ℕ) → (layout r.body).slots.count ≤ i → Empty (slot_parts (get_or r.slots i no_slot))
  pub spare : has_spare (layout r.body).behind ≡ false → r.spares.second ≡ 0  -- every category has a first one
  pub text : Empty (drop (length (layout r.body).text) r.text)

pub record KeepsRules (r : Record) : Type 0 where
  pub preamble : In preambles r.preamble
  pub category : r.body ≡ NoCategory → ⊥
  pub tidy : Tidy r
  pub rows : Holds (layout r.body) (values r)
