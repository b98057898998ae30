-- Every function of the trait `Category` is settled (crate `settled`), for whatever category.
use Rattle.category.proofs as category
use Rattle.category.specs.contracts as promised
use Rattle.category.specs.declared.Category.{Ghosts}
use Rattle.settled.specs.Settled.{Settled}
use Rattle.settled.proofs.Law.{answer}
use denote.Param.Laws.{Laws}
use denote.RattleType.{RattleType}
use mir.Syntax.{Dict}

module _ (C : RattleType) (laws : Laws C) (own : Ghosts C.Denot) (d : Dict) where
  pub Category-of_is_settled : Settled (promised.Category.of.ended C own d) (category.Category.of.Reads.Post C laws own d)
  Category-of_is_settled κs a x y = answer

  pub Category-of_values_is_settled : Settled (promised.Category.of_values.ended C own d) (category.Category.of_values.Reads.Post C laws own d)
  Category-of_values_is_settled κs a x y = answer

  pub Category-spares_is_settled : Settled (promised.Category.spares.ended C own d) (category.Category.spares.Reads.Post C laws own d)
  Category-spares_is_settled κs a x y = answer

  pub Category-slots_is_settled : Settled (promised.Category.slots.ended C own d) (category.Category.slots.Reads.Post C laws own d)
  Category-slots_is_settled κs a x y = answer

  pub Category-text_is_settled : Settled (promised.Category.text.ended C own d) (category.Category.text.Reads.Post C laws own d)
  Category-text_is_settled κs a x y = answer

  pub Category-check_is_settled : Settled (promised.Category.check.ended C own d) (category.Category.check.Reads.Post C laws own d)
  Category-check_is_settled κs a x y = answer

  pub Category-table_is_settled : Settled (promised.Category.table.ended C own d) (category.Category.table.Reads.Post C laws own d)
  Category-table_is_settled κs a x y = answer

  pub Category-fields_is_settled : Settled (promised.Category.fields.ended C own d) (category.Category.fields.Reads.Post C laws own d)
  Category-fields_is_settled κs a x y = answer
