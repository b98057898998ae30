-- Two names are equal where they name one bulletin.
use mathlib.Core.Path.{◌≡◌, refl}
use Rattle.pages.specs.declared.name.Name.{Name}
use Rattle.pages.specs.Names.{same_name, same_common}
use Rattle.pages.specs.contracts.name.NamePartialEq.TheImpl as names

-- what `==` answers
pub equal_names : (a b : Name) → (names.ghosts).eq a b ≡ same_name a b
unfolding same_name same_common
equal_names a b = refl
