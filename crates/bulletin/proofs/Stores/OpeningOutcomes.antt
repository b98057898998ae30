-- What an opening answers.
use Rattle.std.specs.Prelude.{Ok, Err}
use mathlib.Core.Path.{◌≡◌, refl, ap}
use Rattle.rows.specs.Refusals.{answers, Verdict}
use Rattle.pages.specs.declared.name.Name.{Name}
use Rattle.pages.specs.Names.{name_verdict, name_says}
use Rattle.bulletin.specs.Stores.{opening, open_of}

answer_found : (v : Verdict) (n : Name) → (opening v n).answer ≡ v
answer_found (Ok tt) n = refl
answer_found (Err x) n = refl

pub opened-said : (n : Name) → answers (open_of n).answer ≡ name_says n
opened-said n = ap answers (answer_found (name_verdict n) n)
