-- What is told of a body is what its category tells of it.
use mathlib.Core.Path.{◌≡◌, ◌∙◌, ap, sym}
use Rattle.report.specs.declared.body.Body.{Body}

pub of_body : {A : Type 0} (says : Body → A) {b d : Body} {w : A} → d ≡ b → w ≡ says b → w ≡ says d
of_body says e p = p ∙ ap says (sym e)
