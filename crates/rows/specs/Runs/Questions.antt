-- One question after another: the first refusal is the answer.
use Rattle.rows.specs.Refusals.{Verdict}
use Rattle.std.specs.Prelude.{Bool, true, false, Ok, Err}
use Rattle.rows.specs.declared.refusal.Refusal.{Refusal}

infixr 40 ◌then◌
abbrev pub ◌then◌ : Verdict → Verdict → Verdict
(Ok tt) then w = w
Err r then w = Err r

-- a question: refused with r unless the test holds
abbrev pub unless : Bool → Refusal → Verdict
unless true r = Ok tt
unless false r = Err r
