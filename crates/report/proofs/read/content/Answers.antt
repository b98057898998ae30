-- `report::read::content` meets its contract.
use mathlib.Core.List.{List}
use mathlib.Core.Path.{◌≡◌, ap, sym, ◌∙◌}
use Prim.Native.Nat.{ℕ}
use lib.Dec.{eqb}
use lib.ListN.{length}
use Rattle.std.specs.Prelude.{Ok}
use Rattle.rows.specs.Refusals.{Verdict, outcome}
use Rattle.rows.specs.declared.refusal.Refusal.TheVariants.{Length}
use Rattle.rows.specs.Runs.Questions.{unless}
use Rattle.report.specs.Records.{body_of}
use Rattle.report.specs.Runs.Reading.{outer_of, content_as, found_as}
use Rattle.report.proofs.Reading.ReadSteps.{frame_known, answered_inside}
use Rattle.report.proofs.read.content.Goals as goal

pub returns : goal.returns
returns c =
    let s = c.args.frame.now in
    let one : unless (eqb (length s) 32) Length ≡ Ok tt = sym c.unless.ensures ∙ c.in_ok-unless.was in
    let two : outer_of s ≡ Ok tt = sym (ap outer_of (frame_known s one)) ∙ sym c.outer.ensures ∙ c.in_ok-outer.was in
    c.of.ensures
    ∙ ap (λ (g : List ℕ). outcome (found_as g (body_of g)) (content_as g (body_of g))) (frame_known s one)
    ∙ ap (λ (v : Verdict). outcome v (content_as s (body_of s))) (sym (answered_inside s one two))
