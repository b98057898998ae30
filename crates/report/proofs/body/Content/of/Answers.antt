-- `report::body::Content::of` meets its contract.
use borrow.Author.Rules.{rules}
use borrow.Author.Tests.{ne_eqb}
use lib.Dec.{eqb}
use mathlib.Core.Bool.{false}
use mathlib.Core.List.{List}
use mathlib.Core.Path.{◌∙◌, ◌≡◌, ap, sym}
use Prim.Native.Nat.{ℕ}
use Rattle.bits.specs.Frame.{field_of, frame_in}
use Rattle.rows.specs.Refusals.{outcome}
use Rattle.rows.specs.declared.refusal.Refusal.{Refusal}
use Rattle.rows.specs.Values.{sides_at}
use Rattle.std.specs.Prelude.{Result}
use Rattle.report.specs.Categories.{body_from}
use Rattle.report.specs.Runs.Reading.{content_as, found_as}
use Rattle.report.specs.declared.body.Content.{Content}
use Rattle.report.proofs.body.Content.of.Goals as goal

-- what the code that was read gives is what the frame has
abbrev by_code : List ℕ → ℕ → Result Content Refusal
by_code f dc = outcome (found_as f (body_from (sides_at f) dc)) (content_as f (body_from (sides_at f) dc))

coded : (f : List ℕ) (code dc : ℕ) (x : Result Content Refusal) → code ≡ field_of f 17 4 → code ≡ dc → x ≡ by_code f dc → x ≡ by_code f (field_of f 17 4)
coded f code dc x e m h = h ∙ ap (by_code f) (sym m ∙ e)

pub returns-in-2 : goal.returns-in-2
unfolding body_from
returns-in-2 c = coded (frame_in c.args.f.now) _ 2 _ c.field.ensures.0 c.in-2.is c.within.ensures

pub returns-in-3 : goal.returns-in-3
unfolding body_from
returns-in-3 c = coded (frame_in c.args.f.now) _ 3 _ c.field.ensures.0 c.in-3.is c.within-in-3.ensures

pub returns-in-4 : goal.returns-in-4
unfolding body_from
returns-in-4 c = coded (frame_in c.args.f.now) _ 4 _ c.field.ensures.0 c.in-4.is c.within-in-4.ensures

pub returns-in-5 : goal.returns-in-5
unfolding body_from
returns-in-5 c = coded (frame_in c.args.f.now) _ 5 _ c.field.ensures.0 c.in-5.is c.within-in-5.ensures

pub returns-in-8 : goal.returns-in-8
unfolding body_from
returns-in-8 c = coded (frame_in c.args.f.now) _ 8 _ c.field.ensures.0 c.in-8.is c.within-in-8.ensures

pub returns-in-9 : goal.returns-in-9
unfolding body_from
returns-in-9 c = coded (frame_in c.args.f.now) _ 9 _ c.field.ensures.0 c.in-9.is c.within-in-9.ensures

pub returns-in-11 : goal.returns-in-11
unfolding body_from
returns-in-11 c = coded (frame_in c.args.f.now) _ 11 _ c.field.ensures.0 c.in-11.is c.within-in-11.ensures

pub returns-in_default : goal.returns-in_default
unfolding body_from
returns-in_default c =
    let f = frame_in c.args.f.now in
    let code = c.field.result in
    let two : eqb code 2 ≡ false = ne_eqb code 2 (search rules) in
    let three : eqb code 3 ≡ false = ne_eqb code 3 (search rules) in
    let four : eqb code 4 ≡ false = ne_eqb code 4 (search rules) in
    let five : eqb code 5 ≡ false = ne_eqb code 5 (search rules) in
    let eight : eqb code 8 ≡ false = ne_eqb code 8 (search rules) in
    let nine : eqb code 9 ≡ false = ne_eqb code 9 (search rules) in
    let eleven : eqb code 11 ≡ false = ne_eqb code 11 (search rules) in
    rw (← c.field.ensures.0) (simp (two, three, four, five, eight, nine, eleven))
