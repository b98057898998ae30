-- `report::encode::front` meets its contract.
use mathlib.Core.Path.{◌∙◌, ap}
use native.Mathlib.Omega.{arith}
use Rattle.bits.specs.Words.{pushed, pushed_all}
use Rattle.bits.specs.declared.words.Words.{Words}
use Rattle.rows.specs.Layout.{common, no_category}
use Rattle.rows.specs.Values.{head_values, widths}
use Rattle.rows.specs.declared.fields.Fields.{Fields}
use Rattle.report.specs.Runs.Writing.{body_pushed}
use Rattle.report.proofs.Writing.Encoding.{all-pushed}
use Rattle.report.proofs.encode.front.Goals as goal

pub returns : goal.returns
returns c =
    let r = c.args.r.now in
    let v = c.requires.1 in
    all-pushed r (record { slots = omega arith; text = omega arith }) c.requires.0 c.push-preamble.result c.push_common-head.result c.push_body-inner.result c.push-2.result
    (c.push-preamble.ensures ∙ ap (λ (x : Words). pushed x 8 c.from.result) c.of.ensures ∙ ap (pushed _ 8) c.from.ensures)
    (c.push_common-head.ensures ∙ ap (λ (x : Fields). pushed_all c.push-preamble.result (widths (common no_category)) (head_values r.common x.table.code)) v)
    (c.push_body-inner.ensures ∙ ap (λ (x : Fields). body_pushed c.push_common-head.result x r.slots r.text) v)
    (c.push-2.ensures ∙ ap (λ (x : Words). pushed x 6 c.from-2.result) c.push.ensures ∙ ap (pushed _ 6) c.from-2.ensures)
