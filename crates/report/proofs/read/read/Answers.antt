-- `report::read::read` meets its contract.
use mathlib.Core.Path.{◌≡◌, ap, sym, ◌∙◌}
use mathlib.Core.List.{List}
use Prim.Native.Nat.{ℕ}
use Rattle.std.specs.Prelude.{Result, Ok}
use Rattle.bits.specs.Frame.{field_of}
use Rattle.rows.specs.Values.{common_of}
use Rattle.rows.specs.declared.refusal.Refusal.{Refusal}
use Rattle.report.specs.declared.record.Record.{Record}
use Rattle.rows.specs.Refusals.{Verdict, outcome}
use Rattle.rows.proofs.Rules.Outcomes.{made_outcome}
use Rattle.report.specs.Records.{body_of, record_of, record_as}
use Rattle.report.specs.Runs.Reading.{content_as, read_answer}
use Rattle.report.proofs.Reading.ReadSteps.{read_frame, read_told, record_or_zeros}
use Rattle.report.proofs.read.read.Goals as goal

abbrev result_of : Record → Result Record Refusal
result_of r = Ok r

pub returns-clause-value : goal.returns-clause-value
unfolding record_as
returns-clause-value c =
    let s = c.args.frame.now in
    let made = made_outcome (read_answer s) (content_as s (body_of s)) _ (sym c.content.ensures ∙ c.in_ok-content.was) in
    let frame = read_frame s made.0 in
    let same : ◌≡◌ {A = Record} (record { preamble = c.field.result; reserved = c.field-2.result; common = c.of.result; body = c.in_ok-content.content.body; slots = c.in_ok-content.content.slots; text = c.in_ok-content.content.text; spares = c.in_ok-content.content.spares }) (record_of s) =
    λ i. record {
      preamble = (c.field.ensures.0 ∙ ap (λ (g : List ℕ). field_of g 0 8) frame) i;
      reserved = (c.field-2.ensures.0 ∙ ap (λ (g : List ℕ). field_of g 220 6) frame) i;
      common = (c.of.ensures ∙ ap common_of frame) i;
      body = (made.1 i).body;
      slots = (made.1 i).slots;
      text = (made.1 i).text;
      spares = (made.1 i).spares;
    }
    in
    ap (λ (r : Record). result_of r) same ∙ sym (read_told (read_answer s) (record_of s) ∙ ap (λ (v : Verdict). outcome v (record_of s)) made.0)

pub returns-clause-zeros : goal.returns-clause-zeros
returns-clause-zeros c = record_or_zeros (read_answer c.args.frame.now) (record_of c.args.frame.now) _ (returns-clause-value c)
