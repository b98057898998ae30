-- `sentence::from_sentence::around` meets its contract.
use Rattle.std.proofs.Common.{rules, arith, ◌≡◌}
use Rattle.std.proofs.lemmas.Grind.{common_steps}
use Rattle.std.specs.Prelude.{Err}
use Rattle.rows.specs.Refusals.{outcome}
use Rattle.rows.specs.declared.refusal.Refusal.TheVariants.{Sentence}
use Rattle.sentence.specs.Sentences.{around_of}
use Rattle.sentence.proofs.Hearing.{nothing_there, no_feed, satellite_or_zero}
use Rattle.sentence.proofs.from_sentence.around.Goals as goal

pub returns-in-10-clause-zeros : goal.returns-in-10-clause-zeros
returns-in-10-clause-zeros c =
    let s = c.args.sentence.now in
    let told : c.around_in.result ≡ outcome (around_of s).answer (around_of s).satellite = grind (arith, common_steps) in
    satellite_or_zero s c.around_in.result told

pub returns-in_default-clause-zeros : goal.returns-in_default-clause-zeros
returns-in_default-clause-zeros c =
    let s = c.args.sentence.now in
    let told : Err Sentence ≡ outcome (around_of s).answer (around_of s).satellite = search (rules, nothing_there, no_feed) in
    satellite_or_zero s (Err Sentence) told

pub returns-in_default-2-clause-zeros : goal.returns-in_default-2-clause-zeros
returns-in_default-2-clause-zeros c =
    let s = c.args.sentence.now in
    let told : Err Sentence ≡ outcome (around_of s).answer (around_of s).satellite = search (rules, nothing_there, no_feed) in
    satellite_or_zero s (Err Sentence) told
