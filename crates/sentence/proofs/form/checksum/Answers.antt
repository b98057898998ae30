-- `sentence::form::checksum` meets its contract.
use Rattle.std.proofs.Common.{◌≡◌, ◌∙◌, rules}
use Rattle.std.specs.Prelude.{bit_xor}
use Rattle.std.specs.List.{fold}
use Rattle.sentence.specs.Sentences.{between}
use Rattle.sentence.proofs.Checksums.{sum_folded}
use Rattle.sentence.proofs.form.checksum.Goals as goal

pub returns : goal.returns
returns c =
    let folded : c.fold.result ≡ fold (λ s b. bit_xor s b) 0 (between c.args.s.now) = search rules in
    folded ∙ sum_folded (between c.args.s.now)
