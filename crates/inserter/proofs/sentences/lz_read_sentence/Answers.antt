-- `inserter::sentences::lz_read_sentence` meets its contract.
use mathlib.Core.Path.{ap, sym, ◌∙◌}
use Prim.Native.Nat.{ℕ}
use Rattle.inserter.specs.Answers.{call_result}
use Rattle.inserter.proofs.Received.{told_number, told_why_not}
use Rattle.inserter.proofs.sentences.lz_read_sentence.Goals as goal

pub returns-then-answer-eq0 : goal.returns-then-answer-eq0
returns-then-answer-eq0 c =
    ap (λ (n : ℕ). call_result n c.lz_read_line-answer.new.record_bytes) c.from.ensures
    ∙ told_number _ _ _ (sym c.around.ensures.value ∙ c.in-Ok.is) _ _ c.lz_read_line-answer.ensures c.if-record_bytes-ne-RECORD_SIZE.false c.if-answer-eq0.true

pub returns-else-answer-eq0 : goal.returns-else-answer-eq0
returns-else-answer-eq0 c =
    told_why_not _ _ _ (sym c.around.ensures.value ∙ c.in-Ok.is) _ _ c.lz_read_line-answer.ensures c.if-answer-eq0.false
