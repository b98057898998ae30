-- `line::to_line::write_line` meets its contract: the digits passed are the frame's, and the bytes behind them are as they were.
use Rattle.std.proofs.Common.{◌≡◌, ◌≤◌, length, arith}
use Rattle.std.proofs.lemmas.Grind.{common_steps}
use Rattle.bits.specs.Frame.{field_of}
use Rattle.line.proofs.PairLoop.{pairs_more, line_done, written}
use Rattle.line.proofs.to_line.write_line.Goals as goal

pub loop-i-preserved : goal.loop-i-preserved
loop-i-preserved c =
    let size : length c.args.frame.now ≡ 32 = grind (arith, common_steps) in
    let room : 63 ≤ length c.args.buffer.now = grind (arith, common_steps) in
    pairs_more _ size _ _ room _ _ _ (omega arith) c.put_pair.ensures c.put_pair-in-loop-i.ensures c.loop-i.invariant

pub returns-clause-value : goal.returns-clause-value
returns-clause-value c =
    let size : length c.args.frame.now ≡ 32 = grind (arith, common_steps) in
    let room : 63 ≤ length c.args.buffer.now = grind (arith, common_steps) in
    let padding : field_of c.args.frame.now 250 6 ≡ 0 = grind (arith, common_steps) in
    let end : c.loop-i.i ≡ 16 = omega arith in
    let line = line_done _ size _ _ room (rw end at c.loop-i.invariant) in
    written _ size _ c.loop-i.buffer room _ padding (rw c.capital.ensures line)
