use Rattle.line.proofs.PairLoop.{Begun}
use Rattle.line.proofs.to_line.write_line.Given as goal

-- `line::to_line::write_line` meets its contract: the digits passed are the frame's, and the bytes behind them are as they
-- were.
abbrev pub invariant-loop-i : goal.invariant-loop-i
invariant-loop-i l = Begun l.frame l.initial.buffer l.buffer l.i
