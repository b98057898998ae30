use Rattle.std.proofs.Common.{◌≡◌, ℕ, ◌+◌, ◌*◌, ◌<◌, get_or, length}
use Rattle.line.proofs.from_line.pairs.Given as goal

-- `line::from_line::pairs` meets its contract: the bytes passed are pairs.
abbrev pub invariant-loop-i : goal.invariant-loop-i
invariant-loop-i l = record {
  long : length l.frame ≡ 32;
  paired : (k : ℕ) → k < l.i → get_or l.frame k 0 ≡ get_or l.values (2 * k) 0 * 16 + get_or l.values (2 * k + 1) 0;
}
