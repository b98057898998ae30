use Rattle.std.proofs.Common.{◌≡◌, ℕ, ◌<◌, get_or, length}
use Rattle.line.proofs.from_line.padded.Given as goal

abbrev pub invariant-loop-i : goal.invariant-loop-i
invariant-loop-i l = record {
  long : length l.text ≡ 64;
  line : (k : ℕ) → k < l.i → get_or l.text k 0 ≡ get_or l.line k 0;
  last : get_or l.text 63 0 ≡ 48;
}
