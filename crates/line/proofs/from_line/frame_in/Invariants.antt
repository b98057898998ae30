use Rattle.std.proofs.Common.{◌≡◌, ℕ, ◌<◌, get_or, length, take}
use Rattle.line.specs.Lines.{all_digits}
use Rattle.line.proofs.DigitValues.{worth_found}
use Rattle.line.proofs.from_line.frame_in.Given as goal

-- the values passed are those of the text, and `all` tells of the digits passed
abbrev pub invariant-loop-i : goal.invariant-loop-i
invariant-loop-i l = record {
  long : length l.values ≡ 64;
  values : (k : ℕ) → k < l.i → get_or l.values k 0 ≡ worth_found (get_or l.text k 0);
  all : l.all ≡ all_digits (take l.i l.text);
}
