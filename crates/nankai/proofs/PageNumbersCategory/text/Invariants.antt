use Prim.Native.Nat.{ℕ, ◌+◌, ◌-◌, ◌*◌}
use Rattle.bits.specs.Frame.{field_of, frame_in}
use Rattle.rows.specs.Values.{each}
use lib.ListN.{replicate}
use mathlib.Core.List.{List, ◌++◌}
use mathlib.Core.Path.{◌≡◌}
use Rattle.nankai.proofs.PageNumbersCategory.text.Given as goal

-- `nankai::PageNumbersCategory::text` meets its contract: the bytes passed are the text's.
-- byte i of the text in a lent frame
abbrev pub byte : List ℕ → ℕ → ℕ
byte f i = field_of (frame_in f) (57 + 8 * i) 8

abbrev pub invariant-loop-k : goal.invariant-loop-k
invariant-loop-k l = l.text ≡ each l.k (byte l.f) ++ replicate (18 - l.k) 0
