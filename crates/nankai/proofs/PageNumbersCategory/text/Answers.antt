-- `nankai::PageNumbersCategory::text` meets its contract: the bytes passed are the text's.
use Prim.Native.Nat.{ℕ, ◌+◌, ◌-◌, ◌*◌}
use Rattle.bits.specs.Frame.{frame_in}
use Rattle.bits.proofs.Inside.{field_in_lem}
use Rattle.rows.proofs.Layouts.Filling.{fill, filled}
use Rattle.rows.specs.Values.{each}
use lib.ListN.{replicate}
use mathlib.Core.List.{◌++◌}
use mathlib.Core.Path.{◌≡◌, ap, ◌∙◌}
use native.Mathlib.Omega.{arith}
use Rattle.nankai.proofs.PageNumbersCategory.text.Invariants.{byte}
use Rattle.nankai.proofs.PageNumbersCategory.text.Goals as goal

pub loop-k-preserved : goal.loop-k-preserved
loop-k-preserved c =
    let l = c.loop-k in
    let f = c.args.f.now in
    let read = c.field.ensures.0 ∙ field_in_lem 8 (frame_in f) (57 + 8 * l.k) 8 (omega arith) (omega arith) in
    fill 18 l.k (byte f) 0 c.field.result l.text (omega arith) l.invariant read

pub returns : goal.returns
returns c =
    let l = c.loop-k in
    let f = c.args.f.now in
    let last : l.k ≡ 18 = omega arith in
    filled 18 (byte f) 0 l.text (l.invariant ∙ ap (λ (k : ℕ). each k (byte f) ++ replicate (18 - k) 0) last)
