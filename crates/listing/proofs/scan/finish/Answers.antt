-- `listing::scan::finish` meets its contract.
use mathlib.Core.Path.{◌≡◌, sym, ap, ◌∙◌}
use mathlib.Core.List.{List}
use Prim.Native.Nat.{ℕ, ◌+◌, ◌≤◌, ◌<◌}
use native.Mathlib.Nat.{min-le_right}
use native.Mathlib.Omega.{arith}
use borrow.Author.Rules.{rules}
use lib.ListN.{length, take, length-take}
use lib.Seq.{length-take-le}
use Rattle.listing.specs.Rows.{filled_by}
use Rattle.listing.specs.Listing.{line_row}
use Rattle.listing.specs.Scanning.{begun_in, finished}
use Rattle.listing.proofs.Lines.SeenRows.{row_said}
use Rattle.listing.proofs.Texts.KeptBytes.{take_least}
use Rattle.listing.proofs.Chunks.ByteByByte.{limit_is}
use Rattle.listing.proofs.Chunks.Chunks.{last_some, last_none, last_over, nothing_laid}
use Rattle.listing.proofs.scan.finish.Goals as goal
use Rattle.listing.proofs.scan.finish.Goals.{else-from-lt-LIMIT-via-then-from-lt-LIMIT+else-length-gt0, else-from-lt-LIMIT-via-else-from-lt-LIMIT}

pub returns-then-length-gt0-clause-is : goal.returns-then-length-gt0-clause-is
unfolding finished
returns-then-length-gt0-clause-is c =
    let kept : length c.args.from.begun ≡ 64 = search rules in
    let same : take c.min-length.result c.args.from.begun ≡ begun_in c.args.from = ap (λ (k : ℕ). take k c.args.from.begun) c.min-length.ensures ∙ take_least c.args.from.length 64 c.args.from.begun kept in
    let fits : c.min-length.result ≤ length c.args.from.begun = omega (arith, kept, c.min-length.ensures, min-le_right c.args.from.length 64) in
    let n : ℕ = c.args.from.lines + 1 in
    let begun : List ℕ = begun_in c.args.from in
    let more : 0 < length begun = omega (arith, c.if-length-gt0.true, ap length same, length-take-le c.min-length.result c.args.from.begun fits) in
    let row = row_said n (take c.min-length.result c.args.from.begun) _ _ c.seen-said.ensures c.look_line.ensures.value in
    let text = row ∙ ap (line_row n) same ∙ last_some c.args.from.lines begun (omega (arith, limit_is)) more in
    c.write_one.ensures.is ∙ ap (λ (x : List ℕ). filled_by x c.args.out.now) text

pub returns-clause-is : goal.returns-clause-is
unfolding finished
returns-clause-is c =
    let kept : length c.args.from.begun ≡ 64 = search rules in
    let same : take c.min-length.result c.args.from.begun ≡ begun_in c.args.from = ap (λ (k : ℕ). take k c.args.from.begun) c.min-length.ensures ∙ take_least c.args.from.length 64 c.args.from.begun kept in
    elim c.else-from-lt-LIMIT.branch [
      | else-from-lt-LIMIT-via-then-from-lt-LIMIT+else-length-gt0 w ↦ (nothing_laid _ c.args.out.now (last_none c.args.from.lines (begun_in c.args.from) (omega (arith, w.if-length-gt0.false, ap length same, length-take c.min-length.result c.args.from.begun)))).0
      | else-from-lt-LIMIT-via-else-from-lt-LIMIT w ↦ (nothing_laid _ c.args.out.now (last_over c.args.from.lines (begun_in c.args.from) (omega (arith, limit_is)))).0
    ]
