-- `listing::scan::scan_first` meets its contract: the line that was begun ends, and the lines behind it follow, or it does not.
use mathlib.Core.Path.{◌≡◌, refl, sym}
use mathlib.Core.List.{List, [], ◌++◌}
use Prim.Native.Nat.{ℕ, ◌+◌, ◌≤◌, ◌<◌}
use native.Mathlib.Omega.{arith}
use lib.ListN.{length, take}
use lib.Seq.{length-take-le}
use borrow.Author.Rules.{rules}
use Rattle.listing.specs.Scanning.{begun_in}
use Rattle.listing.proofs.Texts.KeptBytes.{begun_short}
use Rattle.lent.proofs.Chains.{nothing}
use Rattle.listing.proofs.Chunks.ByteByByte.{limit_is}
use Rattle.listing.proofs.Lines.SeenRows.{wrote_row}
use Rattle.listing.proofs.Chunks.Chunks.{settled, whole_reach, kept_fits, first_done}
use Rattle.listing.proofs.scan.scan_first.Goals as goal

pub slice_bounds-with-end : goal.slice_bounds-with-end
slice_bounds-with-end c = sym (length-take-le c.find-end.result _ c.find-end.ensures.high)

pub returns-then-end-used : goal.returns-then-end-used
returns-then-end-used c =
    let short : length (begun_in c.args.from) ≤ 64 =
    begun_short c.args.from (search rules)
    in
    let d : List ℕ = c.args.chunk.now in
    let begun : List ℕ = begun_in c.args.from in
    settled c.args.from.lines begun d _ _ 0 _ (record { text = []; lines = c.args.from.lines; begun = take 64 (begun ++ take c.find-end.result d) }) (whole_reach c.args.from.lines begun d c.find-end.result c.requires.0 short c.find-end.ensures c.if-end-used.true) c.with-first.ensures refl (nothing c.args.out.now 0) (omega arith)

pub shared_ref_as_front-look_line : goal.shared_ref_as_front-look_line
shared_ref_as_front-look_line c =
    let long : length c.with-first.result.begun ≡ 64 = search rules in
    omega (arith, kept_fits c.with-first.result c.args.from.lines (begun_in c.args.from ++ take c.find-end.result c.args.chunk.now) c.with-first.ensures)

pub slice_bounds-look_line-end : goal.slice_bounds-look_line-end
slice_bounds-look_line-end c =
    let fits : c.with-first.result.length ≤ length c.with-first.result.begun =
    kept_fits c.with-first.result c.args.from.lines (begun_in c.args.from ++ take c.find-end.result c.args.chunk.now) c.with-first.ensures
    in
    sym (length-take-le c.with-first.result.length c.with-first.result.begun fits)

pub overflow_add-number : goal.overflow_add-number
overflow_add-number c = omega (arith, limit_is)

pub overflow_add-end : goal.overflow_add-end
overflow_add-end c =
    omega (arith, c.find-end.ensures.high, c.if-end-used.false)

pub returns : goal.returns
returns c =
    let short : length (begun_in c.args.from) ≤ 64 =
    begun_short c.args.from (search rules)
    in
    let d : List ℕ = c.args.chunk.now in
    let more : c.find-end.result < length d = omega (arith, c.find-end.ensures.high, c.if-end-used.false) in
    first_done c.args.from.lines (begun_in c.args.from) d _ _ _ c.find-end.result c.put_row-put.result c.with-first.result c.scan_lines-rest.result _ c.requires.0 short c.find-end.ensures more c.with-first.ensures (wrote_row (c.args.from.lines + 1) (begun_in c.with-first.result) c.seen-said.ensures c.look_line.ensures.value c.put_row-put.ensures.0) c.scan_lines-rest.ensures refl refl refl c.put_row-put.auto.out
