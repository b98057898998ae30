-- `record_bytes::to_bytes::put_cells` meets its contract: the values passed are put.
use mathlib.Core.Path.{◌∙◌, ap, refl}
use Prim.Native.Nat.{ℕ, ◌+◌, ◌-◌, ◌*◌, ◌%◌, ◌^◌}
use native.Mathlib.Omega.{arith}
use lib.ListN.{get_or, drop_of_length-le}
use lib.Seq.{sets}
use Rattle.lent.specs.Numbers.{wide}
use Rattle.record_bytes.specs.Packed.{cells}
use Rattle.record_bytes.specs.Unpacked.{size}
use Rattle.record_bytes.proofs.Cells.{next_place, size_split}
use Rattle.record_bytes.proofs.ToBytes.EightBytes.{cell_more, cells_put}
use Rattle.record_bytes.proofs.to_bytes.put_cells.Goals as goal

pub loop-k-init : goal.loop-k-init
unfolding cells
loop-k-init c = record { put = refl; place = omega arith }

-- behind a value without bytes there are none
pub returns-then-count-eq0 : goal.returns-then-count-eq0
returns-then-count-eq0 c =
    let a = c.args in
    let l = c.loop-k in
    let none = c.requires.by_index.1 l.k (omega (arith, c.bytes_for-count.ensures.0, c.if-count-eq0.true)) in
    cells_put a.widths.now a.values.now c.requires.widths_len.0 a.out.now a.at c.requires.by_index.0 l.k none l.invariant.put l.invariant.place

pub put_number-requires : goal.put_number-requires
put_number-requires c =
    omega (arith, size_split c.args.widths.now c.loop-k.k, c.requires.widths_len.1, c.loop-k.auto.out, c.loop-k.invariant.place)

pub overflow_add-next : goal.overflow_add-next
overflow_add-next c =
    omega (arith, size_split c.args.widths.now c.loop-k.k, c.requires.widths_len.1, c.loop-k.invariant.place, c.bytes_for-count.ensures.1)

pub loop-k-preserved : goal.loop-k-preserved
loop-k-preserved c =
    let a = c.args in
    let l = c.loop-k in
    let count = c.bytes_for-count in
    let here = l.invariant.place in
    let eight = c.put_number.ensures ∙ ap (λ (n : ℕ). sets l.out n (wide 8 (get_or a.values.now l.k 0 * 2 ^ (64 - 8 * count.result) % 2 ^ 64))) here in
    record {
      put = cell_more a.widths.now a.values.now c.requires.widths_len.0 a.out.now a.at c.requires.by_index.0 l.k (omega arith) count.ensures.1 count.ensures.0 l.invariant.put eight;
      place = (λ i. here i + count.ensures.0 i) ∙ next_place a.at a.widths.now l.k (omega arith);
    }

pub returns : goal.returns
returns c =
    let a = c.args in
    let l = c.loop-k in
    let none = ap size (drop_of_length-le a.widths.now {i = l.k} (omega arith)) in
    cells_put a.widths.now a.values.now c.requires.widths_len.0 a.out.now a.at c.requires.by_index.0 l.k none l.invariant.put l.invariant.place
