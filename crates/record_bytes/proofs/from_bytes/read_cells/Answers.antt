-- `record_bytes::from_bytes::read_cells` meets its contract: the values of the widths passed are read.
use mathlib.Core.Path.{◌≡◌, ◌∙◌, ap, sym}
use Prim.Native.Nat.{ℕ, ◌+◌, ◌-◌, ◌*◌, ◌/◌, ◌^◌, ◌≤◌}
use native.Mathlib.Omega.{arith}
use lib.ListN.{length, get_or, take, drop, replicate}
use Rattle.rows.specs.Runs.Fields.{bytes_for}
use Rattle.record_bytes.specs.Unpacked.{cells_at, number_at, size}
use Rattle.record_bytes.proofs.Cells.{cell_set, cells_read, front_of_eight, next_place, size-at, size_read}
use Rattle.record_bytes.proofs.from_bytes.read_cells.Goals as goal

pub loop-k-init : goal.loop-k-init
unfolding cells_at
loop-k-init c =
    let none : length c.args.widths.now ≡ length c.args.widths.now - 0 = omega arith in
    record { read = c.requires.1.0 ∙ ap (λ (m : ℕ). replicate m 0) none; place = omega arith }

pub returns-then-count-eq0 : goal.returns-then-count-eq0
returns-then-count-eq0 c =
    let l = c.loop-k in
    let a = c.args in
    let none : size (drop l.k a.widths.now) ≡ 0 = c.requires.1.1 l.k (sym c.bytes_for-count.ensures.0 ∙ c.if-count-eq0.true) in
    (l.invariant.place ∙ size_read a.at a.widths.now l.k none, l.invariant.read ∙ cells_read a.bytes.now a.at a.widths.now l.k none)

-- each value has its bytes, and eight behind them
pub number_at-requires : goal.number_at-requires
number_at-requires c =
    omega (arith, c.requires.0, c.loop-k.invariant.place, size-at c.args.widths.now c.loop-k.k (omega arith))

pub overflow_add-next : goal.overflow_add-next
overflow_add-next c =
    omega (arith, c.requires.0, c.loop-k.invariant.place, c.bytes_for-count.ensures.0, size-at c.args.widths.now c.loop-k.k (omega arith))

pub loop-k-preserved : goal.loop-k-preserved
loop-k-preserved c =
    let l = c.loop-k in
    let a = c.args in
    let ws = a.widths.now in
    let bytes = a.bytes.now in
    let count = c.bytes_for-count.result in
    let here = l.invariant.place in
    let there : l.next + 8 ≤ length bytes = omega (arith, c.requires.0, here, size-at ws l.k (omega arith)) in
    let value : c.number_at.result / 2 ^ (64 - 8 * count) ≡ number_at bytes (a.at + size (take l.k ws)) (bytes_for (get_or ws l.k 0)) =
    ap (λ (x : ℕ). x / 2 ^ (64 - 8 * count)) c.number_at.ensures
    ∙ front_of_eight bytes l.next count (λ i. omega (arith, c.type_inv.bytes i)) there c.bytes_for-count.ensures.1
    ∙ (λ i. number_at bytes (here i) (c.bytes_for-count.ensures.0 i))
    in
    record {
      read = cell_set bytes a.at ws l.values l.k _ (omega arith) l.invariant.read value;
      place = (λ i. here i + c.bytes_for-count.ensures.0 i) ∙ next_place a.at ws l.k (omega arith);
    }
