-- `record_bytes::to_bytes::own_bytes` meets its contract.
use mathlib.Core.Path.{◌≡◌, ◌∙◌, sym}
use native.Mathlib.Omega.{arith}
use lib.ListN.{length}
use lib.Seq.{length-take-le}
use Rattle.record_bytes.proofs.FromBytes.Read.{fields_end, room}
use Rattle.record_bytes.proofs.ToBytes.EightBytes.{all-zeros}
use Rattle.record_bytes.proofs.ToBytes.Whole.{own_put, room_behind}
use borrow.Author.Rules.{rules}
use Rattle.record_bytes.proofs.to_bytes.own_bytes.Goals as goal

pub put_cells-middle-requires : goal.put_cells-middle-requires
put_cells-middle-requires c =
    let v = c.fields-fields.result in
    let ahead : length v.ahead ≡ 18 = search rules in
    let front : length v.front ≡ 18 = search rules in
    record {
      widths_len = (omega arith, omega (arith, room c.args.body c.args.spares v c.fields-fields.ensures));
      by_index = (λ i h. all-zeros 40 i, (fields_end c.args.body c.args.spares v c.fields-fields.ensures).0);
    }

pub put_cells-requires : goal.put_cells-requires
put_cells-requires c =
    let v = c.fields-fields.result in
    let ahead : length v.ahead ≡ 18 = search rules in
    let front : length v.front ≡ 18 = search rules in
    let after : length v.after ≡ 3 = search rules in
    let behind : length v.behind ≡ 3 = search rules in
    let left = room_behind c.args.body c.args.spares v c.fields-fields.ensures _ _ (omega arith) c.put_cells-middle.ensures.1 c.put_cells-middle.ensures.0 in
    record {
      widths_len = (omega arith, left.0);
      by_index = (left.1, (fields_end c.args.body c.args.spares v c.fields-fields.ensures).1);
    }

pub slice_bounds-copy_from_slice-end-2 : goal.slice_bounds-copy_from_slice-end-2
slice_bounds-copy_from_slice-end-2 c = sym (length-take-le 32 c.put_cells.new.out (omega (arith, c.put_cells.auto.out, c.put_cells-middle.auto.out)))

pub copy_from_slice-requires : goal.copy_from_slice-requires
copy_from_slice-requires c = sym (length-take-le 32 c.put_cells.new.out (omega (arith, c.put_cells.auto.out, c.put_cells-middle.auto.out)))

-- the first 32 bytes are the body's
pub returns : goal.returns
returns c =
    let v = c.fields-fields.result in
    let ahead : length v.ahead ≡ 18 = search rules in
    let front : length v.front ≡ 18 = search rules in
    c.copy_from_slice.ensures.after
    ∙ own_put c.args.body c.args.spares v c.fields-fields.ensures _ _ (omega arith) c.put_cells-middle.ensures.1 c.put_cells-middle.ensures.0 _ c.put_cells.ensures.1
