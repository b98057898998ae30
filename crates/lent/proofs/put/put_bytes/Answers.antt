-- `lent::put::put_bytes` meets its contract: the bytes passed are put, or as many as find a place.
use Prim.Native.Nat.{◌+◌, ◌-◌}
use native.Mathlib.Omega.{arith}
use lib.ListN.{length}
use Rattle.lent.proofs.Chains.{none_put, put_whole, put_cut}
use Rattle.lent.proofs.put.put_bytes.Goals as goal

pub returns-then-out-at : goal.returns-then-out-at
returns-then-out-at c =
    let a = c.args in
    none_put a.bytes.now a.out.now a.at (omega arith)

pub returns-then-bytes-room : goal.returns-then-bytes-room
returns-then-bytes-room c =
    let a = c.args in
    put_cut a.bytes.now a.out.now c.copy_from_slice.new.self a.at (length a.out.now - a.at) c.copy_from_slice.ensures.after (omega arith) (omega arith)

pub returns : goal.returns
returns c =
    let a = c.args in
    put_whole a.bytes.now a.out.now c.copy_from_slice-2.new.self a.at (a.at + length a.bytes.now - a.at) c.copy_from_slice-2.ensures.after (omega arith) (omega arith)
