-- `lent::put::put_decimal` meets its contract: the digits from k on are put, and those in front of them are the rest's.
use mathlib.Core.Path.{◌≡◌, refl, sym, ◌∙◌}
use Prim.Native.Nat.{suc, ◌+◌, ◌-◌, ◌%◌, ◌≤◌}
use native.Mathlib.Omega.{arith}
use lib.ListN.{length, drop}
use lib.Seq.{sets, take-length, drop-length}
use Rattle.std.proofs.lemmas.List.{set_past}
use Rattle.lent.specs.Numbers.{decimal}
use Rattle.lent.proofs.Decimals.{decimal_one}
use Rattle.lent.proofs.Backwards.{digit_put, digits-left, all_digits}
use Rattle.lent.proofs.Chains.{none_put}
use Rattle.lent.proofs.put.put_decimal.Goals as goal
use Rattle.lent.proofs.put.put_decimal.Goals.{then-k-room, else-k-room}

pub returns-then-number-lt10 : goal.returns-then-number-lt10
returns-then-number-lt10 c =
    let a = c.args in
    rw (decimal_one a.number c.if-number-lt10.true) c.put_byte.ensures

pub returns-then-out-at : goal.returns-then-out-at
returns-then-out-at c =
    let a = c.args in
    none_put (decimal a.number) a.out.now a.at (omega arith)

pub loop-k-init : goal.loop-k-init
loop-k-init c =
    let a = c.args in
    let all : c.digits-count.result ≡ length (decimal a.number) = c.digits-count.ensures in
    (rw (all, drop-length (decimal a.number)) refl, λ h. rw (all, take-length (decimal a.number)) refl)

pub loop-k-preserved : goal.loop-k-preserved
loop-k-preserved c =
    let a = c.args in
    let k = c.loop-k.k in
    let v = c.loop-k.invariant in
    let within : k ≤ length (decimal a.number) = omega (arith, c.digits-count.ensures) in
    let next : k ≡ suc (k - 1) = omega arith in
    let front = v.1 (omega arith) in
    let put = digit_put c.loop-k.rest (decimal a.number) k (k - 1) next within front a.out.now c.loop-k.out a.at v.0 in
    let out : c.if-k-room.out ≡ sets a.out.now (a.at + (k - 1)) (drop (k - 1) (decimal a.number)) = elim c.if-k-room.branch [ then-k-room w ↦ w.out-is ∙ put | else-k-room w ↦ w.out-is ∙ sym (set_past c.loop-k.out (a.at + (k - 1)) (48 + c.loop-k.rest % 10) (omega (arith, w.if-k-room.false))) ∙ put ] in
    (out, digits-left c.loop-k.rest (decimal a.number) k (k - 1) next within front)

-- every digit is put, and the answer tells whether each found its place
pub returns-then-count-room : goal.returns-then-count-room
returns-then-count-room c =
    let a = c.args in
    record { bytes = all_digits (decimal a.number) a.out.now c.loop-k.out a.at c.loop-k.k (omega arith) c.loop-k.invariant.0; place = omega (arith, c.digits-count.ensures) }

pub returns : goal.returns
returns c =
    let a = c.args in
    record { bytes = all_digits (decimal a.number) a.out.now c.loop-k.out a.at c.loop-k.k (omega arith) c.loop-k.invariant.0; place = omega (arith, c.digits-count.ensures) }
