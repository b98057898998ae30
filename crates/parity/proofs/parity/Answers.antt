-- `parity::parity` meets its contract: the register is that of the bits passed.
use mathlib.Core.Path.{◌≡◌, subst, sym, ap, ap₂, ◌∙◌}
use Prim.Native.Nat.{ℕ, ◌+◌, ◌*◌, ◌<◌, ◌^◌}
use native.Mathlib.Omega.{arith}
use lib.Bits.{bit_xor, xor_lt}
use Rattle.bits.specs.Frame.{frame_in}
use Rattle.bits.proofs.Inside.{field_in_lem}
use Rattle.parity.specs.Parity.{parity_of}
use Rattle.parity.specs.Groups.{entry_of, register_of}
use Rattle.parity.proofs.Step.{after_lt}
use Rattle.parity.proofs.Front.{no_parity}
use Rattle.parity.proofs.Arms.{entry}
use Rattle.parity.proofs.Taken.{taken, first_group, next_group}
use Rattle.parity.proofs.parity.Goals as goal

pub returns-then-frame-ne32 : goal.returns-then-frame-ne32
returns-then-frame-ne32 c = sym (no_parity c.args.frame.now c.if-frame-ne32.true)

pub loop-byte-init : goal.loop-byte-init
loop-byte-init c =
    let s = frame_in c.args.frame.now in
    let first = entry 2 c.entries-first.ensures ∙ ap (entry_of 2) c.field.ensures.0 in
    let second = entry 1 c.entries-second.ensures ∙ ap (entry_of 1) c.field-2.ensures.0 in
    let third = entry 0 c.entries-third.ensures ∙ ap (entry_of 0) c.field-3.ensures.0 in
    (omega arith, (omega arith, ap₂ bit_xor (ap₂ bit_xor first second) third ∙ first_group s))

pub after_group-register-requires : goal.after_group-register-requires
after_group-register-requires c =
    let l = c.loop-byte in
    let fits : l.register < 2 ^ 24 = subst (λ (r : ℕ). r < 2 ^ 24) (sym l.invariant.1.1) (after_lt 0 _ (8 * l.byte + 2) (omega arith)) in
    xor_lt 24 l.register c.field-in-loop-byte.result fits c.field-in-loop-byte.ensures.1

pub loop-byte-preserved : goal.loop-byte-preserved
loop-byte-preserved c =
    let at = 8 * c.loop-byte.byte + 2 in
    let group = c.field-in-loop-byte.ensures.0 ∙ field_in_lem 32 (frame_in c.args.frame.now) at 24 (omega arith) (omega arith) in
    let next : at + 24 ≡ 8 * (c.loop-byte.byte + 3) + 2 = omega arith in (
      omega arith,
      (
        omega arith,
        c.after_group-register.ensures
            ∙ ap register_of (ap₂ bit_xor c.loop-byte.invariant.1.1 group)
            ∙ next_group (frame_in c.args.frame.now) at (omega arith)
            ∙ ap (taken (frame_in c.args.frame.now)) next,
      ),
    )

pub returns : goal.returns
unfolding parity_of
returns c =
    let all : 8 * c.loop-byte.byte + 2 ≡ 226 = omega arith in
    c.loop-byte.invariant.1.1 ∙ ap (taken (frame_in c.args.frame.now)) all
