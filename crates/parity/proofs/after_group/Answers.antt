-- `parity::after_group` meets its contract: the register is linear, so a group comes to the sum of its digits.
use mathlib.Core.Path.{ap, ap₂, sym, ◌∙◌}
use Prim.Native.Nat.{ℕ, ◌%◌, ◌^◌}
use native.Mathlib.Nat.{div-one}
use lib.Bits.{bit_xor}
use lib.Pow.{shr_mod}
use Rattle.parity.specs.Groups.{entry_of}
use Rattle.parity.proofs.Arms.{entry}
use Rattle.parity.proofs.Digits.{by_digits}
use Rattle.parity.proofs.after_group.Goals as goal

pub returns : goal.returns
returns c =
    let group = c.args.group in
    let top = entry 5 c.entries-first.ensures ∙ ap (entry_of 5) (shr_mod 4 20 c.requires) in
    let end = entry 0 c.entries-last.ensures ∙ ap (λ (x : ℕ). entry_of 0 (x % 2 ^ 4)) (sym (div-one group)) in
    ap₂ bit_xor
    (ap₂ bit_xor
    (ap₂ bit_xor (ap₂ bit_xor (ap₂ bit_xor top (entry 4 c.entries-second.ensures)) (entry 3 c.entries-third.ensures)) (entry 2 c.entries-fourth.ensures))
    (entry 1 c.entries-fifth.ensures))
    end
    ∙ sym (by_digits 5 group)
