-- `bits::words::Words::put` meets its contract.
use mathlib.Core.Path.{◌≡◌, refl, ◌∙◌, sym}
use native.Mathlib.Nat.{div-one}
use mir.Syntax.{w64}
use Rattle.std.specs.Int.{to_be_bytes}
use Rattle.lent.specs.Numbers.{wide}
use Prim.Native.Nat.{ℕ, ◌^◌, ◌<◌}
use borrow.Author.Rules.{rules}
use Rattle.lent.proofs.Chains.{wrote_as}
use Rattle.bits.specs.declared.words.Words.{Words}
use Rattle.bits.proofs.Inside.{right_size, wrong_size}
use Rattle.bits.proofs.Putting.{four_put}
use Rattle.bits.proofs.words.Words.put.Goals as goal

-- the library's bytes of a word
eight_bytes : (x : ℕ) → to_be_bytes w64 x ≡ wide 8 x
eight_bytes x = rw (div-one x) refl

-- words have 64 bits
record Wide (x : Words) : Type 0 where
  first : x.first < 2 ^ 64
  second : x.second < 2 ^ 64
  third : x.third < 2 ^ 64
  last : x.last < 2 ^ 64

pub returns-then-out-eq32 : goal.returns-then-out-eq32
returns-then-out-eq32 c =
    let self = c.args.self in
    let w = (let wide : Wide c.args.self = record { first = search rules; second = search rules; third = search rules; last = search rules } in wide) in
    four_put self w.first w.second w.third w.last c.if-out-eq32.true (wrote_as (c.to_be_bytes.ensures ∙ eight_bytes _) c.put_bytes-second.ensures) (wrote_as (c.to_be_bytes-then-out-eq32.ensures ∙ eight_bytes _) c.put_bytes-third.ensures)
    (wrote_as (c.to_be_bytes-then-out-eq32-2.ensures ∙ eight_bytes _) c.put_bytes-last.ensures) (wrote_as (c.to_be_bytes-then-out-eq32-3.ensures ∙ eight_bytes _) c.put_bytes.ensures)
    ∙ sym (right_size c.args.out.now _ _ c.if-out-eq32.true)

pub returns-else-out-eq32 : goal.returns-else-out-eq32
returns-else-out-eq32 c = sym (wrong_size c.args.out.now _ _ c.if-out-eq32.false)
