-- `bits::words::push_all` meets its contract: what is left to push, behind what stands, is the whole.
use mathlib.Core.Path.{◌≡◌, ap, ◌∙◌, sym}
use Prim.Native.Nat.{ℕ, ◌+◌, ◌%◌}
use native.Mathlib.Omega.{arith}
use lib.ListN.{get_or, drop}
use Rattle.bits.specs.declared.words.Words.{Words}
use Rattle.bits.specs.Words.{pushed, pushed_until}
use Rattle.bits.proofs.Pushing.{push_more, push_none, push_end}
use Rattle.bits.proofs.words.push_all.Goals as goal

pub returns-then-bits-eq0 : goal.returns-then-bits-eq0
returns-then-bits-eq0 c =
    let width : c.from-bits.result % 64 ≡ get_or c.args.widths.now c.loop-k.k 0 % 64 = ap (λ (n : ℕ). n % 64) c.from-bits.ensures in
    let l = c.loop-k in
    let a = c.args in
    push_none l.next a.widths.now a.values.now l.k (omega arith) (omega arith) (sym width ∙ c.if-bits-eq0.true) ∙ l.invariant.1

pub loop-k-preserved : goal.loop-k-preserved
loop-k-preserved c =
    let width : c.from-bits.result % 64 ≡ get_or c.args.widths.now c.loop-k.k 0 % 64 = ap (λ (n : ℕ). n % 64) c.from-bits.ensures in
    let l = c.loop-k in
    let a = c.args in
    let v = get_or a.values.now l.k 0 in (
      omega arith,
      ap (λ (y : Words). pushed_until y (drop (l.k + 1) a.widths.now) (drop (l.k + 1) a.values.now)) (c.push-next.ensures ∙ ap (λ (n : ℕ). pushed l.next n v) width)
          ∙ push_more l.next a.widths.now a.values.now l.k (omega arith) (omega arith) (λ z. c.if-bits-eq0.false (width ∙ z))
          ∙ l.invariant.1,
    )

pub returns : goal.returns
returns c =
    let l = c.loop-k in
    let a = c.args in
    push_end l.next a.widths.now a.values.now l.k (omega arith) ∙ l.invariant.1
