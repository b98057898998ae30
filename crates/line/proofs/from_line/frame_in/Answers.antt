-- `line::from_line::frame_in` meets its contract.
use Rattle.std.proofs.Common.{◌≡◌, ℕ, ◌+◌, ◌<◌, ◌≢◌, [], ◌∷◌, refl, ap, ◌∙◌, length, arith, get_or-set_other, get_or-set_same, length-append, below_more}
use Rattle.std.proofs.lemmas.Grind.{common_steps}
use lib.ListN.{length-set}
use Rattle.line.specs.Lines.{all_digits}
use Rattle.line.proofs.DigitLoop.{digits_more, found_small}
use Rattle.line.proofs.from_line.frame_in.Goals as goal

pub loop-i-init : goal.loop-i-init
unfolding all_digits
loop-i-init c = record { long = refl; values = λ k h. absurd (omega arith); all = refl }

pub loop-i-preserved : goal.loop-i-preserved
loop-i-preserved c =
    let i = c.loop-i.i in
    let v = c.loop-i.invariant in
    let text = c.padded-text.result in
    let size : length c.args.line.now ≡ 63 = grind (arith, common_steps) in
    let long : length text ≡ 64 = ap length c.padded-text.ensures ∙ length-append c.args.line.now (48 ∷ []) ∙ ap (λ (n : ℕ). n + 1) size in
    let inside : i < length text = omega arith in
    let lt : i < length c.loop-i.values = omega arith in
    record {
      long = length-set c.loop-i.values i _ ∙ v.long;
      values =
          below_more _ _
          (λ k h. let ne : k ≢ i = omega arith in rw get_or-set_other (v.values k h))
          (rw get_or-set_same (rw (← c.digit-value.ensures) c.unwrap_or.ensures));
      all = rw (c.is_some-all.ensures, c.digit-value.ensures, v.all, digits_more text i inside);
    }

pub pairs-requires : goal.pairs-requires
pairs-requires c = found_small _ _ c.loop-i.invariant.long (λ k h. c.loop-i.invariant.values k (omega arith))
