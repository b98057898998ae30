-- What is answered to a frame that was read and then damaged.
use Rattle.std.specs.Prelude.{Err}
use mathlib.Core.Path.{◌≡◌, refl, sym, ap, ◌∙◌}
use mathlib.Core.Bool.{Bool, true, false}
use mathlib.Core.Logic.{◌⊎◌, ◌↔◌, inl, inr, ⊎_elim}
use Prim.Native.Nat.{ℕ, ◌+◌, ◌<◌}
use native.Mathlib.Omega.{arith}
use mathlib.Core.List.{List}
use lib.Dec.{eqb, ltb}
use lib.ListN.{length}
use borrow.Author.Tests.{eq-eqb, ne_eqb, ltb-true, ltb-false}
use Rattle.bits.specs.Frame.{field_of}
use Rattle.parity.specs.Parity.{parity_of}
use Rattle.parity.proofs.Claims.{right_frames_are_far_apart}
use Rattle.rows.specs.declared.refusal.Refusal.TheVariants.{Preamble, Parity}
use Rattle.rows.specs.declared.refusal.Said.{Said}
use Rattle.rows.specs.Refusals.{answers, plain}
use Rattle.rows.specs.Kept.{In}
use Rattle.rows.specs.Runs.Verdict.{allowed}
use Rattle.rows.proofs.Rules.Numbers.{zero_fine}
use Rattle.rows.proofs.Rules.Outcomes.{false_not_true}
use Rattle.rows.proofs.Rules.Spans.{allowed_in, in_allowed, not_allowed}
use Rattle.report.specs.Categories.{preambles}
use Rattle.report.specs.Conforms.{Conforms}
use Rattle.report.specs.Records.{record_of, zeros}
use Rattle.report.specs.Runs.Reading.{outer_of, read_answer, read_of, read_says}
use Rattle.report.proofs.Reading.ReadSteps.{answer_found}
use Rattle.report.proofs.Claims.{a_refused_reading_gives_zeros, read_conforms}
use Rattle.damage.specs.Damage.{changes, Damaged}
use Rattle.damage.proofs.Bits.{Same, none_differs, same_field}

module _ (s t : List ℕ) (k : ℕ) (read : read_says s ≡ plain 0) (d : Damaged k s t) where
  c : Conforms s
  c = read_conforms s (zero_fine (read_answer s) (ap (λ (a : Said). a.number) read))

  -- behind the 250 bits nothing is changed ..
  padded : field_of t 250 6 ≡ 0
  padded =
      sym (same_field s t 250 6 (omega arith) (λ i l. d.kept (250 + i) (omega arith) (inr (omega (arith, d.inside))))) ∙ c.padding

  -- .. and with a right parity nothing would be changed at all
  right_is_same : parity_of t ≡ field_of t 226 24 → (i : ℕ) → i < 256 → Same s t i
  right_is_same e i l = by (ltb i 250) refl
    where
      by : (b : Bool) → ltb i 250 ≡ b → Same s t i
      by true p =
          right_frames_are_far_apart s t k (omega (arith, d.inside)) (λ j h o. d.kept j (omega arith) (⊎_elim inl (λ q. inr (omega arith)) o)) c.parity e i (ltb-true i 250 p)
      by false p = d.kept i l (inr (omega (arith, d.inside, ltb-false i 250 p)))

  wrong : parity_of t ≡ field_of t 226 24 → ⊥
  wrong e =
      let none : changes 256 s t ≡ 0 = none_differs 256 s t (right_is_same e) in
      omega (arith, d.some, none)

  long : eqb (length t) 32 ≡ true
  long = eq-eqb (length t) 32 d.came

  unset : eqb (field_of t 250 6) 0 ≡ true
  unset = eq-eqb (field_of t 250 6) 0 padded

  refused_with_3 : (In preambles (field_of t 0 8) → ⊥) → read_answer t ≡ Err Preamble
  unfolding outer_of
  refused_with_3 n = simp (long, unset, not_allowed preambles (field_of t 0 8) n)

  refused_with_4 : In preambles (field_of t 0 8) → read_answer t ≡ Err Parity
  unfolding outer_of
  refused_with_4 i = simp (long, unset, in_allowed preambles (field_of t 0 8) i, ne_eqb (parity_of t) (field_of t 226 24) wrong)

  -- ---- in the paper's numbers

  says_3 : (In preambles (field_of t 0 8) → ⊥) → read_says t ≡ plain 3
  says_3 n = ap answers (refused_with_3 n)

  says_4 : In preambles (field_of t 0 8) → read_says t ≡ plain 4
  says_4 i = ap answers (refused_with_4 i)

  not_both : read_says t ≡ plain 3 → read_says t ≡ plain 4 → ⊥
  not_both e f = omega (arith, ap (λ (a : Said). a.number) (sym e ∙ f))

  either : (b : Bool) → allowed preambles (field_of t 0 8) ≡ b → In preambles (field_of t 0 8) ⊎ (In preambles (field_of t 0 8) → ⊥)
  either true e = inl (allowed_in preambles (field_of t 0 8) e)
  either false e = inr (λ i. false_not_true (sym e ∙ in_allowed preambles (field_of t 0 8) i))

  one_of_three_or_not : In preambles (field_of t 0 8) ⊎ (In preambles (field_of t 0 8) → ⊥)
  one_of_three_or_not = either (allowed preambles (field_of t 0 8)) refl

  pub says_3_or_4 : (read_says t ≡ plain 3) ⊎ (read_says t ≡ plain 4)
  says_3_or_4 = ⊎_elim (λ i. inr (says_4 i)) (λ n. inl (says_3 n)) one_of_three_or_not

  pub three_exactly : (read_says t ≡ plain 3) ↔ (In preambles (field_of t 0 8) → ⊥)
  three_exactly = (λ e i. not_both e (says_4 i), says_3)

  pub four_exactly : (read_says t ≡ plain 4) ↔ In preambles (field_of t 0 8)
  four_exactly = (λ e. ⊎_elim (λ i. i) (λ n. absurd (not_both (says_3 n) e)) one_of_three_or_not, says_4)

  pub no_record : (read_of t).«record» ≡ zeros
  no_record =
      ⊎_elim (λ i. a_refused_reading_gives_zeros t Parity (answer_found (read_answer t) (record_of t) ∙ refused_with_4 i))
      (λ n. a_refused_reading_gives_zeros t Preamble (answer_found (read_answer t) (record_of t) ∙ refused_with_3 n)) one_of_three_or_not
