-- Questions that are asked in an order, and behind them the faults of values by lowest bit.
use Rattle.std.specs.Prelude.{Ok, Err}
use Rattle.rows.specs.Refusals.{Verdict}
use mathlib.Core.Path.{◌≡◌, refl, ◌∙◌}
use mathlib.Core.List.{List}
use Rattle.rows.specs.declared.refusal.Refusal.{Refusal}
use Rattle.rows.specs.Layout.{Layout}
use Rattle.rows.specs.Values.{Values}
use Rattle.rows.specs.Runs.Verdict.{verdict}
use Rattle.rows.specs.Faults.{Question, First, Met, Fault, Lowest}
use Rattle.rows.proofs.Rules.Judged.{turn-place}
use Rattle.rows.proofs.Rules.JudgedFrames.{JudgesAll}
use Rattle.rows.proofs.Rules.Ordered.{Answers}

pub lowest_bit : (l : Layout) (vs : Values) → JudgesAll l vs → (x : Refusal) → verdict l vs ≡ Err x → Lowest l vs x
lowest_bit l vs j x e = record { there = j.found x e; lowest = λ y f. turn-place x y (j.earliest x y e f) }

module _ (v : Verdict) (qs : List Question) (l : Layout) (vs : Values) (a : Answers v qs (verdict l vs)) (j : JudgesAll l vs) where
  pub for_a_reason : (x : Refusal) → v ≡ Err x → First qs x (Lowest l vs x)
  for_a_reason x e = a.refused x (Lowest l vs x) e (lowest_bit l vs j x)

  pub faulty_refused : (y : Refusal) → Met qs → Fault l vs y → (x : Refusal) × (v ≡ Err x) × Lowest l vs x
  faulty_refused y m f = by (verdict l vs) refl
    where
      by : (w : Verdict) → verdict l vs ≡ w → (x : Refusal) × (v ≡ Err x) × Lowest l vs x
      by (Ok tt) e = absurd (j.clean y (j.passed e) f)
      by (Err x) e = (x, a.met m ∙ e, lowest_bit l vs j x e)

  -- nothing is wrong, so nothing is refused
  pub faultless_fine : Met qs → ((x : Refusal) → Fault l vs x → ⊥) → v ≡ Ok tt
  faultless_fine m h = by (verdict l vs) refl
    where
      by : (w : Verdict) → verdict l vs ≡ w → v ≡ Ok tt
      by (Ok tt) e = a.met m ∙ e
      by (Err x) e = absurd (h x (j.found x e))

  pub fine_faultless : v ≡ Ok tt → Met qs × ((x : Refusal) → Fault l vs x → ⊥)
  fine_faultless e = let h = a.fine e in (h.0, λ x f. j.clean x (j.passed h.1) f)
