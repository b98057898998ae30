-- The numbers of refusals, and those that reading answers.
use Rattle.rows.specs.Runs.Verdict.{allowed}
use Rattle.rows.specs.Runs.Questions.{unless, ◌then◌}
use Rattle.report.specs.Categories.{preambles}
use Rattle.parity.specs.Parity.{parity_right}
use Rattle.bits.specs.Frame.{field_of}
use Rattle.std.specs.Prelude.{Ok, Err}
use mathlib.Core.Path.{◌≡◌, refl}
use Prim.Native.Nat.{ℕ, ◌≤◌}
use mathlib.Core.List.{List}
use lib.Dec.{lit≤, eqb}
use Rattle.rows.specs.declared.refusal.Refusal.{Refusal}
use Rattle.rows.specs.declared.refusal.Refusal.TheVariants.{Length, Padding, Preamble, Parity, Message, Version, Category}
use Rattle.report.specs.declared.record.Record.{Record}
use Rattle.rows.specs.Refusals.{answers, Verdict}
use Rattle.report.specs.Records.{zeros}
use Rattle.report.specs.Runs.Reading.{outer_of, read_answer, reading}
use Rattle.rows.proofs.Rules.Outcomes.{not_both}
use Rattle.rows.proofs.Rules.Numbers.{verdict_ten, unless_ten, then_ten, UpToTen}

-- ---- from what is said back to the refusal

-- ---- reading answers 0 to 10

outer_ten : (s : List ℕ) → UpToTen (outer_of s)
unfolding outer_of
outer_ten s =
    then_ten (unless (eqb (field_of s 250 6) 0) Padding) (◌then◌ (unless (allowed preambles (field_of s 0 8)) Preamble) (◌then◌ (unless (parity_right s) Parity) (◌then◌ (unless (eqb (field_of s 8 6) 43) Message) (unless (eqb (field_of s 214 6) 1) Version)))) (unless_ten (eqb (field_of s 250 6) 0) Padding (lit≤ tt)) (then_ten (unless (allowed preambles (field_of s 0 8)) Preamble) (◌then◌ (unless (parity_right s) Parity) (◌then◌ (unless (eqb (field_of s 8 6) 43) Message) (unless (eqb (field_of s 214 6) 1) Version))) (unless_ten (allowed preambles (field_of s 0 8)) Preamble (lit≤ tt))
    (then_ten (unless (parity_right s) Parity) (◌then◌ (unless (eqb (field_of s 8 6) 43) Message) (unless (eqb (field_of s 214 6) 1) Version)) (unless_ten (parity_right s) Parity (lit≤ tt)) (then_ten (unless (eqb (field_of s 8 6) 43) Message) (unless (eqb (field_of s 214 6) 1) Version) (unless_ten (eqb (field_of s 8 6) 43) Message (lit≤ tt))
    (unless_ten (eqb (field_of s 214 6) 1) Version (lit≤ tt)))))

pub read_ten : (s : List ℕ) → (answers (read_answer s)).number ≤ 10
read_ten s = then_ten _ _ (unless_ten _ Length (lit≤ tt)) (then_ten _ _ (outer_ten s) (then_ten _ _ (unless_ten _ Category (lit≤ tt)) (verdict_ten _ _)))

-- ---- the record of a refused reading

pub refused_zeros : (v : Verdict) (r : Record) (x : Refusal) → (reading v r).answer ≡ Err x → (reading v r).«record» ≡ zeros
refused_zeros (Ok tt) r x e = absurd (not_both (Ok tt) x refl e)
refused_zeros (Err y) r x e = refl
