-- Handing over what was read.
use Rattle.report.specs.Runs.Reading.{Reading}
use Rattle.std.specs.Prelude.{Ok, Err}
use mathlib.Core.Path.{◌≡◌, refl}
use Prim.Native.Nat.{ℕ}
use mathlib.Core.List.{List}
use lib.ListN.{length}
use lib.Dec.{eqb}
use borrow.Author.Tests.{eq-eqb}
use Rattle.rows.specs.Refusals.{outcome, Verdict}
use Rattle.record_bytes.specs.Packed.{packed}
use Rattle.inserter.specs.Answers.{handed_over, if_lengths_fit, reading_into, record_into}
use Rattle.inserter.proofs.HandedOver.{fits}

-- as code hands it back
pub handed_back : (got : Reading) (buffer : List ℕ) → record_into (outcome got.answer got.«record») buffer ≡ reading_into got buffer
unfolding record_into reading_into
handed_back got buffer = by got.answer
  where
    by : (v : Verdict) → record_into (outcome v got.«record») buffer ≡ if_lengths_fit (eqb (length buffer) 251) (handed_over v (packed got.«record») buffer) buffer
    by (Ok tt) = refl
    by (Err x) = refl

pub reading_fits : (got : Reading) (buffer : List ℕ) → length buffer ≡ 251 → reading_into got buffer ≡ handed_over got.answer (packed got.«record») buffer
unfolding reading_into
reading_fits got buffer long = fits (eqb (length buffer) 251) (handed_over got.answer (packed got.«record») buffer) buffer (eq-eqb (length buffer) 251 long)
