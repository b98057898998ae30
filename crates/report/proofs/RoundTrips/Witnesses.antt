-- Each category has a valid record, whose frame conforms and is read as that record.
use Rattle.std.specs.Prelude.{Ok}
use mathlib.Core.Path.{◌≡◌, ◌∙◌, ap, refl, sym}
use Prim.Native.Nat.{ℕ}
use mathlib.Core.List.{List, [], ◌∷◌, map}
use mathlib.Core.Bool.{Bool, true, ◌&&◌}
use lib.Dec.{eqb}
use lib.ListN.{length, replicate}
use borrow.Author.Tests.{eqb-true}
use Rattle.bits.specs.Frame.{bytes_of}
use Rattle.rows.specs.Runs.Verdict.{allowed, empty, judge, later, slots_verdict, verdict, walk}
use Rattle.rows.proofs.Rules.Outcomes.{and_both}
use Rattle.slots.specs.Slots.{tidy_slots, vacant}
use Rattle.report.specs.declared.record.Record.{Record}
use Rattle.report.specs.Records.{values}
use Rattle.report.specs.Conforms.{Conforms}
use Rattle.report.specs.Runs.Reading.{read_of}
use Rattle.report.specs.Runs.Writing.{Valid, frame, write_answer, write_of}
use Rattle.report.proofs.Categories.{Each, samples}
use Rattle.report.specs.Categories.{layout}
use Rattle.report.proofs.Spares.{all_ones, sparing}
use Rattle.report.proofs.Shaped.{Shaped}
use Rattle.report.proofs.RoundTrips.ReadThenWritten.{valid_written}
use Rattle.report.proofs.RoundTrips.WrittenThenRead.{read_again, returns}

pub record WrittenAndRead (r : Record) : Type 0 where
  pub valid : Valid r
  pub written : (buffer : List ℕ) → length buffer ≡ 32 → write_of r buffer ≡ bytes_of (frame r)
  pub conforms : Conforms (bytes_of (frame r))
  pub read : read_of (bytes_of (frame r)) ≡ record { answer = Ok tt; «record» = r }

abbrev shaped : Record → Bool
shaped r = eqb (length r.slots) 16 && eqb (length r.text) 18

abbrev all_shaped : List Record → Bool
all_shaped [] = true
all_shaped (r ∷ rs) = shaped r && all_shaped rs

is_shaped : (r : Record) → shaped r ≡ true → Shaped r
is_shaped r e = let both = and_both (eqb (length r.slots) 16) (eqb (length r.text) 18) e in record { slots = eqb-true _ 16 both.0; text = eqb-true _ 18 both.1 }

written_and_read : (r : Record) → Shaped r → Valid r → WrittenAndRead r
written_and_read r s v =
    let buffer : List ℕ = replicate 32 0 in
    record {
      valid = v;
      written = λ buffer l. valid_written r buffer v l;
      conforms = (returns r s v).conforms;
      read = ap read_of (sym (valid_written r buffer v refl)) ∙ read_again r buffer s v refl;
    }

each : (rs : List Record) → all_shaped rs ≡ true → map (λ r. write_answer r 32) rs ≡ map (λ r. (Ok tt)) rs → Each WrittenAndRead rs
each [] s e = tt
each (r ∷ rs) s e =
    let both = and_both (shaped r) (all_shaped rs) s in
    (written_and_read r (is_shaped r both.0) (head e), each rs both.1 (tail e))
  where
    head : write_answer r 32 ∷ map (λ r. write_answer r 32) rs ≡ (Ok tt) ∷ map (λ r. (Ok tt)) rs → write_answer r 32 ≡ Ok tt
    head e = cc

    tail : write_answer r 32 ∷ map (λ r. write_answer r 32) rs ≡ (Ok tt) ∷ map (λ r. (Ok tt)) rs → map (λ r. write_answer r 32) rs ≡ map (λ r. (Ok tt)) rs
    tail e = cc

all_valid : map (λ r. write_answer r 32) samples ≡ map (λ r. (Ok tt)) samples
unfolding write_answer allowed judge walk empty later slots_verdict verdict values tidy_slots vacant
all_valid = refl

pub samples_written_and_read : Each WrittenAndRead samples
samples_written_and_read = each samples refl all_valid

-- ---- the same with every spare bit set

abbrev pub full : Record → Record
full r = sparing r (all_ones (layout r.body))

all-full_valid : map (λ r. write_answer r 32) (map full samples) ≡ map (λ r. (Ok tt)) (map full samples)
unfolding write_answer allowed judge walk empty later slots_verdict verdict values tidy_slots vacant
all-full_valid = refl

pub full_written_and_read : Each WrittenAndRead (map full samples)
full_written_and_read = each (map full samples) refl all-full_valid
