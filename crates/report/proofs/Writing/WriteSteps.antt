-- The two ways out of writing.
use Rattle.std.specs.Prelude.{Ok}
use Rattle.rows.specs.Refusals.{Verdict}
use mathlib.Core.Path.{◌≡◌, refl, sym, ap, ◌∙◌}
use Prim.Native.Nat.{ℕ}
use lib.ListN.{length}
use borrow.Author.Tests.{eqb-true}
use lib.Dec.{eqb, leb}
use mathlib.Core.Bool.{◌&&◌, not}
use Rattle.bits.specs.Frame.{Bytes}
use Rattle.rows.specs.Runs.Fields.{table_in}
use Rattle.rows.specs.Runs.Questions.{◌then◌, unless}
use Rattle.rows.specs.Runs.Verdict.{allowed, ranged, verdict}
use Rattle.report.specs.Records.{values}
use Rattle.rows.specs.declared.refusal.Refusal.TheVariants.{Length, Preamble, Category, Unused}
use Rattle.report.specs.Categories.{layout, preambles}
use Rattle.report.specs.Runs.Told.{told_of}
use Rattle.report.proofs.Texts.{record_verdict}
use Rattle.report.proofs.Writing.Blank.{nonzero}
use Rattle.report.proofs.Writing.Unused.{by_table}
use Rattle.report.specs.declared.record.Record.{Record}
use Rattle.report.specs.Runs.Writing.{write_answer, tidy_by, Valid}
use Rattle.rows.proofs.Rules.Outcomes.{fine_both, unless_fine}

pub fine_size : (r : Record) (n : ℕ) → write_answer r n ≡ Ok tt → n ≡ 32
unfolding write_answer
fine_size r n h = eqb-true n 32 (unless_fine _ _ (fine_both _ _ h).0)

pub fine_valid : (r : Record) (n : ℕ) (v : Verdict) → v ≡ write_answer r n → v ≡ Ok tt → Valid r
fine_valid r n v a e = ap (write_answer r) (sym (fine_size r n (sym a ∙ e))) ∙ sym a ∙ e

-- what is asked of a record, as code asks it: first of all but its values ..
module _ (r : Record) (n : ℕ) (size : length r.text ≡ 18) where
  pub write_front : write_answer r n
      ≡ unless (eqb n 32) Length
      then unless (allowed preambles r.preamble) Preamble
      then unless (not (eqb (layout r.body).code 0)) Category
      then unless (tidy_by (table_in (layout r.body)) r.slots r.text r.spares) Unused
      then verdict (layout r.body) (values r)
  unfolding write_answer
  write_front = rw (nonzero (layout r.body).code, by_table r _ refl size) refl

  -- .. and then of them
  pub write_parts : Bytes r.text → write_answer r n
      ≡ unless (eqb n 32) Length
      then unless (allowed preambles r.preamble) Preamble
      then unless (not (eqb (layout r.body).code 0)) Category
      then unless (tidy_by (table_in (layout r.body)) r.slots r.text r.spares) Unused
      then told_of r.body r.common r.slots r.spares
      then ranged (leb 0 r.reserved && leb r.reserved 63) 220 r.reserved
  write_parts h = rw (write_front, record_verdict r h size) refl
