-- A report whose place the list does not have: it is written, and read again.
use Rattle.std.specs.Prelude.{Ok}
use mathlib.Core.Path.{◌≡◌, refl}
use Prim.Native.Nat.{ℕ}
use mathlib.Core.List.{List, ◌∷◌}
use lib.ListN.{length, replicate}
use Rattle.rows.specs.Runs.Verdict.{allowed, empty, judge, later, slots_verdict, verdict, walk}
use Rattle.rows.specs.Values.{no_spares}
use Rattle.slots.specs.Slots.{no_slot, tidy_slots, vacant}
use Rattle.report.specs.declared.record.Record.{Record}
use Rattle.report.specs.declared.body.Body.TheVariants.{AshFall}
use Rattle.report.specs.Records.{values}
use Rattle.report.specs.Runs.Reading.{read_of}
use Rattle.report.specs.Runs.Writing.{Valid, write_answer, write_of}
use Rattle.report.proofs.Claims.{read_again_is_the_record}

-- an ash fall report, as training, for place 110001
abbrev pub unlisted_report : Record
unlisted_report = record {
  preamble = 0x53;
  reserved = 0;
  common = record { rc = 7; month = 1; day = 1; hour = 0; minute = 0; it = 0 };
  body = AshFall (record { time = record { day = 1; hour = 0; minute = 0 }; warning = 1; volcano = 101 });
  slots = record { day = 0; hour = 1; minute = 0; strength = 1; place = 110001 } ∷ replicate 15 no_slot;
  text = replicate 18 0;
  spares = no_spares;
}

valid : Valid unlisted_report
unfolding write_answer allowed judge walk empty later slots_verdict verdict values tidy_slots vacant
valid = refl

pub read_all_the_same : (buffer : List ℕ) → length buffer ≡ 32 → read_of (write_of unlisted_report buffer) ≡ record { answer = Ok tt; «record» = unlisted_report }
read_all_the_same buffer l = read_again_is_the_record unlisted_report buffer (record { slots = refl; text = refl }) valid l
