-- The rows that code makes of what reading and looking hand back are those of the reading.
use Rattle.std.specs.Prelude.{Result, Ok, Err}
use Rattle.rows.specs.Refusals.{Verdict}
use mathlib.Core.Path.{◌≡◌, refl, ap, ◌∙◌}
use mathlib.Core.List.{List}
use Prim.Native.Nat.{ℕ}
use Rattle.rows.specs.declared.refusal.Refusal.{Refusal}
use Rattle.report.specs.declared.look.Looked.{Looked}
use Rattle.report.specs.declared.record.Record.{Record}
use Rattle.report.specs.Meaning.{used_of}
use Rattle.report.specs.Runs.Reading.{look_at, look_told, seen, Reading}
use Rattle.slots.specs.Slots.{used_among}
use Rattle.line.specs.Lines.{line_reading}
use Rattle.lent.specs.Writing.{Wrote}
use Rattle.lent.proofs.Chains.{wrote_as}
use Rattle.listing.specs.declared.row.Row.{Row}
use Rattle.listing.specs.Rows.{row_for, row_of, row_seen, row_text, reading_of, seen_of}
use Rattle.listing.specs.Listing.{line_row}

-- of a record that was read
pub row_of_record : (r : Record) → row_seen (Ok tt) (seen_of (Ok (look_at r.body r.slots))) ≡ row_of (reading_of (Ok r))
unfolding used_of used_among
row_of_record r = refl

-- of what is seen, with the answer beside it
seen_by_answer : (v : Verdict) (r : Record) → row_seen v (seen (record { answer = v; «record» = r })) ≡ row_for v r
seen_by_answer (Ok tt) r = refl
seen_by_answer (Err x) r = refl

pub row_seen_lem : (r : Reading) → row_seen r.answer (seen r) ≡ row_of r
row_seen_lem r = seen_by_answer r.answer r.«record»

-- of what is seen, as a look hands it back
by_answer : (v : Verdict) (r : Record) → row_seen (seen_of (look_told (seen (record { answer = v; «record» = r })))).answer (seen_of (look_told (seen (record { answer = v; «record» = r })))) ≡ row_for v r
by_answer (Ok tt) r = refl
by_answer (Err x) r = refl

row_told : (r : Reading) → row_seen (seen_of (look_told (seen r))).answer (seen_of (look_told (seen r))) ≡ row_of r
row_told r = by_answer r.answer r.«record»

pub row_said : (n : ℕ) (line : List ℕ) (said : Row) (look : Result Looked Refusal) → said ≡ row_seen (seen_of look).answer (seen_of look) → look ≡ look_told (seen (line_reading line)) → row_text n said ≡ line_row n line
unfolding line_row
row_said n line said look e f = ap (row_text n) (e ∙ ap (λ (l : Result Looked Refusal). row_seen (seen_of l).answer (seen_of l)) f ∙ row_told (line_reading line))

pub wrote_row : {o after : List ℕ} {at next : ℕ} {said : Row} {look : Result Looked Refusal} (n : ℕ) (line : List ℕ) → said ≡ row_seen (seen_of look).answer (seen_of look) → look ≡ look_told (seen (line_reading line)) → Wrote o after at next (row_text n said)
    → Wrote o after at next (line_row n line)
wrote_row n line e f w = wrote_as (row_said n line _ _ e f) w
