-- Each door answers what its function says.
use Rattle.std.specs.Prelude.{Ok, Err}
use mathlib.Core.Path.{◌≡◌, refl, sym, ap, ◌∙◌}
use mathlib.Core.Bool.{Bool, ◌&&◌}
use Prim.Native.Nat.{ℕ}
use mathlib.Core.List.{List}
use lib.ListN.{length}
use lib.Dec.{eqb}
use borrow.Author.Tests.{eq-eqb, ne_eqb}
use Rattle.rows.specs.declared.refusal.Refusal.{Refusal}
use Rattle.rows.specs.declared.refusal.Said.{Said}
use Rattle.rows.specs.Refusals.{plain, says, answers, Verdict}
use Rattle.parity.specs.Parity.{parity_of}
use Rattle.report.specs.Runs.Reading.{read_answer, read_of, read_says, Reading}
use Rattle.report.specs.Runs.Writing.{write_says}
use Rattle.report.specs.Records.{record_of}
use Rattle.report.proofs.Reading.ReadSteps.{answer_found}
use Rattle.rows.proofs.Rules.Outcomes.{said_outcome}
use Rattle.line.specs.Lines.{line_reading, line_says}
use Rattle.line.proofs.LineEnds.{line_said}
use Rattle.pages.specs.Names.{name_says}
use Rattle.bulletin.specs.Stores.{open_of}
use Rattle.bulletin.specs.Takings.{take_of, Taken}
use Rattle.bulletin.specs.Merges.{merge_says}
use Rattle.bulletin.specs.Counts.{count_of}
use Rattle.bulletin.specs.Text.{text_answer}
use Rattle.bulletin.proofs.Stores.OpeningOutcomes.{opened-said}
use Rattle.bulletin.proofs.Merging.MergingOutcomes.{merged-said}
use Rattle.record_bytes.specs.Packed.{packed}
use Rattle.record_bytes.specs.Unpacked.{record_from}
use Rattle.store_bytes.specs.Stores.{name_from, store_bytes, store_or_zeros}
use Rattle.inserter.specs.Answers.{CallResult, answer_word, count_answer, count_word_by, handed_over, if_lengths_fit, length_or_refusal, merge_into, open_into, parity_answer, read_into, read_line_into, reading_into, take_into, taken_word, text_into, text_result, write_into, write_result}
use Rattle.inserter.proofs.HandedOver.{fits_not, word_of}
use Rattle.inserter.proofs.Reading.{reading_fits}
use Rattle.inserter.proofs.StoreDoors.{opening_whole}

-- ---- frames and lines

pub parity_told : (frame : List ℕ) → length frame ≡ 32 → parity_answer frame ≡ parity_of frame
unfolding parity_answer
parity_told frame e = rw (eq-eqb (length frame) 32 e)

pub no_parity : (frame : List ℕ) → (length frame ≡ 32 → ⊥) → parity_answer frame ≡ answer_word (plain 1)
unfolding parity_answer
no_parity frame n = rw (ne_eqb (length frame) 32 n)

reading-said : (got : Reading) (buffer : List ℕ) (s : Said) → length buffer ≡ 251 → answers got.answer ≡ s → (reading_into got buffer).answer ≡ answer_word s
reading-said got buffer s long e =
    ap (λ (l : CallResult). l.answer) (reading_fits got buffer long) ∙ word_of got.answer (packed got.«record») buffer ∙ ap answer_word e

pub read_told : (frame buffer : List ℕ) → length buffer ≡ 251 → (read_into frame buffer).answer ≡ answer_word (read_says frame)
read_told frame buffer long = reading-said (read_of frame) buffer (read_says frame) long (ap answers (answer_found (read_answer frame) (record_of frame)))

pub line_told : (line buffer : List ℕ) → length buffer ≡ 251 → (read_line_into line buffer).answer ≡ answer_word (line_says line)
line_told line buffer long =
    let got = line_reading line in
    reading-said got buffer (line_says line) long (sym (line_said line ∙ said_outcome got.answer got.«record»))

pub no_room : (got : Reading) (buffer : List ℕ) → (length buffer ≡ 251 → ⊥) → (reading_into got buffer).answer ≡ answer_word (plain 255)
unfolding reading_into
no_room got buffer n = fits_not (eqb (length buffer) 251) (handed_over got.answer (packed got.«record») buffer) buffer (ne_eqb (length buffer) 251 n)

pub write_told : (bytes buffer : List ℕ) → (write_into bytes buffer).answer ≡ answer_word (write_says (record_from bytes) (length buffer))
unfolding write_result
write_told bytes buffer = refl

-- ---- stores

pub open_told : (name buffer : List ℕ) → length name ≡ 8 → length buffer ≡ 1205 → (open_into name buffer).answer ≡ answer_word (name_says (name_from name))
open_told name buffer e f =
    let o = open_of (name_from name) in
    ap (λ (l : CallResult). l.answer) (opening_whole name buffer e f)
    ∙ word_of o.answer (store_bytes o.store) buffer
    ∙ ap answer_word (opened-said (name_from name))

pub no_name : (name buffer : List ℕ) → (length name ≡ 8 → ⊥) → (open_into name buffer).answer ≡ answer_word (plain 255)
unfolding open_into
no_name name buffer n =
    let o = open_of (name_from name) in
    ap (λ (b : Bool). (if_lengths_fit (b && eqb (length buffer) 1205) (handed_over o.answer (store_bytes o.store) buffer) buffer).answer) (ne_eqb (length name) 8 n)

pub take_told : (buffer bytes : List ℕ) (t : Taken) → (take_of (store_or_zeros buffer) (record_from bytes)).answer ≡ t → (take_into buffer bytes).answer ≡ taken_word t
take_told buffer bytes t e = ap taken_word e

pub merge_told : (buffer other : List ℕ) → (merge_into buffer other).answer ≡ answer_word (merge_says (store_or_zeros buffer) (store_or_zeros other))
merge_told buffer other =
    ap answer_word (merged-said (store_or_zeros buffer) (store_or_zeros other))

pub count_refused : (store : List ℕ) (x : Refusal) → (count_of (store_or_zeros store)).answer ≡ Err x → count_answer store ≡ answer_word (says x)
count_refused store x e = ap (λ (v : Verdict). count_word_by v (count_of (store_or_zeros store))) e

pub text_told : (store buffer : List ℕ) → (text_answer (store_or_zeros store) (length buffer)).answer ≡ Ok tt
    → (text_into store buffer).answer ≡ (text_answer (store_or_zeros store) (length buffer)).length
unfolding text_result
text_told store buffer e = ap (λ (v : Verdict). length_or_refusal v (text_answer (store_or_zeros store) (length buffer)).length) e

pub text_refused : (store buffer : List ℕ) (x : Refusal) → (text_answer (store_or_zeros store) (length buffer)).answer ≡ Err x → (text_into store buffer).answer ≡ answer_word (says x)
unfolding text_result
text_refused store buffer x e = ap (λ (v : Verdict). length_or_refusal v (text_answer (store_or_zeros store) (length buffer)).length) e
