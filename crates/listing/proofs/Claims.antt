-- What is claimed of the listing (document 01, "The listing").
use Rattle.report.specs.Runs.Reading.{Reading}
use Rattle.std.specs.Prelude.{Ok, Err, None, Some}
use Rattle.report.specs.declared.record.Record.{Record}
use Rattle.report.specs.declared.body.Body.{Body}
use Rattle.report.specs.declared.body.Body.TheVariants.{AshFall, Flood, Hypocenter, Intensity, Nankai, Tsunami, Volcano}
use Rattle.intensity.specs.declared.Shaking.{Shaking}
use Rattle.ash_fall.specs.declared.Eruption.{Eruption}
use Rattle.tsunami.specs.declared.Warning.{Warning}
use Rattle.volcano.specs.declared.Activity.{Activity}
use Rattle.hypocenter.specs.declared.Quake.{Quake}
use Rattle.nankai.specs.declared.PageNumbers.{PageNumbers}
use Rattle.report.specs.Meaning.{used_of}
use Rattle.report.specs.Categories.{layout}
use Rattle.rows.specs.declared.refusal.Refusal.{Refusal}
use Rattle.rows.specs.declared.refusal.Refusal.TheVariants.{Range}
use mathlib.Core.Path.{◌≡◌, refl, sym, ap, ◌∙◌}
use mathlib.Core.Bool.{false, cond}
use mathlib.Core.List.{List, [], ◌∷◌, ◌++◌, append_assoc, append-nil}
use Prim.Native.Nat.{ℕ, zero, suc, ◌+◌, ◌*◌, ◌≤◌, ◌<◌}
use native.Mathlib.Nat.{min-eq_left}
use native.Mathlib.Omega.{arith}
use borrow.Author.Tests.{lt-ltb, le-ltb, ne_eqb}
use lib.Dec.{eqb}
use lib.ListN.{length, take}
use lib.Seq.{take_all, take-append_seam}
use Rattle.rows.specs.Runs.Verdict.{allowed}
use Rattle.line.specs.Lines.{digits, line_reading}
use Rattle.rows.specs.Refusals.{plain, says}
use Rattle.listing.specs.declared.progress.Progress.{Progress}
use Rattle.listing.specs.Rows.{Filled, row_for, row_of, slots_entry, refused_row, row_text, heading_text, cut_text, longest, filled_by}
use Rattle.listing.specs.Listing.{onto, lines_of, line_row, limit, rows_from, listing}
use Rattle.listing.specs.Scanning.{Reach, say, reach, last_row, progress_of, begun_in, bytes_taken, AfterScan, after_reach, scanned, finished}
use Rattle.listing.proofs.Texts.KeptBytes.{begun_back}
use Rattle.listing.proofs.Lines.WrongLines.{no_line, wrong_length, wrong_byte}
use Rattle.listing.proofs.Chunks.Divisions.{chunks_join, stays_short}
use Rattle.listing.proofs.Chunks.Whole.{said, said_of_all}

-- ---- any division of an input into chunks gives its listing

-- a call of `scan`: a chunk, and a buffer with room for its rows
pub record Call : Type 0 where
  pub chunk : List ℕ
  pub out : List ℕ
  pub roomy : longest * length chunk ≤ length out

unfoldable pub input_of : List Call → List ℕ
input_of [] = []
input_of (c ∷ cs) = c.chunk ++ input_of cs

-- the bytes that a call has written, at the start of its buffer
abbrev pub text_of : Filled → List ℕ
text_of f = take f.written f.buffer

abbrev pub text_left : AfterScan → List ℕ
text_left l = take l.step.written l.buffer

-- what a program writes that calls `scan` for one chunk after another, and then `finish`
unfoldable pub written : Progress → List Call → List ℕ → List ℕ
written p [] out = text_of (finished p out)
written p (c ∷ cs) out = let l = scanned p c.chunk c.out in text_left l ++ written l.step.progress cs out

laid_text : (t out : List ℕ) → longest ≤ length out → text_of (filled_by t out) ≡ t
unfolding filled_by
laid_text t out h = simp (le-ltb (length out) longest h) (take-append_seam t _)

all-taken : (c : Call) → bytes_taken c.chunk c.out ≡ length c.chunk
unfolding bytes_taken
all-taken c = min-eq_left (omega (arith, c.roomy))

scanned_whole : (n : ℕ) (begun : List ℕ) (c : Call) → length begun ≤ 64 → scanned (progress_of n begun) c.chunk c.out ≡ after_reach (reach n begun c.chunk) (length c.chunk) c.out
unfolding scanned progress_of
scanned_whole n begun c h =
    ap (λ (k : ℕ). after_reach (reach n (begun_in (progress_of n begun)) (take k c.chunk)) k c.out) (all-taken c)
    ∙ ap (λ (l : List ℕ). after_reach (reach n (begun_in (progress_of n begun)) l) (length c.chunk) c.out) (take_all (length c.chunk) c.chunk (omega arith))
    ∙ ap (λ (b : List ℕ). after_reach (reach n b c.chunk) (length c.chunk) c.out) (begun_back n begun h)

finished-text : (out : List ℕ) (n : ℕ) (begun : List ℕ) → longest ≤ length out → length begun ≤ 64 → text_of (finished (progress_of n begun) out) ≡ last_row n begun
unfolding finished progress_of
finished-text out n begun r h = laid_text (last_row n (begun_in (progress_of n begun))) out r ∙ ap (last_row n) (begun_back n begun h)

from_progress : (cs : List Call) (out : List ℕ) (n : ℕ) (begun : List ℕ) → longest ≤ length out → length begun ≤ 64 → written (progress_of n begun) cs out ≡ said (reach n begun (input_of cs))
unfolding written input_of reach say
from_progress [] out n begun r h = finished-text out n begun r h
from_progress (c ∷ cs) out n begun r h =
    let w : Reach = reach n begun c.chunk in
    ap (λ (l : AfterScan). text_left l ++ written l.step.progress cs out) (scanned_whole n begun c h)
    ∙ ap (λ (t : List ℕ). t ++ written (progress_of w.lines w.begun) cs out) (take-append_seam w.text _)
    ∙ ap (λ (t : List ℕ). w.text ++ t) (from_progress cs out w.lines w.begun r (stays_short c.chunk begun n h))
    ∙ sym (append_assoc w.text (reach w.lines w.begun (input_of cs)).text _)
    ∙ sym (ap said (chunks_join c.chunk (input_of cs) begun n))

pub any_division_gives_the_listing : (head out : List ℕ) (cs : List Call) → longest ≤ length head → longest ≤ length out
    → text_of (filled_by heading_text head) ++ written (progress_of 0 []) cs out ≡ listing (input_of cs)
unfolding listing
any_division_gives_the_listing head out cs h r =
    ap (λ (t : List ℕ). t ++ written (progress_of 0 []) cs out) (laid_text heading_text head h)
    ∙ ap (λ (t : List ℕ). heading_text ++ t) (from_progress cs out 0 [] r (omega arith) ∙ said_of_all (input_of cs))

-- ---- lines

-- "Empty input prints the heading only"
pub empty_input_is_the_heading : listing [] ≡ heading_text
unfolding listing lines_of rows_from
empty_input_is_the_heading = append-nil heading_text

same_lines : (input : List ℕ) (b : ℕ) → (b ≡ 10 → ⊥) → lines_of (input ++ (b ∷ 10 ∷ [])) ≡ lines_of (input ++ (b ∷ []))
unfolding lines_of onto
same_lines [] b h = simp (ne_eqb b 10 h)
same_lines (x ∷ r) b h = ap (λ (ls : List (List ℕ)). cond (eqb x 10) ([] ∷ ls) (onto x ls)) (same_lines r b h)

-- "the last may lack it"
pub last_line_feed_may_lack : (input : List ℕ) (b : ℕ) → (b ≡ 10 → ⊥) → listing (input ++ (b ∷ 10 ∷ [])) ≡ listing (input ++ (b ∷ []))
unfolding listing
last_line_feed_may_lack input b h = ap (λ (ls : List (List ℕ)). heading_text ++ rows_from 0 ls) (same_lines input b h)

cut-behind : (k n : ℕ) (ls : List (List ℕ)) → n + k ≡ limit → k < length ls → rows_from n ls ≡ rows_from n (take k ls) ++ cut_text
unfolding rows_from
cut-behind zero n [] e h = absurd (omega arith)
cut-behind zero n (l ∷ ls) e h = simp (le-ltb n limit (omega arith))
cut-behind (suc k) n [] e h = absurd (omega arith)
cut-behind (suc k) n (l ∷ ls) e h = simp (lt-ltb n limit (omega arith)) (ap (λ (t : List ℕ). line_row (suc n) l ++ t) (cut-behind k (suc n) ls (omega arith) (omega arith)) ∙ sym (append_assoc (line_row (suc n) l) _ cut_text))

-- "At most 1,000,000 lines are read; if more follow, a last line `cut - - - -` is printed"
pub more_lines_are_cut : (ls : List (List ℕ)) → limit < length ls → rows_from 0 ls ≡ rows_from 0 (take limit ls) ++ cut_text
more_lines_are_cut ls h = cut-behind limit 0 ls (omega arith) h

-- ---- 17

abbrev pub row17 : ℕ → List ℕ
row17 n = row_text n (refused_row (plain 17))

says_17 : (n : ℕ) (l : List ℕ) → line_reading l ≡ no_line → line_row n l ≡ row17 n
unfolding line_row
says_17 n l e = ap (λ (r : Reading). row_text n (row_of r)) e

pub other_length_makes_17 : (n : ℕ) (l : List ℕ) → (length l ≡ 63 → ⊥) → line_row n l ≡ row17 n
other_length_makes_17 n l h = says_17 n l (wrong_length l h)

pub other_byte_makes_17 : (n : ℕ) (a b : List ℕ) (x : ℕ) → allowed digits x ≡ false → line_row n (a ++ (x ∷ b)) ≡ row17 n
other_byte_makes_17 n a b x e = says_17 n (a ++ (x ∷ b)) (wrong_byte a b x e)

-- "a carriage return makes 17, as an empty line does"
pub carriage_return_makes_17 : (n : ℕ) (a b : List ℕ) → line_row n (a ++ (13 ∷ b)) ≡ row17 n
unfolding allowed
carriage_return_makes_17 n a b = other_byte_makes_17 n a b 13 refl

pub empty_line_makes_17 : (n : ℕ) → line_row n [] ≡ row17 n
empty_line_makes_17 n = other_length_makes_17 n [] (λ e. omega arith)

-- "slots used in categories 3 and 9", of category 5 "the listing counts them as slots", and of 8 and 11 "the listing counts places and areas as
-- slots": the number of used slots there, and nothing in the others
pub slots_are_shown_in_category_3 : (r : Record) (t : Shaking) → r.body ≡ Intensity t → (row_for (Ok tt) r).slots ≡ Some (used_of r)
slots_are_shown_in_category_3 r t e = ap (λ (b : Body). slots_entry (layout b).slots.count (used_of r)) e

pub slots_are_shown_in_category_5 : (r : Record) (w : Warning) → r.body ≡ Tsunami w → (row_for (Ok tt) r).slots ≡ Some (used_of r)
slots_are_shown_in_category_5 r w e = ap (λ (b : Body). slots_entry (layout b).slots.count (used_of r)) e

pub slots_are_shown_in_category_8 : (r : Record) (a : Activity) → r.body ≡ Volcano a → (row_for (Ok tt) r).slots ≡ Some (used_of r)
slots_are_shown_in_category_8 r a e = ap (λ (b : Body). slots_entry (layout b).slots.count (used_of r)) e

pub slots_are_shown_in_category_9 : (r : Record) (u : Eruption) → r.body ≡ AshFall u → (row_for (Ok tt) r).slots ≡ Some (used_of r)
slots_are_shown_in_category_9 r u e = ap (λ (b : Body). slots_entry (layout b).slots.count (used_of r)) e

pub slots_are_shown_in_category_11 : (r : Record) → r.body ≡ Flood → (row_for (Ok tt) r).slots ≡ Some (used_of r)
slots_are_shown_in_category_11 r e = ap (λ (b : Body). slots_entry (layout b).slots.count (used_of r)) e

pub no_slots_are_shown_in_category_2 : (r : Record) (q : Quake) → r.body ≡ Hypocenter q → (row_for (Ok tt) r).slots ≡ None
no_slots_are_shown_in_category_2 r q e = ap (λ (b : Body). slots_entry (layout b).slots.count (used_of r)) e

pub no_slots_are_shown_in_category_4 : (r : Record) (p : PageNumbers) → r.body ≡ Nankai p → (row_for (Ok tt) r).slots ≡ None
no_slots_are_shown_in_category_4 r p e = ap (λ (b : Body). slots_entry (layout b).slots.count (used_of r)) e

-- "a sixth column `value`, a dash unless the answer is 8": with 8 the value, be it 0, with any other number and of a frame that was read a dash
pub a_refused_value_is_shown : (r : Record) (p v : ℕ) → (row_for (Err (Range p v)) r).value ≡ Some v
a_refused_value_is_shown r p v = refl

pub no_value_is_shown_with_another_number : (r : Record) (x : Refusal) → ((says x).number ≡ 8 → ⊥) → (row_for (Err x) r).value ≡ None
no_value_is_shown_with_another_number r x h = simp (ne_eqb (says x).number 8 h)

pub no_value_is_shown_of_a_frame_that_was_read : (r : Record) → (row_for (Ok tt) r).value ≡ None
no_value_is_shown_of_a_frame_that_was_read r = refl
