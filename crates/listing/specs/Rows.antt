-- The lines of text of a listing (document 01, "The listing"): "line number from 1, answer (0 when read), first bit for 8, 9, 10, category, slots used in
-- categories 3 and 9", and in categories 5, 8 and 11; and document 02: "a sixth column `value`".
use Rattle.report.specs.Runs.Reading.{Reading, Seen, not_seen, unread}
use Rattle.std.specs.Prelude.{ℕ, ◌||◌, cond, List, [], ◌∷◌, ◌++◌, length, drop, ltb, eqb, Result, Ok, Err, Option, None, Some}
use Rattle.rows.specs.declared.refusal.Refusal.{Refusal}
use Rattle.rows.specs.declared.refusal.Said.{Said}
use Rattle.report.specs.declared.look.Looked.{Looked}
use Rattle.report.specs.declared.record.Record.{Record}
use Rattle.rows.specs.Refusals.{says, Verdict}
use Rattle.report.specs.Meaning.{used_of}
use Rattle.listing.specs.declared.row.Row.{Row}
use Rattle.lent.specs.Numbers.{decimal}
use Rattle.report.specs.Categories.{layout}

-- ---- what is said of a line

-- "first bit for 8, 9, 10", of which 9 is given no more
abbrev pub place_entry : Said → Option ℕ
place_entry a = cond (eqb a.number 8 || eqb a.number 10) (Some a.place) None

-- "slots used in categories 3 and 9", and in 5, 8 and 11: in those that have slots
abbrev pub slots_entry : ℕ → ℕ → Option ℕ
slots_entry count n = cond (eqb count 0) None (Some n)

-- "a dash unless the answer is 8"
abbrev pub value_entry : Said → Option ℕ
value_entry a = cond (eqb a.number 8) (Some a.value) None

abbrev pub refused_row : Said → Row
refused_row a = record { answer = a.number; place = place_entry a; category = None; slots = None; value = value_entry a }

-- "Category and slots are given only for a frame that was read"
abbrev pub row_for : Verdict → Record → Row
row_for (Ok tt) r = record { answer = 0; place = None; category = Some (layout r.body).code; slots = slots_entry (layout r.body).slots.count (used_of r); value = None }
row_for (Err x) r = refused_row (says x)

abbrev pub row_of : Reading → Row
row_of r = row_for r.answer r.«record»

-- the same from what a look tells, as code makes it
abbrev pub row_seen : Verdict → Seen → Row
row_seen (Ok tt) l = record { answer = 0; place = None; category = Some l.category; slots = slots_entry l.count l.used; value = None }
row_seen (Err x) l = refused_row (says x)

-- what reading and looking hand back, with zeros where they hand back nothing
abbrev pub reading_of : Result Record Refusal → Reading
reading_of (Ok r) = record { answer = Ok tt; «record» = r }
reading_of (Err x) = unread (Err x)

abbrev pub seen_of : Result Looked Refusal → Seen
seen_of (Ok l) = record { answer = Ok tt; category = l.category; count = l.count; used = l.used }
seen_of (Err x) = not_seen (Err x)

-- ---- as text

-- an entry behind a space: "A dash stands where there is nothing to say"
abbrev pub entry_text : Option ℕ → List ℕ
entry_text None = 32 ∷ 45 ∷ []
entry_text (Some n) = 32 ∷ decimal n

-- the row of the line with this number
unfoldable pub row_text : ℕ → Row → List ℕ
row_text n r =
    decimal n
    ++ (entry_text (Some r.answer)
    ++ (entry_text r.place ++ (entry_text r.category ++ (entry_text r.slots ++ (entry_text r.value ++ (10 ∷ []))))))

-- "line answer place dc slots", and `value`
unfoldable pub heading_text : List ℕ
heading_text =
    108 ∷ 105 ∷ 110 ∷ 101 ∷ 32 ∷ 97 ∷ 110 ∷ 115 ∷ 119 ∷ 101 ∷ 114 ∷ 32 ∷ 112 ∷ 108 ∷ 97 ∷ 99 ∷ 101 ∷ 32 ∷ 100 ∷ 99 ∷ 32 ∷ 115 ∷ 108 ∷ 111 ∷ 116 ∷ 115 ∷ 32 ∷ 118 ∷ 97 ∷ 108 ∷ 117 ∷ 101 ∷ 10 ∷ []

-- "cut - - - -", and "the cut line gets a fifth dash"
unfoldable pub cut_text : List ℕ
cut_text = 99 ∷ 117 ∷ 116 ∷ 32 ∷ 45 ∷ 32 ∷ 45 ∷ 32 ∷ 45 ∷ 32 ∷ 45 ∷ 32 ∷ 45 ∷ 10 ∷ []

-- ---- in a lent buffer

-- no line of a listing has more bytes, with a line number of 32 bits and a value of 64
abbrev pub longest : ℕ
longest = 48

-- what a call leaves: how many bytes of text there are, and the lent buffer
pub record Filled : Type 0 where
  pub written : ℕ
  pub buffer : List ℕ

abbrev pub filled : ℕ → List ℕ → Filled
filled n b = record { written = n; buffer = b }

-- a text in place of the first bytes
abbrev pub over : List ℕ → List ℕ → List ℕ
over text out = text ++ drop (length text) out

-- a buffer that is shorter than the longest line is left as it was
unfoldable pub filled_by : List ℕ → List ℕ → Filled
filled_by text out = cond (ltb (length out) longest) (filled 0 out) (filled (length text) (over text out))
