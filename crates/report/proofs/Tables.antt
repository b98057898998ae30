-- What is computed over all tables, and what follows for the table of any body.
use Rattle.report.specs.declared.body.Body.{Body}
use mathlib.Core.Bool.{◌&&◌, ◌||◌, true, Bool, cond}
use Rattle.rows.proofs.Rules.JudgedFrames.{JudgesAll, judged, ordered}
use Rattle.rows.proofs.Rules.JudgedRows.{Rises, rises, tested}
use mathlib.Core.List.{List, ◌∷◌, map, []}
use Rattle.rows.specs.Layout.{all_fit, all_rows, spare_row, tiles, Layout, ending}
use Rattle.slots.proofs.Tables.{Suited, is_suited, suited}
use Rattle.rows.specs.Values.{Values, cut, last_values, widths}
use Prim.Native.Nat.{◌/◌, ◌^◌, ℕ, zero, suc}
use mathlib.Core.Path.{◌≡◌, refl}
use Rattle.report.proofs.Categories.{all, layouts, listed}
use Rattle.bits.specs.Layout.{decode, total}
use lib.Dec.{eqb, leb}
use Rattle.bits.specs.Frame.{field_of, number}
use Rattle.report.specs.Runs.Writing.{front_widths}
use Rattle.report.specs.Categories.{layout}
use lib.ListN.{length}
use Rattle.slots.proofs.Used.{names}
use Rattle.rows.proofs.Layouts.Rows.{tiled, tiled_total}
use Rattle.rows.specs.Runs.Verdict.{allowed, judge, ranged, walk}
use Rattle.rows.specs.declared.refusal.Refusal.TheVariants.{Range}
use Rattle.slots.proofs.Parts.{all_wide}
use Rattle.rows.proofs.Rules.Spans.{allowed_one, only_yes}
use Rattle.rows.proofs.Rules.Outcomes.{fine_then, then_fine, unless_true}

-- the rows of each category tile bits 8 to 225, without gap or overlap
pub tables_tile : all (λ l. tiles 8 226 (all_rows l)) layouts ≡ true
tables_tile = refl

-- the greatest value that a rule lets through fits the width of its row
pub rules_fit : all (λ l. all_fit (all_rows l)) layouts ≡ true
rules_fit = refl

-- the rows of each category rise, from the lowest bit up
pub tables_rise : all ordered layouts ≡ true
tables_rise = refl

-- a slot has a row for each field that it has, and there are at most sixteen slots
pub slots_suit : all (λ l. suited l.slots) layouts ≡ true
slots_suit = refl

-- where there are slots one of their fields may not be zero
pub slots_named : all (λ l. eqb l.slots.count 0 || names l.slots.rows) layouts ≡ true
unfolding allowed
slots_named = refl

-- each field that is written has 57 bits at most, and none is without bits: no frame is written without a category
abbrev pub pieces_fit : Layout → Bool
pieces_fit l = eqb l.code 0 || (all_wide (widths l.front) && (all_wide (widths l.behind) && all_wide (front_widths l)))

pub pieces_fit_lem : all pieces_fit layouts ≡ true
pieces_fit_lem = refl

-- the numbers from `from` on, n of them, that pass a test
abbrev pub passing : (ℕ → Bool) → ℕ → ℕ → List ℕ
passing test from zero = []
passing test from (suc n) = cond (test from) (from ∷ passing test (suc from) n) (passing test (suc from) n)

-- ---- of any body

pub tiles-all : (b : Body) → tiles 8 226 (all_rows (layout b)) ≡ true
tiles-all b = listed (λ l. tiles 8 226 (all_rows l)) tables_tile b

pub rises-all : (b : Body) → ordered (layout b) ≡ true
rises-all b = listed ordered tables_rise b

rows_rise : all (λ l. rises 8 226 (all_rows l)) layouts ≡ true
rows_rise = refl

pub all_rows_rise : (b : Body) → Rises 8 226 (all_rows (layout b))
all_rows_rise b = tested 8 226 (all_rows (layout b)) (listed (λ l. rises 8 226 (all_rows l)) rows_rise b)

pub fits_all : (b : Body) → all_fit (all_rows (layout b)) ≡ true
fits_all b = listed (λ l. all_fit (all_rows l)) rules_fit b

pub suited_slots : (b : Body) → Suited (layout b).slots
suited_slots b = is_suited (layout b).slots (listed (λ l. suited l.slots) slots_suit b)

pub judged-all : (b : Body) (v : Values) → length v.slots ≡ (layout b).slots.count → JudgesAll (layout b) v
judged-all b v n = judged (layout b) v (rises-all b) n

-- ---- rows that tile

-- the widths of bits 0 to 225
pub front-total : (b : Body) → total (front_widths (layout b)) ≡ 226
front-total b = tiled_total 8 (all_rows (layout b)) (tiles-all b)

pub front_fields : (s : List ℕ) (b : Body) → decode (front_widths (layout b)) (number s / 2 ^ 30) ≡ field_of s 0 8 ∷ map (cut s) (all_rows (layout b))
front_fields s b = tiled s 0 (spare_row 0 8 ∷ all_rows (layout b)) (tiles-all b)

-- ---- the last two rows: the version is what it is

pub last_walk : (x : ℕ) → walk [] ending (last_values x) ≡ ranged (leb 0 x && leb x 63) 220 x
unfolding walk judge
last_walk x = simp (unless_true _ (Range 214 1) (only_yes 1), fine_then, then_fine) (simp allowed_one)
