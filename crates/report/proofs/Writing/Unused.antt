-- Number 11: what the test finds, and what must be zero.
use Rattle.category.specs.Text.{text_of}
use Rattle.report.specs.declared.body.Body.{Body}
use Rattle.rows.specs.Layout.{Layout, Row}
use mathlib.Core.List.{List, [], ◌∷◌, map}
use Rattle.report.specs.declared.record.Record.{Record}
use Rattle.report.specs.Rules.{Tidy}
use mathlib.Core.Path.{◌∙◌, ◌≡◌, ap, refl, sym}
use lib.Dec.{eqb}
use borrow.Author.Tests.{eqb-true, eq-eqb}
use Rattle.rows.proofs.Rules.Outcomes.{and_both, both_and, false_not_true}
use Rattle.rows.specs.Values.{cut, has_spare, is_spare, part_widths, spare_among}
use lib.ListN.{drop, get_or, length, length-map, replicate}
use lib.Seq.{drop_at}
use Rattle.rows.specs.Runs.Verdict.{empty}
use Rattle.rows.proofs.Rules.JudgedSlots.{empty_is, is_empty}
use Rattle.slots.proofs.Tidy.{first-tidy, others-tidy, slots_tidy}
use Rattle.slots.proofs.Tables.{frame_slots_tidy}
use Rattle.report.specs.Categories.{layout}
use Rattle.report.specs.Records.{record_as}
use Prim.Native.Nat.{suc, zero, ℕ, ◌-◌}
use Rattle.report.proofs.Tables.{suited_slots}
use Rattle.report.specs.Runs.Writing.{tidy, tidy_by}
use Rattle.slots.specs.Slots.{tidy_slots}
use mathlib.Core.Bool.{Bool, true, false, ◌&&◌, ◌||◌, cond}
use Rattle.rows.specs.declared.fields.Table.{Table}
use Rattle.rows.specs.Runs.Fields.{table_in}
use Rattle.report.proofs.Categories.{text_apart}
use Rattle.report.proofs.Texts.{text-behind}

-- the table in numbers tells the same
pub by_table : (r : Record) (t : Table) → t ≡ table_in (layout r.body) → length r.text ≡ 18 → tidy_by t r.slots r.text r.spares ≡ tidy r
by_table r t e n =
    let l = layout r.body in
    ap (λ (u : Table). tidy_by u r.slots r.text r.spares) e
    ∙ ap (λ (b : Bool). tidy_slots (part_widths l.slots) l.slots.count r.slots && ((has_spare l.behind || eqb r.spares.second 0) && b)) (text-behind l.text r.text (text_apart r.body) n)

pub is_tidy : (r : Record) → tidy r ≡ true → Tidy r
is_tidy r e =
    let l = layout r.body in
    let ws = part_widths l.slots in
    let n = l.slots.count in
    let q = and_both (tidy_slots ws n r.slots) _ e in
    let p = and_both (has_spare l.behind || eqb r.spares.second 0) _ q.1 in
    record {
      slots = first-tidy ws n r.slots q.0;
      others = others-tidy ws n r.slots q.0;
      spare = λ none. eqb-true r.spares.second 0 (ap (λ (b : Bool). b || eqb r.spares.second 0) (sym none) ∙ p.0);
      text = empty_is _ p.1;
    }

spare_held : (has : Bool) (y : ℕ) → (has ≡ false → y ≡ 0) → has || eqb y 0 ≡ true
spare_held true y h = refl
spare_held false y h = eq-eqb y 0 (h refl)

pub tidy_is : (r : Record) → Tidy r → tidy r ≡ true
tidy_is r h =
    let l = layout r.body in
    let ws = part_widths l.slots in
    let n = l.slots.count in
    both_and (tidy_slots ws n r.slots) _ (slots_tidy ws n r.slots h.slots h.others)
    (both_and _ _ (spare_held (has_spare l.behind) r.spares.second h.spare) (is_empty _ h.text))

-- ---- the record of a frame is tidy

zeros-empty : (n : ℕ) → empty (replicate n 0) ≡ true
unfolding empty
zeros-empty zero = refl
zeros-empty (suc n) = zeros-empty n

text-tidy : (s : List ℕ) (l : Layout) → empty (drop (length l.text) (text_of s l)) ≡ true
text-tidy s l =
    let cuts = map (cut s) l.text in
    ap empty (drop_at cuts (replicate (18 - length cuts) 0) (length l.text) (length-map l.text (cut s))) ∙ zeros-empty (18 - length cuts)

-- without a spare among the rows there is nothing in one
none_among : (rs : List Row) (vs : List ℕ) (k : ℕ) → has_spare rs ≡ false → spare_among rs vs k ≡ 0
none_among [] vs k e = refl
none_among (r ∷ rs) vs k e = by (is_spare r.rule) e (none_among rs vs (suc k))
  where
    by : (b : Bool) → b || has_spare rs ≡ false → (has_spare rs ≡ false → spare_among rs vs (suc k) ≡ 0) → cond b (get_or vs k 0) (spare_among rs vs (suc k)) ≡ 0
    by true f rest = absurd (false_not_true (sym f))
    by false f rest = rest f

pub frame-tidy : (s : List ℕ) (b : Body) → tidy (record_as s b) ≡ true
unfolding record_as
frame-tidy s b =
    let l = layout b in
    both_and _ _ (frame_slots_tidy l.slots (suited_slots b) s)
    (both_and _ _ (spare_held (has_spare l.behind) _ (none_among l.behind (map (cut s) l.behind) 0)) (text-tidy s l))
