-- The numbers that writing answers.
use lib.Dec.{eqb}
use Rattle.std.specs.Prelude.{Ok, Err}
use mathlib.Core.Path.{refl}
use mathlib.Core.Bool.{Bool, true, false, not, cond}
use mathlib.Core.Logic.{inl, inr}
use Prim.Native.Nat.{ℕ, ◌+◌}
use mathlib.Core.List.{List, [], ◌∷◌}
use types.Run.{OneOf}
use Rattle.rows.specs.declared.refusal.Refusal.{Refusal}
use Rattle.rows.specs.declared.refusal.Refusal.TheVariants.{Length, Preamble, Category, Range, Gap, Unused}
use Rattle.report.specs.declared.record.Record.{Record}
use Rattle.rows.specs.Refusals.{says, answers, Verdict}
use Rattle.rows.specs.Runs.Questions.{◌then◌, unless}
use Rattle.rows.specs.Layout.{Slots, Rule, Row, common, ending, slot_rows}
use Rattle.rows.specs.Runs.Verdict.{judge, walk, empty, later, slots_verdict, verdict, allowed}
use Rattle.report.specs.Records.{values}
use Rattle.report.specs.Runs.Writing.{write_answer, known, tidy}
use Rattle.report.specs.Categories.{layout, preambles}

abbrev pub write_numbers : List ℕ
write_numbers = 0 ∷ 1 ∷ 3 ∷ 7 ∷ 8 ∷ 10 ∷ 11 ∷ []

abbrev Numbered : Verdict → Type 0
Numbered v = OneOf write_numbers (answers v).number

-- ---- the ways of answering

then_numbered : (a b : Verdict) → Numbered a → Numbered b → Numbered (a then b)
then_numbered (Ok tt) b h k = k
then_numbered (Err r) b h k = h

unless-numbered : (b : Bool) (r : Refusal) → OneOf write_numbers (says r).number → Numbered (unless b r)
unless-numbered true r h = inl refl
unless-numbered false r h = h

cond_numbered : (b : Bool) (v w : Verdict) → Numbered v → Numbered w → Numbered (cond b v w)
cond_numbered true v w h k = h
cond_numbered false v w h k = k

-- ---- fields

judge-numbered : (r : Rule) (at : ℕ) (past : List ℕ) (v : ℕ) (next : List ℕ) → Numbered (judge r at past v next)
unfolding judge
judge-numbered r at past v next = unless-numbered _ (Range at v) (inr (inr (inr (inr (inl refl)))))

walk-numbered : (past : List ℕ) (rs : List Row) (vs : List ℕ) → Numbered (walk past rs vs)
unfolding walk
walk-numbered past [] vs = inl refl
walk-numbered past (r ∷ rs) [] = inl refl
walk-numbered past (r ∷ rs) (v ∷ vs) = then_numbered _ _ (judge-numbered r.rule r.first past v vs) (walk-numbered (v ∷ past) rs vs)

-- ---- slots

module _ (k : Slots) where
  later-numbered : (gap : Bool) (at : ℕ) (vs : List (List ℕ)) → Numbered (later k gap at vs)
  unfolding later
  later-numbered gap at [] = inl refl
  later-numbered gap at (v ∷ vs) =
      cond_numbered (empty v) _ _ (later-numbered true (at + k.bits) vs)
      (then_numbered _ _ (unless-numbered (not gap) (Gap at) (inr (inr (inr (inr (inr (inl refl)))))))
      (then_numbered _ _ (walk-numbered [] (slot_rows k at) v) (later-numbered gap (at + k.bits) vs)))

  slots_numbered : (vs : List (List ℕ)) → Numbered (slots_verdict k vs)
  unfolding slots_verdict
  slots_numbered [] = inl refl
  slots_numbered (v ∷ vs) = then_numbered _ _ (walk-numbered [] (slot_rows k k.first) v) (later-numbered false (k.first + k.bits) vs)

-- ---- all of it

inner_numbered : (r : Record) → Numbered (verdict (layout r.body) (values r))
unfolding verdict values
inner_numbered r =
    let l = layout r.body in
    then_numbered _ _ (walk-numbered [] (common l) (values r).head)
    (then_numbered _ _ (walk-numbered [] l.front (values r).front)
    (then_numbered _ _ (slots_numbered l.slots (values r).slots)
    (then_numbered _ _ (walk-numbered [] l.text (values r).text)
    (then_numbered _ _ (walk-numbered [] l.behind (values r).behind) (walk-numbered [] ending (values r).last)))))

pub write_numbered : (r : Record) (size : ℕ) → OneOf write_numbers (answers (write_answer r size)).number
unfolding write_answer
write_numbered r size =
    then_numbered (unless (eqb size 32) Length) (unless (allowed preambles r.preamble) Preamble then unless (known r.body) Category then unless (tidy r) Unused then verdict (layout r.body) (values r)) (unless-numbered (eqb size 32) Length (inr (inl refl)))
    (then_numbered (unless (allowed preambles r.preamble) Preamble) (unless (known r.body) Category then unless (tidy r) Unused then verdict (layout r.body) (values r)) (unless-numbered (allowed preambles r.preamble) Preamble (inr (inr (inl refl))))
    (then_numbered (unless (known r.body) Category) (unless (tidy r) Unused then verdict (layout r.body) (values r)) (unless-numbered (known r.body) Category (inr (inr (inr (inl refl)))))
    (then_numbered (unless (tidy r) Unused) _ (unless-numbered (tidy r) Unused (inr (inr (inr (inr (inr (inr refl))))))) (inner_numbered r))))
