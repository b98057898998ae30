-- All fields of a frame: the common ones, those in front of the slots, the slots, the text, the rows behind, the ending.
use borrow.Author.Tests.{eqb-true}
use lib.Dec.{eqb}
use mathlib.Core.Path.{◌≡◌, refl, ◌∙◌}
use mathlib.Core.Bool.{Bool, cond, true, ◌&&◌, false}
use Prim.Native.Nat.{ℕ}
use native.Mathlib.Nat.{suc-ne-zero}
use native.Mathlib.Omega.{arith}
use mathlib.Core.List.{List, [], ◌∷◌}
use lib.ListN.{length}
use Rattle.rows.specs.Layout.{Layout, common, ending, Slots}
use Rattle.rows.specs.Values.{Values}
use Rattle.rows.specs.Runs.Verdict.{verdict, slots_verdict}
use Rattle.rows.specs.Kept.{SlotsKept, Holds}
use Rattle.rows.specs.Faults.{SlotsFault, Fault}
use Rattle.rows.proofs.Rules.Judged.{Judges, unasked, join, restated}
use Rattle.rows.proofs.Rules.JudgedRows.{end_of, rises, tested, rows}
use Rattle.rows.proofs.Rules.JudgedSlots.{SlotRises, behind, all_slots}
use Rattle.rows.proofs.Rules.Outcomes.{and_both}

-- the verdict on all values of a layout
abbrev pub JudgesAll : Layout → Values → Type 0
JudgesAll l v = Judges 8 226 (verdict l v) (Holds l v) (Fault l v)

abbrev pub JudgesSlots : ℕ → ℕ → Slots → List (List ℕ) → Type 0
JudgesSlots a e k vs = Judges a e (slots_verdict k vs) (SlotsKept k vs) (SlotsFault k vs)

-- the six stretches, slots from bit a up to bit e, text up to bit t
pub six : (l : Layout) (v : Values) (a e t : ℕ) → rises 43 a l.front ≡ true
    → JudgesSlots a e l.slots v.slots → rises e t l.text ≡ true → rises t 214 l.behind ≡ true → JudgesAll l v
unfolding verdict
six l v a e t h s x k = restated
    (join (rows 8 43 [] (common l) v.head (tested 8 43 (common l) refl))
    (join (rows 43 a [] l.front v.front (tested 43 a l.front h))
    (join s
    (join (rows e t [] l.text v.text (tested e t l.text x))
    (join (rows t 214 [] l.behind v.behind (tested t 214 l.behind k)) (rows 214 226 [] ending v.last (tested 214 226 ending refl)))))))
    (λ g. record { head = g.0; front = g.1.0; slots = g.1.1.0; text = g.1.1.1.0; behind = g.1.1.1.1.0; last = g.1.1.1.1.1 })
    (λ g. (g.head, (g.front, (g.slots, (g.text, (g.behind, g.last))))))
    (λ x b. b)
    (λ x b. b)

no_slots_lem : (a : ℕ) (k : Slots) (vs : List (List ℕ)) → length vs ≡ 0 → JudgesSlots a a k vs
unfolding slots_verdict
no_slots_lem a k [] n = unasked a a (omega arith)
no_slots_lem a k (v ∷ vs) n = absurd (suc-ne-zero (length vs) n)

counted_slots : (k : Slots) → SlotRises k → (vs : List (List ℕ)) → length vs ≡ k.count
    → JudgesSlots k.first (behind k k.first k.count) k vs
counted_slots k r vs n = rw n at (all_slots k r vs)

-- where a category has slots, its rows in front of them end before they start, and those behind them start behind them; where it
-- has none, the rows behind start where those in front end
abbrev slots_start : Layout → ℕ
slots_start l = cond (eqb l.slots.count 0) (end_of 43 l.front) l.slots.first

abbrev slots_end : Layout → ℕ
slots_end l = cond (eqb l.slots.count 0) (end_of 43 l.front) (behind l.slots l.slots.first l.slots.count)

-- the bit behind the first bit of the last row of the text
abbrev text_end : Layout → ℕ
text_end l = end_of (slots_end l) l.text

-- the test on a table: its rows rise
abbrev pub ordered : Layout → Bool
ordered l = rises 43 (slots_start l) l.front && (rises 0 l.slots.bits l.slots.rows && (rises (slots_end l) (text_end l) l.text && rises (text_end l) 214 l.behind))

by_slots : (l : Layout) (v : Values) (b : Bool) → eqb l.slots.count 0 ≡ b → length v.slots ≡ l.slots.count
    → rises 0 l.slots.bits l.slots.rows ≡ true → JudgesSlots (slots_start l) (slots_end l) l.slots v.slots
by_slots l v true e n h = rw e (no_slots_lem (end_of 43 l.front) l.slots v.slots (n ∙ eqb-true l.slots.count 0 e))
by_slots l v false e n h = rw e (counted_slots l.slots h v.slots n)

-- so the verdict on its values is what they keep and where they fail
pub judged : (l : Layout) (v : Values) → ordered l ≡ true → length v.slots ≡ l.slots.count → JudgesAll l v
judged l v o n =
    let p = and_both (rises 43 (slots_start l) l.front) _ o in
    let q = and_both (rises 0 l.slots.bits l.slots.rows) _ p.1 in
    let t = and_both (rises (slots_end l) (text_end l) l.text) _ q.1 in
    six l v (slots_start l) (slots_end l) (text_end l) p.0 (by_slots l v (eqb l.slots.count 0) refl n q.0) t.0 t.1
