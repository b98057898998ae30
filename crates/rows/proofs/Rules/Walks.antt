-- A chain of questions, each put behind those before it.
use Rattle.std.specs.Prelude.{Ok}
use Rattle.rows.specs.Refusals.{Verdict}
use mathlib.Core.Path.{◌≡◌, refl, ap, ◌∙◌}
use mathlib.Core.Bool.{Bool, ◌&&◌}
use Rattle.rows.specs.declared.refusal.Refusal.{Refusal}
use Rattle.rows.specs.Runs.Questions.{◌then◌, unless}
use Rattle.rows.proofs.Rules.Outcomes.{then_assoc, fine_then, then_fine, unless_true}
use Rattle.rows.specs.declared.common.Common.{Common}
use Rattle.rows.specs.Layout.{Layout, common, Slots, spare_row}
use Rattle.rows.specs.declared.refusal.Refusal.TheVariants.{Range}
use Rattle.rows.specs.Runs.Verdict.{allowed, common_verdict, judge, ranged, walk, body_verdict, slots_verdict}
use Rattle.rows.proofs.Rules.Spans.{allowed_one, only_yes}
use Rattle.rows.specs.Values.{head_values, Sides}
use mathlib.Core.List.{[], List, ◌∷◌}
use lib.Dec.{leb, ltb}
use borrow.Author.Tests.{le-leb}
use Rattle.rows.specs.declared.time.Time.{Time}
use Rattle.rows.specs.Runs.Times.{time_verdict}
use Prim.Native.Nat.{ℕ, ◌+◌, ◌≤◌, ◌^◌}

-- the test in a question is known by another name
pub asked : (r v : Verdict) (x : Refusal) (met b : Bool) → r ≡ v then unless met x → met ≡ b → r ≡ v then unless b x
asked r v x met b e q = rw q at e

-- one more link in front
pub link : (v x y a z : Verdict) → x ≡ v then a → y ≡ x then z → y ≡ v then a then z
link v x y a z e f = f ∙ ap (λ (w : Verdict). w then z) e ∙ then_assoc v a z

-- bits 8 to 42 of a category's table: what is asked where it is known which Rc and It are allowed
pub common-walk : (l : Layout) (c : Common) → walk [] (common l) (head_values c l.code) ≡ common_verdict c (allowed l.rcs c.rc) (allowed l.types c.it)
unfolding walk judge
common-walk l c = simp (unless_true _ (Range 8 43) (only_yes 43), unless_true _ (Range 17 l.code) (only_yes l.code), fine_then, then_fine) (simp allowed_one)

-- ---- what a category asks, part by part

-- what is asked from bit 8 to bit 213, with what is asked of every category told by whether Rc and It are allowed
pub body_parts : (l : Layout) (c : Common) (v : Sides) (ss : List (List ℕ))
    → body_verdict l (head_values c l.code) v ss
    ≡ common_verdict c (allowed l.rcs c.rc) (allowed l.types c.it)
    then walk [] l.front v.front
    then slots_verdict l.slots ss
    then walk [] l.behind v.behind
unfolding body_verdict
body_parts l c v ss = rw (common-walk l c)

-- the same of what was found part by part, behind what was found before
pub body_found : (l : Layout) (c : Common) (v : Sides) (ss : List (List ℕ)) (found head front slots r : Verdict)
    → head ≡ found then common_verdict c (allowed l.rcs c.rc) (allowed l.types c.it)
    → front ≡ head then walk [] l.front v.front
    → slots ≡ front then slots_verdict l.slots ss
    → r ≡ slots then walk [] l.behind v.behind
    → r ≡ found then body_verdict l (head_values c l.code) v ss
body_found l c v ss found head front slots r e f g h = rw (h, g, f, e, body_parts l c v ss) (simp then_assoc)

pub no_slots_lem : (k : Slots) → slots_verdict k [] ≡ Ok tt
unfolding slots_verdict
no_slots_lem k = refl

pub spare_walk : (a w y : ℕ) → walk [] (spare_row a w ∷ []) (y ∷ []) ≡ ranged (ltb y (2 ^ w)) a y
unfolding walk judge
spare_walk a w y = then_fine _

-- what is asked of a time that lies in the frame
pub time_parts : (a : ℕ) (t : Time) → a ≤ 240
    → time_verdict a t
    ≡ ranged (leb 1 t.day && leb t.day 31) a t.day
    then ranged (leb 0 t.hour && leb t.hour 23) (a + 5) t.hour
    then ranged (leb 0 t.minute && leb t.minute 59) (a + 10) t.minute
unfolding walk judge
time_parts a t h = simp (le-leb _ _ h, then_fine, allowed_one)
