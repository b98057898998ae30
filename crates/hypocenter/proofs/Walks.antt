-- What is asked of a hypocenter, part by part, as the code asks it.
use Prim.Native.Nat.{◌^◌}
use mathlib.Core.Path.{◌≡◌, ◌∙◌}
use mathlib.Core.Bool.{◌&&◌}
use mathlib.Core.List.{[], ◌∷◌}
use lib.Dec.{leb, ltb}
use Rattle.rows.specs.declared.common.Common.{Common}
use Rattle.rows.specs.declared.fields.Spares.{Spares}
use Rattle.rows.specs.declared.refusal.Refusal.TheVariants.{Range}
use Rattle.hypocenter.specs.declared.Quake.{Quake}
use Rattle.rows.specs.Runs.Questions.{◌then◌, unless}
use Rattle.rows.specs.Layout.{◌to◌, notified, time, two_or_seven, uncorrected}
use Rattle.hypocenter.specs.Hypocenter.{angle, hypocenter, angle_values, quake_values}
use Rattle.hypocenter.specs.Runs.{front_verdict}
use Rattle.rows.specs.Runs.Verdict.{allowed, body_verdict, common_verdict, judge, ranged, walk}
use Rattle.rows.specs.Values.{head_values, time_values}
use Rattle.rows.proofs.Rules.Outcomes.{then_assoc, fine_then}
use Rattle.rows.proofs.Rules.Spans.{allowed_one}
use Rattle.rows.proofs.Rules.Walks.{body_parts, no_slots_lem, spare_walk}

-- the rows in front, question by question
pub quake-walk : (q : Quake) (z : Spares)
    → walk [] hypocenter.front (quake_values q z).front
    ≡ unless (ltb z.first (2 ^ 10)) (Range 43 z.first)
    then unless (allowed notified q.notification1) (Range 53 q.notification1)
    then unless (allowed notified q.notification2) (Range 62 q.notification2)
    then unless (allowed notified q.notification3) (Range 71 q.notification3)
    then walk [] (time 80) (time_values q.time)
    then unless (allowed (0 to 501 ∷ 511 to 511 ∷ []) q.depth) (Range 96 q.depth)
    then unless (allowed (1 to 101 ∷ 126 to 126 ∷ 127 to 127 ∷ []) q.magnitude) (Range 105 q.magnitude)
    then unless (leb 11 q.epicenter && leb q.epicenter 1000) (Range 112 q.epicenter)
    then walk [] (angle 122 7 89) (angle_values q.latitude)
    then walk [] (angle 142 8 179) (angle_values q.longitude)
unfolding walk judge
quake-walk q z = simp (then_assoc, fine_then, allowed_one)

-- all from bit 8 to bit 213
pub quake_walk : (q : Quake) (z : Spares) (c : Common)
    → body_verdict hypocenter (head_values c 2) (quake_values q z) []
    ≡ common_verdict c (allowed two_or_seven c.rc) (allowed uncorrected c.it)
    then front_verdict q z
    then ranged (ltb z.second (2 ^ 51)) 163 z.second
unfolding front_verdict
quake_walk q z c = body_parts hypocenter c (quake_values q z) [] ∙ simp (no_slots_lem, spare_walk)
