-- The value of an 8 (document 02): "Every field check hands back the value found beside the place".
use Rattle.std.specs.Prelude.{ℕ, ◌^◌, ◌≤◌, ◌<◌, ◌≡◌, ◌⊎◌, List, ◌∷◌, []}
use Rattle.rows.specs.Layout.{Rule, among, rising, in_group, spare, Row}
use Rattle.rows.specs.Kept.{In}

-- the value v lies in the normal range of a field: what it may hold by itself, without codes that speak for its group. `before` is the
-- value of the field before it
abbrev pub Normal : Rule → ℕ → ℕ → Type 0
Normal (among ss) before v = In ss v
Normal (rising hi) before v = (before ≤ v) × (v ≤ hi)
Normal (in_group ss c) before v = In ss v
Normal (spare w) before v = v < 2 ^ w

-- among rows and their values, one behind the other, a row starts at the bit p and has the value x, which is not in its normal range;
-- `before` is the value in front of them
abbrev pub FoundAt : ℕ → List Row → List ℕ → ℕ → ℕ → Type 0
FoundAt before [] vs p x = ⊥
FoundAt before (r ∷ rs) [] p x = ⊥
FoundAt before (r ∷ rs) (v ∷ vs) p x = ((r.first ≡ p) × ((v ≡ x) × (Normal r.rule before v → ⊥))) ⊎ FoundAt v rs vs p x

-- a row of w bits starts at the bit p
abbrev pub Starts : List Row → ℕ → ℕ → Type 0
Starts [] p w = ⊥
Starts (r ∷ rs) p w = ((r.first ≡ p) × (r.width ≡ w)) ⊎ Starts rs p w
