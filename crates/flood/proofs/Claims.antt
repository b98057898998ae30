-- What is claimed of an area: which areas keep their rules, and how many bits a region needs.
use mathlib.Core.List.{[], ◌∷◌}
use mathlib.Core.Logic.{inl, ◌↔◌}
use Prim.Native.Nat.{ℕ, ◌^◌, ◌≤◌, ◌<◌}
use native.Mathlib.Omega.{arith}
use Rattle.rows.specs.Kept.{Kept}
use Rattle.rows.proofs.Rules.Spans.{one_span}
use Rattle.flood.specs.Flood.{areas}

-- "up to three areas with level and region": an area keeps its rules exactly where its level is 1 to 15 and its region 10175000100 to
-- 899999999999 ..
pub an_area_keeps_its_rules : (level region : ℕ) → Kept [] areas.rows (level ∷ region ∷ [])
    ↔ ((1 ≤ level) × (level ≤ 15)) × ((10175000100 ≤ region) × (region ≤ 899999999999))
an_area_keeps_its_rules l r = (λ k. (one_span 1 15 l k.0, one_span 10175000100 899999999999 r k.1.0), λ h. (inl h.0, (inl h.1, tt)))

-- .. and "Flood region codes such as 830303020300 need more than 32 bits": every one does, and 40 hold each
pub a_region_needs_33_to_40_bits : (region : ℕ) → 10175000100 ≤ region → region ≤ 899999999999 → (2 ^ 32 ≤ region) × (region < 2 ^ 40)
a_region_needs_33_to_40_bits r low high = (omega arith, omega arith)
