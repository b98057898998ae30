-- One field, and fields one behind the other, as stretches of a frame.
use mathlib.Core.Path.{◌≡◌}
use mathlib.Core.Bool.{Bool, true, ◌&&◌}
use Prim.Native.Nat.{ℕ, suc, ◌≤◌, ◌<◌, ◌+◌}
use native.Mathlib.Omega.{arith}
use mathlib.Core.List.{List, [], ◌∷◌}
use lib.Dec.{leb}
use borrow.Author.Tests.{leb-true}
use Rattle.rows.specs.declared.refusal.Refusal.TheVariants.{Range}
use Rattle.rows.specs.Layout.{shifted, Rule, Row}
use Rattle.rows.specs.Runs.Verdict.{judge, meets, walk}
use Rattle.rows.specs.Kept.{Keeps, Kept}
use Rattle.rows.specs.Faults.{RowFault}
use Rattle.rows.proofs.Rules.Outcomes.{and_both}
use Rattle.rows.proofs.Rules.Kinds.{meets_keeps, keeps_meets}
use Rattle.rows.proofs.Rules.Judged.{Judges, unasked, asked, join}

-- ---- one field

pub field : (a e : ℕ) (r : Rule) (at : ℕ) (past : List ℕ) (v : ℕ) (next : List ℕ) → a ≤ at → at < e
    → Judges a e (judge r at past v next) (Keeps r past v next) (λ y. (Keeps r past v next → ⊥) × (y ≡ Range at v))
unfolding judge
field a e r at past v next h k =
    asked a e (meets r past v next) (Range at v) (Keeps r past v next) (meets_keeps r past v next) (keeps_meets r past v next) (omega arith) (omega arith)

-- ---- fields one behind the other

-- each row starts behind the first bit of the one before it
abbrev pub Rises : ℕ → ℕ → List Row → Type 0
Rises a e [] = a ≤ e
Rises a e (r ∷ rs) = (a ≤ r.first) × Rises (suc r.first) e rs

-- the same as a test, for tables
abbrev pub rises : ℕ → ℕ → List Row → Bool
rises a e [] = leb a e
rises a e (r ∷ rs) = leb a r.first && rises (suc r.first) e rs

-- the bit behind the first bit of the last row
abbrev pub end_of : ℕ → List Row → ℕ
end_of a [] = a
end_of a (r ∷ rs) = end_of (suc r.first) rs

pub tested : (a e : ℕ) (rs : List Row) → rises a e rs ≡ true → Rises a e rs
tested a e [] h = leb-true a e h
tested a e (r ∷ rs) h =
    let q = and_both (leb a r.first) (rises (suc r.first) e rs) h in
    (leb-true a r.first q.0, tested (suc r.first) e rs q.1)

-- rows that are counted from bit 0 rise from any bit on
pub shifted-rises : (at a e : ℕ) (rs : List Row) → Rises a e rs → Rises (at + a) (at + e) (shifted at rs)
shifted-rises at a e [] h = omega arith
shifted-rises at a e (r ∷ rs) h = (omega (arith, h.0), add_suc_rises at r.first (shifted-rises at (suc r.first) e rs h.1))
  where
    add_suc_rises : (at n : ℕ) → Rises (at + suc n) (at + e) (shifted at rs) → Rises (suc (at + n)) (at + e) (shifted at rs)
    add_suc_rises at n k = let q : suc (at + n) ≡ at + suc n = omega arith in rw q k

rises_in_all : (a e : ℕ) (rs : List Row) → Rises a e rs → a ≤ e
rises_in_all a e [] h = h
rises_in_all a e (r ∷ rs) h = omega (arith, h.0, rises_in_all (suc r.first) e rs h.1)

pub rows : (a e : ℕ) (past : List ℕ) (rs : List Row) (vs : List ℕ) → Rises a e rs
    → Judges a e (walk past rs vs) (Kept past rs vs) (RowFault past rs vs)
unfolding walk
rows a e past [] vs h = unasked a e h
rows a e past (r ∷ rs) [] h = unasked a e (rises_in_all a e (r ∷ rs) h)
rows a e past (r ∷ rs) (v ∷ vs) h =
    join (field a (suc r.first) r.rule r.first past v vs h.0 (omega arith)) (rows (suc r.first) e (v ∷ past) rs vs h.1)
