-- Spares among the rows of a table, and one that is too wide for its field.
use Rattle.std.specs.Prelude.{Ok, Err}
use Rattle.rows.specs.Refusals.{Verdict}
use mathlib.Core.Path.{◌≡◌}
use mathlib.Core.Bool.{cond}
use Prim.Native.Nat.{ℕ, ◌^◌, ◌≤◌}
use mathlib.Core.List.{List, [], ◌∷◌}
use lib.Dec.{ltb}
use borrow.Author.Tests.{le-ltb}
use Rattle.rows.specs.declared.refusal.Refusal.{Refusal}
use Rattle.rows.specs.declared.refusal.Refusal.TheVariants.{Range}
use Rattle.rows.specs.Layout.{Row, spare_row}
use Rattle.rows.specs.Values.{is_spare}
use Rattle.rows.specs.Runs.Questions.{◌then◌}
use Rattle.rows.specs.Runs.Verdict.{judge, ranged, walk}
use Rattle.rows.proofs.Rules.Outcomes.{fine_both}

-- ---- in a table

-- the first bits and the widths of the spares among rows
abbrev pub spare_rows : List Row → List (ℕ × ℕ)
spare_rows [] = []
spare_rows (r ∷ rs) = cond (is_spare r.rule) ((r.first, r.width) ∷ spare_rows rs) (spare_rows rs)

-- the first bit of the first of them, and its width
abbrev pub spare_bit : List Row → ℕ
spare_bit [] = 0
spare_bit (r ∷ rs) = cond (is_spare r.rule) r.first (spare_bit rs)

abbrev pub spare_width : List Row → ℕ
spare_width [] = 0
spare_width (r ∷ rs) = cond (is_spare r.rule) r.width (spare_width rs)

-- ---- too wide

pub too_wide : (vs : List ℕ) (rs : List Row) (a w n : ℕ) → 2 ^ w ≤ n → walk [] (spare_row a w ∷ rs) (n ∷ vs) ≡ Err (Range a n)
unfolding walk judge
too_wide vs rs a w n h = simp (le-ltb n (2 ^ w) h)

-- a part that is refused behind two that pass
pub behind-two : (a b c d : Verdict) (x : Refusal) → a then b then c ≡ Ok tt → d ≡ Err x → a then b then d ≡ Err x
behind-two a b c d x f e = let p = fine_both a (b then c) f in let q = fine_both b c p.1 in simp (p.0, q.0, e)

pub not_ranged : (a w n : ℕ) → 2 ^ w ≤ n → ranged (ltb n (2 ^ w)) a n ≡ Err (Range a n)
not_ranged a w n h = rw (le-ltb n (2 ^ w) h)
