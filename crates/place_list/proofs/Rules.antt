-- The table's rules, over all its codes, and its rows.
use mathlib.Core.Path.{◌≡◌, ◌∙◌, refl, sym, ap, subst}
use mathlib.Core.Bool.{Bool, true, false}
use lib.Dec.{eqb}
use borrow.Author.Tests.{eqb-true, eqb-false}
use mathlib.Core.List.{List}
use Prim.Native.Nat.{ℕ, zero, suc, ◌+◌, ◌*◌, ◌≤◌, ◌<◌}
use native.Mathlib.Omega.{arith}
use lib.ListN.{length, get_or, drop}
use lib.Seq.{get_or-take, get_or-drop}
use Rattle.place_list.specs.Codes.{codes, code_at}
use Rattle.place_list.specs.Search.{row_of, lasts_of, lasts}
use Rattle.place_list.specs.Standing.{in_prefecture}
use Rattle.place_list.proofs.Tests.{rises, rises-at, every, every-at}

pub there_are_1792 : length codes ≡ 1792
unfolding codes
there_are_1792 = refl

pub inside : {k : ℕ} → k < 1792 → k < length codes
inside {k} h = subst (λ (n : ℕ). k < n) (sym there_are_1792) h

-- ---- "That the table rises strictly"

codes_rise : rises 0 codes ≡ true
unfolding codes
codes_rise = refl

pub rising : (i j : ℕ) → i < j → j < 1792 → code_at i < code_at j
unfolding code_at
rising i j h m = rises-at 0 codes codes_rise i j h (inside m)

pub not_falling : (i j : ℕ) → i ≤ j → j < 1792 → code_at i ≤ code_at j
not_falling i j h m = by (eqb i j) refl
  where
    by : (b : Bool) → eqb i j ≡ b → code_at i ≤ code_at j
    by true e = omega (arith, ap code_at (eqb-true i j e))
    by false e = omega (arith, rising i j (omega (arith, eqb-false i j e)) m)

-- ---- "and that every entry's first digits name prefecture 1 to 47"

codes_lie_in_prefectures : every in_prefecture codes ≡ true
unfolding codes in_prefecture
codes_lie_in_prefectures = refl

pub in_prefecture_lem : (k : ℕ) → k < 1792 → in_prefecture (code_at k) ≡ true
unfolding code_at
in_prefecture_lem k h = every-at in_prefecture codes codes_lie_in_prefectures k (inside h)

-- ---- rows: a code of one, and the last of one

pub in_row : (row k : ℕ) → k < 32 → get_or (row_of row) k 0 ≡ code_at (32 * row + k)
unfolding row_of code_at
in_row row k h = get_or-take 32 (drop (32 * row) codes) k 0 h ∙ get_or-drop (32 * row) codes k 0

last_of : (rows : ℕ) (l : List ℕ) (k : ℕ) → k < rows → get_or (lasts_of rows l) k 0 ≡ get_or l (32 * k + 31) 0
last_of zero l k h = absurd (omega (arith, h))
last_of (suc rows) l zero h = refl
last_of (suc rows) l (suc k) h =
    let e : 32 + (32 * k + 31) ≡ 32 * suc k + 31 = omega arith in
    last_of rows (drop 32 l) k (omega (arith, h)) ∙ get_or-drop 32 l (32 * k + 31) 0 ∙ ap (λ (n : ℕ). get_or l n 0) e

pub last_in_row : (row : ℕ) → row < 56 → get_or lasts row 0 ≡ code_at (32 * row + 31)
unfolding lasts code_at
last_in_row row h = last_of 56 codes row h

pub the_last_code : code_at 1791 ≡ 4799999
unfolding code_at codes
the_last_code = refl
