-- What the search finds: the place, where the table has it.
use mathlib.Core.Path.{◌≡◌, ◌∙◌, refl, sym, ap, subst}
use mathlib.Core.Bool.{Bool, true, false}
use mathlib.Core.Logic.{⊎_elim}
use mathlib.Core.List.{List, map}
use Prim.Native.Nat.{ℕ, ◌+◌, ◌-◌, ◌*◌, ◌≤◌, ◌<◌}
use native.Mathlib.Omega.{arith}
use lib.Dec.{eqb, ltb}
use borrow.Author.Tests.{eqb-true, eqb-false, ltb-true, ltb-false}
use Rattle.place_list.specs.Codes.{code_at}
use Rattle.place_list.specs.Search.{row_of, lasts, entry_of, looks, row_steps, row_for, code_steps, found_in, looked}
use Rattle.place_list.specs.Standing.{among, listed}
use Rattle.place_list.proofs.Entries.{Entry, among-behind, among-front, among-map, each-among, entry_listed, listed_entry}
use Rattle.place_list.proofs.Halves.{First, by_halves}
use Rattle.place_list.proofs.Rules.{not_falling, in_row, last_in_row, the_last_code}

-- the code at p is the first of all that is not below the place
record FirstOfAll (place p : ℕ) : Type 0 where
  inside : p < 1792
  before : (i : ℕ) → i < p → code_at i < place
  reached : place ≤ code_at p

-- where it is another than the place, the table does not have the place
first_decides : (place p : ℕ) → FirstOfAll place p → eqb (code_at p) place ≡ listed place
first_decides place p f = by (eqb (code_at p) place) refl (listed place) refl
  where
    other : eqb (code_at p) place ≡ false → Entry place → ⊥
    other e k = before_or_behind (ltb k.index p) refl
      where
        before_or_behind : (b : Bool) → ltb k.index p ≡ b → ⊥
        before_or_behind true l = omega (arith, f.before k.index (ltb-true k.index p l), k.here)
        before_or_behind false l =
            eqb-false (code_at p) place e (omega (arith, f.reached, not_falling p k.index (ltb-false k.index p l) k.within, k.here))

    by : (b : Bool) → eqb (code_at p) place ≡ b → (l : Bool) → listed place ≡ l → b ≡ l
    by true e l q = sym (entry_listed p f.inside) ∙ ap listed (eqb-true (code_at p) place e) ∙ q
    by false e true q = absurd (other e (listed_entry place q))
    by false e false q = refl

-- ---- the steps among the rows, and then in the row; what they look at is in a list

rows_rise : (i j : ℕ) → i ≤ j → j < 56 → entry_of lasts i ≤ entry_of lasts j
rows_rise i j h m =
    omega (arith, last_in_row i (omega (arith, h, m)), last_in_row j m, not_falling (32 * i + 31) (32 * j + 31) (omega (arith, h)) (omega (arith, m)))

row-rises : (row : ℕ) → row < 56 → (i j : ℕ) → i ≤ j → j < 31 → entry_of (row_of row) i ≤ entry_of (row_of row) j
row-rises row r i j h m =
    omega (arith, in_row row i (omega (arith, h, m)), in_row row j (omega (arith, m)), not_falling (32 * row + i) (32 * row + j) (omega (arith, h)) (omega (arith, m, r)))

row_steps_lem : (place : ℕ) → First (entry_of lasts) 56 place (λ k. among k (looks (entry_of lasts) place row_steps 0) ≡ true) (row_for place)
unfolding row_for
row_steps_lem place = by_halves (entry_of lasts) 56 place row_steps _ rows_rise refl (each-among (looks (entry_of lasts) place row_steps 0))

code_steps_lem : (place : ℕ) → row_for place < 56 → First (entry_of (row_of (row_for place))) 31 place (λ k. among k (looks (entry_of (row_of (row_for place))) place code_steps 0) ≡ true) (found_in (row_of (row_for place)) place)
unfolding found_in
code_steps_lem place h =
    let row = row_of (row_for place) in
    by_halves (entry_of row) 31 place code_steps _ (row-rises (row_for place) h) refl (each-among (looks (entry_of row) place code_steps 0))

-- behind all rows, the place is above every code ..
above_all : (place : ℕ) → row_for place ≡ 56 → code_at 1791 < place
above_all place e = omega (arith, (row_steps_lem place).before 55 (omega (arith, e)), last_in_row 55 (omega arith))

pub reaches_a_row : (place : ℕ) → place ≤ 4799999 → row_for place < 56
reaches_a_row place h = by (eqb (row_for place) 56) refl
  where
    by : (b : Bool) → eqb (row_for place) 56 ≡ b → row_for place < 56
    by true e = absurd (omega (arith, h, above_all place (eqb-true (row_for place) 56 e), the_last_code))
    by false e = omega (arith, (row_steps_lem place).inside, eqb-false (row_for place) 56 e)

-- .. and the table does not have it
pub behind-all : (place : ℕ) → row_for place ≡ 56 → false ≡ listed place
behind-all place e = by (listed place) refl
  where
    by : (b : Bool) → listed place ≡ b → false ≡ b
    by true q =
        let k = listed_entry place q in
        absurd (omega (arith, above_all place e, not_falling k.index 1791 (omega (arith, k.within)) (omega arith), k.here))
    by false q = refl

-- the first code that is not below the place, in the first row whose last is not, is the first of all
first_of_all : (place row k : ℕ) {SeenRow SeenCode : ℕ → Type 0} → row < 56 → First (entry_of lasts) 56 place SeenRow row → First (entry_of (row_of row)) 31 place SeenCode k → FirstOfAll place (32 * row + k)
first_of_all place row k h f g =
    record {
      inside = omega (arith, h, g.inside);
      before = λ i l. by i l (ltb i (32 * row)) refl;
      reached =
          ⊎_elim
          (λ e. omega (arith, row_reached, last_in_row row h, ap (λ (k : ℕ). code_at (32 * row + k)) e))
          (λ r. omega (arith, r.0, in_row row k (omega (arith, g.inside))))
          g.reached;
    }
  where
    row_reached : place ≤ entry_of lasts row
    row_reached = ⊎_elim (λ e. absurd (omega (arith, h, e))) (λ r. r.0) f.reached

    by : (i : ℕ) → i < 32 * row + k → (b : Bool) → ltb i (32 * row) ≡ b → code_at i < place
    by i l true e =
        let m : i < 32 * row = ltb-true i (32 * row) e in
        let r : row - 1 < row = omega (arith, m) in
        omega (arith, f.before (row - 1) r, last_in_row (row - 1) (omega (arith, r, h)), not_falling i (32 * (row - 1) + 31) (omega (arith, m)) (omega (arith, m, h)))
    by i l false e =
        let m : 32 * row ≤ i = ltb-false i (32 * row) e in
        let n : i - 32 * row < k = omega (arith, m, l) in
        let s : 32 * row + (i - 32 * row) ≡ i = omega (arith, m) in
        omega (arith, g.before (i - 32 * row) n, in_row row (i - 32 * row) (omega (arith, n, g.inside)), ap code_at s)

-- the code that the steps end at is the place exactly where the table has it
pub found : (place : ℕ) → row_for place < 56 → eqb (entry_of (row_of (row_for place)) (found_in (row_of (row_for place)) place)) place ≡ listed place
found place h =
    let row = row_for place in
    let k = found_in (row_of row) place in
    let g = code_steps_lem place h in
    ap (λ (code : ℕ). eqb code place) (in_row row k (omega (arith, g.inside)))
    ∙ first_decides place (32 * row + k) (first_of_all place row k h (row_steps_lem place) g)

-- ---- what is compared at last was looked at

-- .. in the row, or as the last of it among the rows
pub seen-at_last : (place : ℕ) → row_for place < 56 → among (32 * row_for place + found_in (row_of (row_for place)) place) (looked place) ≡ true
seen-at_last place h =
    let row = row_for place in
    let rows = looks (entry_of lasts) place row_steps 0 in
    let inner = looks (entry_of (row_of row)) place code_steps 0 in
    let ends : List ℕ = map (λ r. 32 * r + 31) rows in
    let starts : List ℕ = map (λ k. 32 * row + k) inner in
    ⊎_elim
    (λ e.
    subst (λ (k : ℕ). among (32 * row + k) (looked place) ≡ true) (sym e)
    (among-front (32 * row + 31) ends starts (among-map (λ r. 32 * r + 31) row rows (⊎_elim (λ q. absurd (omega (arith, h, q))) (λ r. r.1) (row_steps_lem place).reached))))
    (λ r. among-behind _ ends starts (among-map (λ k. 32 * row + k) (found_in (row_of row) place) inner r.1))
    (code_steps_lem place h).reached
