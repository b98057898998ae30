-- The bytes of a body that was read are those that it was read from, up to its last field, and zeros behind it: so something is
-- stray where one of the bytes behind it is no zero.
use mathlib.Core.Path.{◌≡◌, refl, sym, ap, ◌∙◌}
use mathlib.Core.Bool.{Bool, true, false, cond}
use mathlib.Core.List.{List, [], ◌∷◌, ◌++◌, append_assoc}
use Prim.Native.Nat.{ℕ, zero, suc, ◌+◌, ◌-◌, ◌*◌, ◌%◌, ◌^◌, ◌≤◌}
use native.Mathlib.Nat.{zero-div}
use native.Mathlib.Omega.{arith}
use lib.Dec.{eqb}
use lib.Pointwise.{pointwise}
use borrow.Author.Tests.{eq-eqb}
use lib.ListN.{length, get_or, take, drop, replicate, length-append, length-drop, length-map, length-replicate, replicate-append-replicate}
use lib.Seq.{drop_at, drop-drop, length-take-le, slice, take-add, take_all}
use Rattle.bits.specs.Frame.{Bytes}
use Rattle.lent.specs.Numbers.{wide}
use Rattle.rows.specs.Layout.{Layout, Row}
use Rattle.rows.specs.Values.{Sides, each, same_bytes, widths}
use Rattle.rows.proofs.Rules.Tests.{equal_bytes}
use Rattle.std.proofs.lemmas.List.{drop-replicate, take-replicate}
use Rattle.rows.specs.declared.fields.Spares.{Spares}
use Rattle.rows.specs.declared.fields.Fields.{Fields}
use Rattle.rows.specs.Runs.Fields.{bytes_for, fields_in}
use Rattle.report.specs.declared.body.Body.{Body}
use Rattle.report.specs.Categories.{body_from, layout, sides_of}
use Rattle.report.proofs.Categories.{made_alike, values_again}
use Rattle.record_bytes.specs.Packed.{body_bytes, cells, zero_filled}
use Rattle.record_bytes.specs.Unpacked.{body_in_bytes, cells_at, sides_in_bytes, size, spares_in_bytes}
use Rattle.record_bytes.proofs.Cells.{cells_again, length-cells-at, size_padded}
use Rattle.record_bytes.proofs.FromBytes.Places.{first-bytes}
use Rattle.record_bytes.proofs.FromBytes.Read.{fields_fit_lem}

fields_at : (l : List ℕ) (n : ℕ) → 9 ≤ length l → take n (drop 9 l) ≡ slice 9 (9 + n) l
fields_at l n h = sym (ap (drop 9) (take-add 9 n l) ∙ drop_at (take 9 l) (take n (drop 9 l)) 9 (length-take-le 9 l h))

-- ---- what stands behind the fields

-- what is the same in front is not asked for
same_behind : (a p q : List ℕ) → pointwise eqb p q ≡ same_bytes (a ++ p) (a ++ q)
unfolding same_bytes
same_behind [] p q = equal_bytes p q
same_behind (x ∷ a) p q = same_behind a p q ∙ sym (rw (eq-eqb x x refl))

-- bytes 9 to 40 are those of fields of n bytes, where the m bytes behind them are zeros
behind_fields : (l : List ℕ) (n m : ℕ) → length l ≡ 251 → n + m ≡ 32
    → pointwise eqb (take m (drop (9 + n) l)) (replicate m 0) ≡ same_bytes (take 32 (drop 9 l)) (zero_filled 32 (slice 9 (9 + n) l))
behind_fields l n m long all =
    let own : List ℕ = take n (drop 9 l) in
    let own_long : length own ≡ n = length-take-le n (drop 9 l) (rw (length-drop 9 l) (omega arith)) in
    let whole : own ++ take m (drop (9 + n) l) ≡ take 32 (drop 9 l) =
    ap (λ (t : List ℕ). own ++ take m t) (sym (drop-drop n 9 l)) ∙ sym (take-add n m (drop 9 l)) ∙ ap (λ (k : ℕ). take k (drop 9 l)) all
    in
    let left : m ≡ 32 - length own = omega arith in
    same_behind own (take m (drop (9 + n) l)) (replicate m 0)
    ∙ (λ i. same_bytes (whole i) (own ++ replicate (left i) 0))
    ∙ ap (λ (t : List ℕ). same_bytes (take 32 (drop 9 l)) (zero_filled 32 t)) (fields_at l n (omega arith))

zeros_left : (k n m : ℕ) → n + m ≡ k → ◌≡◌ {A = List ℕ} (take (k - n) (drop n (replicate k 0))) (replicate m 0)
zeros_left k n m e =
    let left : k - n ≡ m = omega arith in
    rw (drop-replicate {X = ℕ} n k 0, left) (take-replicate m m 0 (omega arith))

pub zeros_behind : (l : List ℕ) (end : ℕ) → length l ≡ 251 → 9 ≤ end → end ≤ 41
    → pointwise eqb (take (41 - end) (drop end l)) (take (32 - (end - 9)) (drop (end - 9) (replicate 32 0))) ≡ same_bytes (take 32 (drop 9 l)) (zero_filled 32 (slice 9 end l))
zeros_behind l end long from to =
    let place : 9 + (end - 9) ≡ end = omega arith in
    let zeros = zeros_left 32 (end - 9) (41 - end) (omega arith) in
    ap (pointwise eqb (take (41 - end) (drop end l))) zeros ∙ (rw place at (behind_fields l (end - 9) (41 - end) long (omega arith)))

-- ---- the bytes of the body that was read

all_of : (rs : List Row) (vs : List ℕ) → length vs ≡ length (widths rs) → each (length rs) (λ i. get_or vs i 0) ≡ vs
all_of rs vs e =
    let n : length vs ≡ length rs = e ∙ length-map rs (λ (r : Row). r.width) in
    first-bytes (length rs) vs (omega arith) ∙ take_all (length rs) vs (omega arith)

-- zeros in their bytes
wide_zero : (n : ℕ) → wide n 0 ≡ replicate n 0
wide_zero zero = refl
wide_zero (suc n) = λ i. (ap (λ (x : ℕ). x % 256) (zero-div (2 ^ (8 * n)))) i ∷ wide_zero n i

cells_zero : (rs : List Row) → cells (widths rs) (each (length rs) (λ _. 0)) ≡ replicate (size (widths rs)) 0
unfolding cells
cells_zero [] = refl
cells_zero (r ∷ rs) = (λ i. wide_zero (bytes_for r.width) i ++ cells_zero rs i) ∙ replicate-append-replicate (bytes_for r.width) (size (widths rs)) 0

-- more zeros behind
filled_zero : (t : List ℕ) (m : ℕ) → length t + m ≤ 32 → zero_filled 32 (t ++ replicate m 0) ≡ zero_filled 32 t
filled_zero t m h =
    append_assoc t (replicate m 0) (replicate (32 - length (t ++ replicate m 0)) 0)
    ∙ ap (λ (s : List ℕ). t ++ s) (replicate-append-replicate m (32 - length (t ++ replicate m 0)) 0)
    ∙ ap (λ (k : ℕ). t ++ replicate k 0) (left _ _ m (length-append t (replicate m 0)) (length-replicate m 0) h)
  where
    left : (a n m : ℕ) {z : ℕ} → a ≡ n + z → z ≡ m → n + m ≤ 32 → m + (32 - a) ≡ 32 - n
    left a n m e f h = omega arith

module _ (l : List ℕ) (bytes : Bytes l) (long : length l ≡ 251) where
  rows_again : (rs : List Row) (k : ℕ) → k + size (widths rs) ≤ 251 → cells (widths rs) (each (length rs) (λ i. get_or (cells_at l k (widths rs)) i 0)) ≡ take (size (widths rs)) (drop k l)
  rows_again rs k h = ap (cells (widths rs)) (all_of rs _ (length-cells-at l k (widths rs))) ∙ cells_again l k (widths rs) bytes (omega arith)

  -- of a table, without the values behind the slots where there is no category
  table_again : (t : Layout) (none : Bool) → size (widths t.front) + size (widths t.behind) ≤ 32
      → zero_filled 32 (cells (widths t.front) (each (length t.front) (λ i. get_or (sides_in_bytes l t).front i 0)) ++ cells (widths t.behind) (each (length t.behind) (λ i. cond none 0 (get_or (sides_in_bytes l t).behind i 0))))
      ≡ zero_filled 32 (slice 9 (cond none (9 + size (widths t.front)) (9 + (size (widths t.front) + size (widths t.behind)))) l)
  table_again t true h =
      let n : ℕ = size (widths t.front) in
      let m : ℕ = size (widths t.behind) in
      let first : length (take n (drop 9 l)) ≡ n = length-take-le n (drop 9 l) (rw (length-drop 9 l) (omega arith)) in
      (λ i. zero_filled 32 (rows_again t.front 9 (omega arith) i ++ cells_zero t.behind i))
      ∙ filled_zero (take n (drop 9 l)) m (omega arith)
      ∙ ap (zero_filled 32) (fields_at l n (omega arith))
  table_again t false h =
      let n : ℕ = size (widths t.front) in
      let m : ℕ = size (widths t.behind) in
      (λ i. zero_filled 32 (rows_again t.front 9 (omega arith) i ++ rows_again t.behind (9 + n) (omega arith) i))
      ∙ ap (λ (s : List ℕ). zero_filled 32 (take n (drop 9 l) ++ take m s)) (sym (drop-drop n 9 l))
      ∙ ap (zero_filled 32) (sym (take-add n m (drop 9 l)) ∙ fields_at l (n + m) (omega arith))

  body_bytes_lem : let b = body_in_bytes l in let t = layout b in
      body_bytes b (spares_in_bytes l b) ≡ zero_filled 32 (slice 9 (cond (eqb t.code 0) (9 + size (widths t.front)) (9 + (size (widths t.front) + size (widths t.behind)))) l)
  body_bytes_lem =
      let t : Layout = layout (body_in_bytes l) in
      ap (λ (v : Sides). zero_filled 32 (cells (widths t.front) v.front ++ cells (widths t.behind) v.behind)) (values_again (sides_in_bytes l) (get_or l 0 0))
      ∙ table_again t (eqb t.code 0) (fields_fit_lem (body_in_bytes l))

  -- where the table of a blank body of the category's code says so
  pub body_ends : (none : Layout → Sides) (blank : Body) (z : Spares) (v : Fields) (at last end : ℕ) → blank ≡ body_from none (get_or l 0 0) → v ≡ fields_in (layout blank) (sides_of blank z)
      → at ≡ 9 + size v.ahead → last ≡ at + size v.after → end ≡ cond (eqb v.table.code 0) at last
      → (9 ≤ end) × ((end ≤ 41) × (body_bytes (body_in_bytes l) (spares_in_bytes l (body_in_bytes l)) ≡ zero_filled 32 (slice 9 end l)))
  body_ends none blank z v at last end q w p r e =
      let t : Layout = layout (body_in_bytes l) in
      let n : ℕ = size (widths t.front) in
      let m : ℕ = size (widths t.behind) in
      let alike : layout blank ≡ t = ap layout q ∙ made_alike none (sides_in_bytes l) (get_or l 0 0) in
      let own : v ≡ fields_in t (sides_of blank z) = w ∙ ap (λ (x : Layout). fields_in x (sides_of blank z)) alike in
      let ahead : size v.ahead ≡ n = ap (λ (x : Fields). size x.ahead) own ∙ size_padded (widths t.front) (18 - length (widths t.front)) in
      let after : size v.after ≡ m = ap (λ (x : Fields). size x.after) own ∙ size_padded (widths t.behind) (3 - length (widths t.behind)) in
      let middle : at ≡ 9 + n = p ∙ ap (λ (k : ℕ). 9 + k) ahead in
      let back : last ≡ 9 + (n + m) = omega arith in
      let place : end ≡ cond (eqb t.code 0) (9 + n) (9 + (n + m)) = e ∙ (λ i. cond (eqb (own i).table.code 0) (middle i) (back i)) in
      let within = between (eqb t.code 0) n m (fields_fit_lem (body_in_bytes l)) in
      (rw place within.0, (rw place within.1, body_bytes_lem ∙ ap (λ (k : ℕ). zero_filled 32 (slice 9 k l)) (sym place)))
    where
      between : (b : Bool) (n m : ℕ) → n + m ≤ 32 → (9 ≤ cond b (9 + n) (9 + (n + m))) × (cond b (9 + n) (9 + (n + m)) ≤ 41)
      between true n m h = (omega arith, omega arith)
      between false n m h = (omega arith, omega arith)
