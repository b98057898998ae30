-- What a body and its spares are read from: the numbers in their bytes, each as its field keeps it.
use mathlib.Core.Path.{◌≡◌, refl, sym, ap, subst, ◌∙◌}
use Prim.Native.Nat.{ℕ, zero, suc, ◌+◌, ◌-◌, ◌*◌, ◌%◌, ◌^◌, ◌≤◌}
use native.Mathlib.Nat.{mod-eq_of_lt}
use native.Mathlib.Numerals.{add-one}
use native.Mathlib.Omega.{arith}
use mathlib.Core.Bool.{Bool, true, cond, ◌&&◌}
use mathlib.Core.List.{List, [], ◌∷◌, ◌++◌}
use lib.Dec.{leb, ltb}
use lib.ListN.{length, length-map, get_or, get_or-append, drop, replicate}
use lib.Seq.{drop-drop, get_or-drop}
use borrow.Author.Tests.{leb-true, ltb-true}
use Rattle.bits.specs.Frame.{Bytes}
use Rattle.rows.specs.Layout.{Layout, Row}
use Rattle.rows.specs.declared.fields.Spares.{Spares}
use Rattle.rows.specs.Values.{Sides, filled, is_spare, spare_among, spares_from, widths}
use Rattle.rows.specs.Runs.Fields.{bytes_for, fields_in, kept_from, kept_in}
use Rattle.rows.specs.declared.fields.Fields.{Fields}
use Rattle.rows.proofs.Rules.Outcomes.{and_both}
use Rattle.report.specs.declared.body.Body.{Body}
use Rattle.report.specs.Categories.{body_from, layout, sides_of}
use Rattle.report.proofs.Categories.{all, layouts, listed, made_alike, same_body}
use Rattle.record_bytes.specs.Unpacked.{body_in_bytes, both_in_bytes, cells_at, sides_in_bytes, size, spares_in_bytes}
use Rattle.report.specs.Runs.Told.{with_spares}
use Rattle.record_bytes.proofs.Cells.{FitBytes, cells_append, cells_fit, length-cells-at, size_padded}

-- computed of all tables: the fields have room in bytes 9 to 40
abbrev fields_fit : Layout → Bool
fields_fit l = leb (size (widths l.front) + size (widths l.behind)) 32

all_fit : all fields_fit layouts ≡ true
all_fit = refl

pub fields_fit_lem : (b : Body) → size (widths (layout b).front) + size (widths (layout b).behind) ≤ 32
fields_fit_lem b = leb-true _ 32 (listed fields_fit all_fit b)

-- a number that fits its bytes is kept
kept_same : (rs : List Row) (vs us more : List ℕ) (k : ℕ) → drop k vs ≡ us ++ more → FitBytes (widths rs) us → kept_from rs vs k ≡ us
kept_same [] vs [] more k e h = refl
kept_same [] vs (u ∷ us) more k e h = absurd h
kept_same (r ∷ rs) vs [] more k e h = absurd h
kept_same (r ∷ rs) vs (u ∷ us) more k e h =
    let here : get_or vs k 0 ≡ u = ap (λ (j : ℕ). get_or vs j 0) (zeros k) ∙ sym (get_or-drop k vs 0 0) ∙ ap (λ (l : List ℕ). get_or l 0 0) e in
    let rest : drop (suc k) vs ≡ us ++ more = ap (λ (j : ℕ). drop j vs) (sym (add-one k)) ∙ sym (drop-drop 1 k vs) ∙ ap (drop 1) e in
    let kept : get_or vs k 0 % 2 ^ (8 * bytes_for r.width) ≡ u = ap (λ (x : ℕ). x % 2 ^ (8 * bytes_for r.width)) here ∙ mod-eq_of_lt h.0 in
    λ i. kept i ∷ kept_same rs vs us more (suc k) rest h.1 i
  where
    zeros : (a : ℕ) → a ≡ a + 0
    zeros a = omega arith

-- more numbers behind those of the rows
spare_before : (rs : List Row) (us more : List ℕ) (k : ℕ) → k + length rs ≤ length us → spare_among rs (us ++ more) k ≡ spare_among rs us k
spare_before [] us more k h = refl
spare_before (r ∷ rs) us more k h = λ i. cond (is_spare r.rule) (get_or-append us more 0 k (omega arith) i) (spare_before rs us more (suc k) (omega arith) i)

module _ (l : List ℕ) (bytes : Bytes l) where
  kept_cells : (rs : List Row) (k n : ℕ) → k + size (widths rs) ≤ length l → kept_from rs (cells_at l k (widths rs ++ replicate n 0)) 0 ≡ cells_at l k (widths rs)
  kept_cells rs k n h = kept_same rs _ (cells_at l k (widths rs)) _ 0 (cells_append l k (widths rs) (replicate n 0)) (cells_fit l k (widths rs) bytes h)

  kept_sides : (t : Layout) (front behind : List ℕ) (at : ℕ) → 9 + (size (widths t.front) + size (widths t.behind)) ≤ length l
      → front ≡ cells_at l 9 (filled 18 (widths t.front)) → at ≡ 9 + size (filled 18 (widths t.front)) → behind ≡ cells_at l at (filled 3 (widths t.behind))
      → kept_in front behind t ≡ sides_in_bytes l t
  kept_sides t front behind at h f p b =
      let here : at ≡ 9 + size (widths t.front) = p ∙ ap (λ (n : ℕ). 9 + n) (size_padded (widths t.front) (18 - length (widths t.front))) in
      let first : kept_from t.front front 0 ≡ cells_at l 9 (widths t.front) =
      ap (λ (vs : List ℕ). kept_from t.front vs 0) f ∙ kept_cells t.front 9 (18 - length (widths t.front)) (omega arith)
      in
      let last : kept_from t.behind behind 0 ≡ cells_at l (9 + size (widths t.front)) (widths t.behind) =
      ap (λ (vs : List ℕ). kept_from t.behind vs 0) (b ∙ ap (λ (k : ℕ). cells_at l k (filled 3 (widths t.behind))) here)
      ∙ kept_cells t.behind (9 + size (widths t.front)) (3 - length (widths t.behind)) (omega arith)
      in
      λ i. record { front = first i; behind = last i }

  -- a spare stands among the numbers of its rows, whatever is behind them
  spare_among_lem : (rs : List Row) (k n : ℕ) → spare_among rs (cells_at l k (widths rs ++ replicate n 0)) 0 ≡ spare_among rs (cells_at l k (widths rs)) 0
  spare_among_lem rs k n =
      ap (λ (vs : List ℕ). spare_among rs vs 0) (cells_append l k (widths rs) (replicate n 0))
      ∙ spare_before rs (cells_at l k (widths rs)) _ 0 (omega (arith, length-map rs (λ (r : Row). r.width), length-cells-at l k (widths rs)))

  spares_read : (t : Layout) (front behind : List ℕ) (at : ℕ)
      → front ≡ cells_at l 9 (filled 18 (widths t.front)) → at ≡ 9 + size (filled 18 (widths t.front)) → behind ≡ cells_at l at (filled 3 (widths t.behind))
      → spares_from t (record { front = front; behind = behind }) ≡ spares_from t (sides_in_bytes l t)
  spares_read t front behind at f p b =
      let first = ap (λ (vs : List ℕ). spare_among t.front vs 0) f ∙ spare_among_lem t.front 9 (18 - length (widths t.front)) in
      let second = ap (λ (vs : List ℕ). spare_among t.behind vs 0) (b ∙ ap (λ (k : ℕ). cells_at l k (filled 3 (widths t.behind))) (p ∙ ap (λ (n : ℕ). 9 + n) (size_padded (widths t.front) (18 - length (widths t.front)))))
      ∙ spare_among_lem t.behind (9 + size (widths t.front)) (3 - length (widths t.behind)) in
      λ i. record { first = first i; second = second i }

  -- the body that is made from what is read where the table of a blank body of its code says so
  pub body_read : (dc : ℕ) (none : Layout → Sides) (blank : Body) (z : Spares) (v : Fields) (front behind : List ℕ) (at : ℕ) → length l ≡ 251 → dc ≡ get_or l 0 0
      → blank ≡ body_from none dc → v ≡ fields_in (layout blank) (sides_of blank z)
      → front ≡ cells_at l 9 v.ahead → at ≡ 9 + size v.ahead → behind ≡ cells_at l at v.after
      → with_spares front behind (body_from (kept_in front behind) dc) ≡ both_in_bytes l
  body_read dc none blank z v front behind at long e q w f p b =
      let kept : Layout → Sides = kept_in front behind in
      let t : Layout = layout blank in
      let alike : t ≡ layout (body_from kept dc) = ap layout q ∙ made_alike none kept dc in
      let ahead : front ≡ cells_at l 9 (filled 18 (widths t.front)) = f ∙ ap (λ (x : Fields). cells_at l 9 x.ahead) w in
      let middle : at ≡ 9 + size (filled 18 (widths t.front)) = p ∙ ap (λ (x : Fields). 9 + size x.ahead) w in
      let after : behind ≡ cells_at l at (filled 3 (widths t.behind)) = b ∙ ap (λ (x : Fields). cells_at l at x.after) w in
      let same : kept t ≡ sides_in_bytes l t = kept_sides t front behind at (omega (arith, fields_fit_lem blank)) ahead middle after in
      let body : body_from kept dc ≡ body_in_bytes l =
      same_body kept (sides_in_bytes l) dc (ap kept (sym alike) ∙ same ∙ ap (sides_in_bytes l) alike) ∙ ap (body_from (sides_in_bytes l)) e
      in
      let table : layout (body_in_bytes l) ≡ t = sym (ap layout body) ∙ sym alike in
      let spares : spares_from (layout (body_in_bytes l)) (record { front = front; behind = behind }) ≡ spares_in_bytes l (body_in_bytes l) =
      ap (λ (x : Layout). spares_from x (record { front = front; behind = behind })) table
      ∙ spares_read t front behind at ahead middle after
      ∙ ap (λ (x : Layout). spares_from x (sides_in_bytes l x)) (sym table)
      in
      ap (with_spares front behind) body ∙ (λ i. record { body = body_in_bytes l; spares = spares i })

-- there is room for what is read
pub room : (b : Body) (z : Spares) (v : Fields) → v ≡ fields_in (layout b) (sides_of b z) → size v.ahead + size v.after ≤ 32
room b z v e =
    let same : size v.ahead + size v.after ≡ size (widths (layout b).front) + size (widths (layout b).behind) =
    ap (λ (x : Fields). size x.ahead + size x.after) e ∙ (λ i. size_padded (widths (layout b).front) (18 - length (widths (layout b).front)) i + size_padded (widths (layout b).behind) (3 - length (widths (layout b).behind)) i)
    in
    rw same (fields_fit_lem b)

-- ---- a field without bytes has none behind it

abbrev have_bytes : List Row → Bool
have_bytes [] = true
have_bytes (r ∷ rs) = ltb 0 (bytes_for r.width) && have_bytes rs

-- computed of all tables
abbrev fields_have_bytes : Layout → Bool
fields_have_bytes l = have_bytes l.front && have_bytes l.behind

all_have_bytes : all fields_have_bytes layouts ≡ true
all_have_bytes = refl

abbrev EndsAtZero : List ℕ → Type 0
EndsAtZero ws = (k : ℕ) → bytes_for (get_or ws k 0) ≡ 0 → size (drop k ws) ≡ 0

zeros_end : (n : ℕ) → EndsAtZero (replicate n 0)
zeros_end zero zero e = refl
zeros_end zero (suc k) e = refl
zeros_end (suc n) zero e = size_padded [] (suc n)
zeros_end (suc n) (suc k) e = zeros_end n k e

rows_end : (rs : List Row) (n : ℕ) → have_bytes rs ≡ true → EndsAtZero (widths rs ++ replicate n 0)
rows_end [] n h k e = zeros_end n k e
rows_end (r ∷ rs) n h zero e = absurd (omega (arith, e, ltb-true 0 (bytes_for r.width) (and_both _ (have_bytes rs) h).0))
rows_end (r ∷ rs) n h (suc k) e = rows_end rs n (and_both (ltb 0 (bytes_for r.width)) (have_bytes rs) h).1 k e

pub fields_end : (b : Body) (z : Spares) (v : Fields) → v ≡ fields_in (layout b) (sides_of b z) → EndsAtZero v.ahead × EndsAtZero v.after
fields_end b z v e =
    let h = and_both (have_bytes (layout b).front) (have_bytes (layout b).behind) (listed fields_have_bytes all_have_bytes b) in
    subst (λ (x : Fields). EndsAtZero x.ahead × EndsAtZero x.after) (sym e) (rows_end (layout b).front (18 - length (widths (layout b).front)) h.0, rows_end (layout b).behind (3 - length (widths (layout b).behind)) h.1)
