-- The parts of a packed record, one behind the other.
use mathlib.Core.Path.{◌≡◌, refl, sym, ap, ◌∙◌}
use Prim.Native.Nat.{ℕ, suc, ◌+◌, ◌-◌, ◌≤◌}
use native.Mathlib.Omega.{arith}
use mathlib.Core.List.{List, [], ◌∷◌, ◌++◌}
use lib.ListN.{length, get_or, set, take, drop, length-append, length-map, length-replicate, replicate}
use lib.Seq.{length-sets, sets, sets-eq, take-set-lt}
use borrow.Author.Tests.{eq-eqb, ne_eqb}
use Rattle.std.proofs.lemmas.List.{drop-replicate}
use Rattle.rows.specs.declared.fields.Fields.{Fields}
use Rattle.rows.specs.declared.fields.Spares.{Spares}
use Rattle.rows.specs.Values.{widths}
use Rattle.rows.specs.Runs.Fields.{fields_in}
use Rattle.report.specs.declared.record.Record.{Record}
use Rattle.report.specs.declared.body.Body.{Body}
use Rattle.report.specs.Categories.{layout, sides_of}
use Rattle.report.proofs.Categories.{sides_filled}
use Rattle.record_bytes.specs.Packed.{body_bytes, cells, head_bytes, packed, packed_into, sides_bytes, slots_bytes, zero_filled}
use Rattle.record_bytes.specs.Unpacked.{size}
use Rattle.lent.specs.Writing.{Wrote}
use Rattle.lent.proofs.Chains.{◌then◌, sets-sets, whole, wrote_length, wrote_within}
use Rattle.record_bytes.proofs.Cells.{cells_padded, length-cells}
use Rattle.record_bytes.proofs.FromBytes.Read.{fields_fit_lem, room}
use Rattle.record_bytes.proofs.ToBytes.EightBytes.{ZerosFrom, all-zeros, zeros-left}
use Rattle.record_bytes.proofs.ToBytes.Slots.{length_slots}

-- the bytes of a body: those of its fields, and zeros
sides_long : (b : Body) (z : Spares) → length (sides_bytes (layout b) (sides_of b z)) ≡ size (widths (layout b).front) + size (widths (layout b).behind)
sides_long b z =
    let l = layout b in
    let v = sides_of b z in
    let filled = sides_filled b z in
    length-append (cells (widths l.front) v.front) (cells (widths l.behind) v.behind)
    ∙ (λ i. length-cells (widths l.front) v.front (length-map l.front (λ r. r.width) ∙ sym filled.0) i
    + length-cells (widths l.behind) v.behind (length-map l.behind (λ r. r.width) ∙ sym filled.1) i)

sides_fit : (b : Body) (z : Spares) → length (sides_bytes (layout b) (sides_of b z)) ≤ 32
sides_fit b z = rw (sides_long b z) (fields_fit_lem b)

pub length_body : (b : Body) (z : Spares) → length (body_bytes b z) ≡ 32
length_body b z =
    let t : List ℕ = sides_bytes (layout b) (sides_of b z) in
    length-append t (replicate (32 - length t) 0) ∙ ap (λ (n : ℕ). length t + n) (length-replicate (32 - length t) 0) ∙ whole_of (length t) (sides_fit b z)
  where
    whole_of : (n : ℕ) → n ≤ 32 → n + (32 - n) ≡ 32
    whole_of n h = omega arith

-- what is put into 32 zeros
put_into_zeros : (t : List ℕ) → length t ≤ 32 → sets (replicate 32 0) 0 t ≡ zero_filled 32 t
put_into_zeros t h =
    let at : 0 + length t ≡ length t = omega arith in
    sets-eq t (replicate 32 0) 0 (omega (arith, h)) ∙ ap (λ (n : ℕ). t ++ drop n (replicate 32 0)) at ∙ ap (λ (z : List ℕ). t ++ z) (drop-replicate (length t) 32 0)

take-sets : (t l : List ℕ) (i n : ℕ) → i + length t ≤ n → take n (sets l i t) ≡ sets (take n l) i t
take-sets [] l i n h = refl
take-sets (v ∷ t) l i n h = take-sets t (set l i v) (suc i) n (omega arith) ∙ ap (λ (m : List ℕ). sets m (suc i) t) (take-set-lt n l i v (omega arith))

-- the bytes of fields as code hands them on, which have zeros behind them
module _ (b : Body) (z : Spares) (v : Fields) (e : v ≡ fields_in (layout b) (sides_of b z)) where
  own_cells : cells v.ahead v.front ++ cells v.after v.behind ≡ sides_bytes (layout b) (sides_of b z)
  own_cells =
      let l = layout b in
      let s = sides_of b z in
      let filled = sides_filled b z in
      ap (λ (f : Fields). cells f.ahead f.front ++ cells f.after f.behind) e
      ∙ (λ i. cells_padded (widths l.front) s.front (replicate (18 - length s.front) 0) (18 - length (widths l.front)) (length-map l.front (λ r. r.width) ∙ sym filled.0) i
      ++ cells_padded (widths l.behind) s.behind (replicate (3 - length s.behind) 0) (3 - length (widths l.behind)) (length-map l.behind (λ r. r.width) ∙ sym filled.1) i)

  -- put into zeros, of which there are eight more than are looked at
  module _ (mid : List ℕ) (middle : ℕ) (n : length v.ahead ≡ length v.front) (x : mid ≡ sets (replicate 40 0) 0 (cells v.ahead v.front)) (p : middle ≡ 0 + size v.ahead) where
    place : middle ≡ 0 + length (cells v.ahead v.front)
    place = omega (arith, length-cells v.ahead v.front n)

    pub room_behind : (middle + size v.after + 8 ≤ length mid) × ZerosFrom middle mid
    room_behind =
        let first : List ℕ = cells v.ahead v.front in
        let zeros : ZerosFrom (0 + length first) (sets (replicate 40 0) 0 first) = zeros-left first (replicate 40 0) 0 (λ i h. all-zeros 40 i) in
        (omega (arith, room b z v e, ap length x, length-sets (replicate 40 0) 0 first), λ i h. ap (λ (l : List ℕ). get_or l i 0) x ∙ zeros i (omega (arith, place)))

    pub own_put : (out : List ℕ) → out ≡ sets mid middle (cells v.after v.behind) → take 32 out ≡ body_bytes b z
    own_put out y =
        let t : List ℕ = sides_bytes (layout b) (sides_of b z) in
        let first : List ℕ = cells v.ahead v.front in
        let second : List ℕ = cells v.after v.behind in
        ap (take 32) (y ∙ (λ i. sets (x i) (place i) second) ∙ sets-sets first second (replicate 40 0) 0 ∙ ap (sets (replicate 40 0) 0) own_cells)
        ∙ take-sets t (replicate 40 0) 0 32 (omega (arith, sides_fit b z))
        ∙ put_into_zeros t (sides_fit b z)

module _ (r : Record) where
  -- bytes 0 to 40, and 0 to 232
  abbrev pub front : List ℕ
  front = head_bytes r ++ body_bytes r.body r.spares

  abbrev pub most : List ℕ
  most = front ++ slots_bytes r.slots

  pub length_front : length front ≡ 41
  length_front = length-append (head_bytes r) (body_bytes r.body r.spares) ∙ ap (λ (n : ℕ). 9 + n) (length_body r.body r.spares)

  pub length_most : length r.slots ≡ 16 → length most ≡ 233
  length_most n = length-append front (slots_bytes r.slots) ∙ rw (length_front, length_slots r.slots, n)

  pub length-packed : length r.slots ≡ 16 → length r.text ≡ 18 → length (packed r) ≡ 251
  unfolding packed
  length-packed n m = length-append most r.text ∙ rw (length_most n, m)

  -- behind the head and the body there is room for the slots
  pub room_for_slots : {l a b : List ℕ} {i j : ℕ} → length l ≡ 251 → Wrote l a 0 i (head_bytes r) → Wrote a b i j (body_bytes r.body r.spares) → j + 192 ≤ length b
  room_for_slots e x y = omega (arith, wrote_within {k = 41} (x then y) (omega (arith, length_front)), wrote_length (x then y), e)

  -- each part written where the one before it ends
  pub packed_in_parts : {l a b c d : List ℕ} {i j k n : ℕ} → length r.slots ≡ 16 → length r.text ≡ 18 → length l ≡ 251 → Wrote l a 0 i (head_bytes r)
      → Wrote a b i j (body_bytes r.body r.spares) → Wrote b c j k (slots_bytes r.slots) → Wrote c d k n r.text → d ≡ packed r
  unfolding packed
  packed_in_parts s t e x y z w = whole (length-packed s t ∙ sym e) (((x then y) then z) then w)

-- ---- by the length of the buffer

pub into_right : (r : Record) (l : List ℕ) → length l ≡ 251 → packed_into r l ≡ packed r
unfolding packed_into
into_right r l e = rw (eq-eqb _ 251 e)

pub into_wrong : (r : Record) (l : List ℕ) → (length l ≡ 251 → ⊥) → packed_into r l ≡ l
unfolding packed_into
into_wrong r l n = rw (ne_eqb _ 251 n)
