-- Values put as eight bytes each, one behind the other, into zeros.
use mathlib.Core.Path.{◌≡◌, refl, sym, ap, ◌∙◌}
use Prim.Native.Nat.{ℕ, zero, suc, ◌+◌, ◌-◌, ◌*◌, ◌%◌, ◌^◌, ◌≤◌, ◌<◌}
use Rattle.std.specs.Int.{to_be_bytes, w64}
use native.Mathlib.Nat.{div-one, mod-mod, mul-add, mul-mod_left}
use native.Mathlib.Numerals.{add-one}
use native.Mathlib.Omega.{arith}
use mathlib.Core.List.{List, [], ◌∷◌, ◌++◌}
use lib.ListN.{length, get_or, set, take, drop, replicate, length-append, length-replicate}
use lib.Pow.{mod-pow-add, shl-shr}
use lib.Seq.{sets, set-get_or, get_or-set_other, length-take-le}
use Rattle.bits.specs.Frame.{Bytes, number}
use Rattle.bits.proofs.Bytes.{number_append, number_inj}
use Rattle.lent.specs.Numbers.{wide}
use Rattle.lent.proofs.Chains.{sets-sets}
use Rattle.lent.proofs.Wide.{length-wide}
use Rattle.rows.specs.Runs.Fields.{bytes_for}
use Rattle.record_bytes.specs.Packed.{cells}
use Rattle.record_bytes.specs.Unpacked.{size}
use Rattle.record_bytes.proofs.Cells.{cells_end, cells_suc, length-cells, number-wide, size_split, wide-bytes}

-- nothing is behind the last byte
pub eight_bytes : (v : ℕ) → to_be_bytes w64 v ≡ wide 8 v
eight_bytes v = rw (div-one v)

-- ---- a value moved up has zeros behind its bytes

zeros-behind : (m : ℕ) (s : List ℕ) → Bytes s → Bytes (s ++ replicate m 0)
zeros-behind zero [] b i = omega arith
zeros-behind (suc m) [] b zero = omega arith
zeros-behind (suc m) [] b (suc i) = zeros-behind m [] b i
zeros-behind m (x ∷ s) b zero = b 0
zeros-behind m (x ∷ s) b (suc i) = zeros-behind m s (λ j. b (suc j)) i

number-zeros : (m : ℕ) → number (replicate m 0) ≡ 0
number-zeros zero = refl
number-zeros (suc m) = rw (number-zeros m) (omega arith)

mod_moved : (v j k : ℕ) → v * 2 ^ k % 2 ^ (j + k) ≡ v % 2 ^ j * 2 ^ k
mod_moved v j k = mod-pow-add (v * 2 ^ k) j k ∙ rw (shl-shr v k, mul-mod_left v (2 ^ k)) (omega arith)

wide-moved : (c m v : ℕ) → wide (c + m) (v * 2 ^ (8 * m) % 2 ^ (8 * (c + m))) ≡ wide c v ++ replicate m 0
wide-moved c m v =
    let x : ℕ = v * 2 ^ (8 * m) in
    let left : number (wide (c + m) (x % 2 ^ (8 * (c + m)))) ≡ v % 2 ^ (8 * c) * 2 ^ (8 * m) =
    number-wide (c + m) (x % 2 ^ (8 * (c + m)))
    ∙ mod-mod x (2 ^ (8 * (c + m)))
    ∙ ap (λ (k : ℕ). x % 2 ^ k) (mul-add 8 c m)
    ∙ mod_moved v (8 * c) (8 * m)
    in
    let right : number (wide c v ++ replicate m 0) ≡ v % 2 ^ (8 * c) * 2 ^ (8 * m) =
    number_append (wide c v) (replicate m 0)
    ∙ rw (length-replicate {A = ℕ} m 0, number-zeros m, number-wide c v) (omega arith)
    in
    number_inj _ _
    (length-wide (c + m) _ ∙ sym (length-append (wide c v) (replicate m 0) ∙ rw (length-wide c v, length-replicate {A = ℕ} m 0)))
    (wide-bytes (c + m) _) (zeros-behind m (wide c v) (wide-bytes c v))
    (left ∙ sym right)

-- ---- zeros put on zeros

abbrev pub ZerosFrom : ℕ → List ℕ → Type 0
ZerosFrom at l = (i : ℕ) → at ≤ i → get_or l i 0 ≡ 0

pub all-zeros : (n i : ℕ) → ◌≡◌ {A = ℕ} (get_or (replicate n 0) i 0) 0
all-zeros zero i = refl
all-zeros (suc n) zero = refl
all-zeros (suc n) (suc i) = all-zeros n i

zeros_put : (m : ℕ) (l : List ℕ) (at : ℕ) → ZerosFrom at l → sets l at (replicate m 0) ≡ l
zeros_put zero l at z = refl
zeros_put (suc m) l at z =
    ap (λ (r : List ℕ). sets r (suc at) (replicate m 0)) (ap (set l at) (sym (z at (omega arith))) ∙ set-get_or l at 0)
    ∙ zeros_put m l (suc at) (λ i h. z i (omega arith))

behind_same : (t l : List ℕ) (at i : ℕ) → at + length t ≤ i → get_or (sets l at t) i 0 ≡ get_or l i 0
behind_same [] l at i h = refl
behind_same (v ∷ t) l at i h = behind_same t (set l at v) (suc at) i (omega arith) ∙ get_or-set_other l at i v 0 (λ e. omega arith)

pub zeros-left : (t l : List ℕ) (at : ℕ) → ZerosFrom at l → ZerosFrom (at + length t) (sets l at t)
zeros-left t l at z i h = behind_same t l at i h ∙ z i (omega arith)

-- ---- one value more

-- of the eight bytes those that the value has not are zeros, as they were
cell_put : (l : List ℕ) (at c v : ℕ) → c ≤ 8 → ZerosFrom at l → sets l at (wide 8 (v * 2 ^ (64 - 8 * c) % 2 ^ 64)) ≡ sets l at (wide c v)
cell_put l at c v h z = in_zeros (8 - c) (omega arith) (omega arith)
  where
    in_zeros : (m : ℕ) → c + m ≡ 8 → 64 - 8 * c ≡ 8 * m → sets l at (wide 8 (v * 2 ^ (64 - 8 * c) % 2 ^ 64)) ≡ sets l at (wide c v)
    in_zeros m e f =
        ap (λ (k : ℕ). sets l at (wide 8 (v * 2 ^ k % 2 ^ 64))) f
        ∙ ap (λ (n : ℕ). sets l at (wide n (v * 2 ^ (8 * m) % 2 ^ (8 * n)))) (sym e)
        ∙ ap (sets l at) (wide-moved c m v)
        ∙ sym (sets-sets (wide c v) (replicate m 0) l at)
        ∙ zeros_put m (sets l at (wide c v)) (at + length (wide c v)) (zeros-left (wide c v) l at z)

-- a value for each width, and zeros to put them on
module _ (ws vs : List ℕ) (each : length ws ≡ length vs) (l : List ℕ) (at : ℕ) (blank : ZerosFrom at l) where
  -- the first k of them put
  abbrev pub PutUpTo : ℕ → List ℕ → Type 0
  PutUpTo k m = m ≡ sets l at (cells (take k ws) (take k vs))

  length-first : (k : ℕ) → k ≤ length ws → length (cells (take k ws) (take k vs)) ≡ size (take k ws)
  length-first k h = length-cells (take k ws) (take k vs) (length-take-le k ws h ∙ sym (length-take-le k vs (omega arith)))

  pub cell_more : {m r : List ℕ} {c : ℕ} (k : ℕ) → k < length ws → c ≤ 8 → c ≡ bytes_for (get_or ws k 0) → PutUpTo k m
      → r ≡ sets m (at + size (take k ws)) (wide 8 (get_or vs k 0 * 2 ^ (64 - 8 * c) % 2 ^ 64)) → PutUpTo (k + 1) r
  cell_more {m} {r} {c} k h s e x y =
      let t : List ℕ = cells (take k ws) (take k vs) in
      let v : ℕ = get_or vs k 0 in
      let long : length t ≡ size (take k ws) = length-first k (omega arith) in
      y
      ∙ ap (λ (d : List ℕ). sets d (at + size (take k ws)) (wide 8 (v * 2 ^ (64 - 8 * c) % 2 ^ 64))) x
      ∙ ap (λ (n : ℕ). sets (sets l at t) (at + n) (wide 8 (v * 2 ^ (64 - 8 * c) % 2 ^ 64))) (sym long)
      ∙ cell_put (sets l at t) (at + length t) c v s (zeros-left t l at blank)
      ∙ ap (λ (n : ℕ). sets (sets l at t) (at + length t) (wide n v)) e
      ∙ sets-sets t (wide (bytes_for (get_or ws k 0)) v) l at
      ∙ ap (sets l at) (sym (cells_suc ws vs k h (omega arith)) ∙ ap (λ (n : ℕ). cells (take n ws) (take n vs)) (sym (add-one k)))

  -- where no byte is left to put, all are put
  pub cells_put : {m : List ℕ} {next : ℕ} (k : ℕ) → size (drop k ws) ≡ 0 → PutUpTo k m → next ≡ at + size (take k ws) → (next ≡ at + size ws) × (m ≡ sets l at (cells ws vs))
  cells_put k e x p = (omega (arith, size_split ws k), x ∙ ap (sets l at) (cells_end ws vs k each e))
