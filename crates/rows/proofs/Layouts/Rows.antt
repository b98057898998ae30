-- Rows that tile are a layout: their fields are what `decode` finds.
use native.Mathlib.Nat.{mul-zero, mul-suc}
use mathlib.Core.Path.{◌≡◌, refl, ap, ap₂, sym, ◌∙◌}
use mathlib.Core.Bool.{true}
use Prim.Native.Nat.{ℕ, ◌+◌, ◌-◌, ◌*◌, ◌/◌, ◌^◌, zero, suc}
use native.Mathlib.Omega.{arith}
use mathlib.Core.List.{List, [], ◌∷◌, map, map-append, ◌++◌}
use lib.Dec.{eqb}
use lib.Pow.{shr-shr}
use borrow.Author.Tests.{eqb-true}
use Rattle.bits.specs.Layout.{total, decode}
use Rattle.bits.specs.Frame.{number}
use Rattle.rows.specs.Layout.{Row, Layout, slot_rows, slots_rows, all_rows, tiles, Slots}
use Rattle.rows.specs.Values.{each, cut, values_of, joined, flat, widths}
use Rattle.rows.proofs.Rules.Outcomes.{and_both}

pub tiled_total : (a : ℕ) (rs : List Row) → tiles a 226 rs ≡ true → a + total (widths rs) ≡ 226
tiled_total a [] t = omega (arith, eqb-true a 226 t)
tiled_total a (r ∷ rs) t = omega (arith, tiled_total (a + r.width) rs (and_both (eqb r.first a) _ t).1)

pub tiled : (s : List ℕ) (a : ℕ) (rs : List Row) → tiles a 226 rs ≡ true → decode (widths rs) (number s / 2 ^ 30) ≡ map (cut s) rs
tiled s a [] t = refl
tiled s a (r ∷ rs) t =
    let q = and_both (eqb r.first a) (tiles (a + r.width) 226 rs) t in
    let f : r.first ≡ a = eqb-true r.first a q.0 in
    let e : 256 - (r.first + r.width) ≡ 30 + total (widths rs) = omega (arith, tiled_total (a + r.width) rs q.1) in
    rw (shr-shr (number s) 30 (total (widths rs)), e, tiled s (a + r.width) rs q.1)

each_same : {A : Type 0} (n : ℕ) (f g : ℕ → A) → ((i : ℕ) → f i ≡ g i) → each n f ≡ each n g
each_same zero f g h = refl
each_same (suc n) f g h = ap₂ (λ x y. x ∷ y) (h 0) (each_same n (λ i. f (suc i)) (λ i. g (suc i)) (λ i. h (suc i)))

slots_flat : (s : List ℕ) (k : Slots) (n a : ℕ)
    → joined (each n (λ i. map (cut s) (slot_rows k (a + k.bits * i)))) ≡ map (cut s) (slots_rows k n a)
slots_flat s k zero a = refl
slots_flat s k (suc n) a =
    let start : a + k.bits * 0 ≡ a = omega (arith, mul-zero k.bits) in
    let parts : map (cut s) (slot_rows k a ++ slots_rows k n (a + k.bits)) ≡ map (cut s) (slot_rows k a) ++ map (cut s) (slots_rows k n (a + k.bits)) = simp map-append in
    ap₂ (λ (x y : List ℕ). x ++ y) (ap (λ (b : ℕ). map (cut s) (slot_rows k b)) start)
    (ap joined (each_same n _ (λ i. map (cut s) (slot_rows k (a + k.bits + k.bits * i))) (λ i. ap (λ (b : ℕ). map (cut s) (slot_rows k b)) (next i)))
    ∙ slots_flat s k n (a + k.bits))
    ∙ sym parts
  where
    next : (i : ℕ) → a + k.bits * suc i ≡ a + k.bits + k.bits * i
    next i = omega (arith, mul-suc k.bits i)

pub values-flat : (s : List ℕ) (l : Layout) → flat (values_of s l) ≡ map (cut s) (all_rows l)
unfolding values_of
values-flat s l = simp (map-append, slots_flat)
