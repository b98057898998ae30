-- Which of its fields a slot has in a category: its values are those fields, and what is not among them is zero.
use mathlib.Core.Bool.{Bool, ◌&&◌, cond, false, true}
use Rattle.bits.proofs.Pushing.{Fieldlike}
use mathlib.Core.List.{List, [], ◌∷◌}
use Prim.Native.Nat.{◌*◌, ◌+◌, ◌^◌, suc, ℕ}
use mathlib.Core.Path.{◌≡◌, ◌∙◌, ap, ap₂, refl, sym}
use Rattle.rows.proofs.Rules.Outcomes.{and_both}
use native.Mathlib.Omega.{arith}
use Rattle.rows.specs.Runs.Verdict.{empty}
use lib.Dec.{eqb, leb, lit<, ltb}
use borrow.Author.Tests.{eqb-true, leb-true, ltb-true, ne_eqb}
use Rattle.bits.specs.Layout.{encode, Fit, total}
use lib.ListN.{length}
use Rattle.slots.specs.Slots.{sift, vacant}
use native.Mathlib.Nat.{suc_inj, suc-ne-zero, zero-add}
use Rattle.rows.specs.Values.{spread}

-- ---- flags and values

abbrev pub trues : List Bool → ℕ
trues [] = 0
trues (true ∷ bs) = suc (trues bs)
trues (false ∷ bs) = trues bs

pub length-sift : (bs : List Bool) (vs : List ℕ) → length vs ≡ length bs → length (sift bs vs) ≡ trues bs
length-sift [] vs l = refl
length-sift (b ∷ bs) [] l = absurd (suc-ne-zero (length bs) (sym l))
length-sift (true ∷ bs) (v ∷ vs) l = ap suc (length-sift bs vs (suc_inj l))
length-sift (false ∷ bs) (v ∷ vs) l = length-sift bs vs (suc_inj l)

pub length-spread : (bs : List Bool) (vs : List ℕ) → length (spread bs vs) ≡ length bs
length-spread [] vs = refl
length-spread (false ∷ bs) vs = ap suc (length-spread bs vs)
length-spread (true ∷ bs) [] = ap suc (length-spread bs [])
length-spread (true ∷ bs) (v ∷ vs) = ap suc (length-spread bs vs)

pub sift-spread : (bs : List Bool) (vs : List ℕ) → length vs ≡ trues bs → sift bs (spread bs vs) ≡ vs
sift-spread [] [] l = refl
sift-spread [] (v ∷ vs) l = absurd (suc-ne-zero (length vs) l)
sift-spread (false ∷ bs) vs l = sift-spread bs vs l
sift-spread (true ∷ bs) [] l = absurd (suc-ne-zero (trues bs) (sym l))
sift-spread (true ∷ bs) (v ∷ vs) l = ap (λ (x : List ℕ). v ∷ x) (sift-spread bs vs (suc_inj l))

pub empty-spread : (bs : List Bool) (vs : List ℕ) → length vs ≡ trues bs → empty (spread bs vs) ≡ empty vs
unfolding empty
empty-spread [] [] l = refl
empty-spread [] (v ∷ vs) l = absurd (suc-ne-zero (length vs) l)
empty-spread (false ∷ bs) vs l = empty-spread bs vs l
empty-spread (true ∷ bs) [] l = absurd (suc-ne-zero (trues bs) (sym l))
empty-spread (true ∷ bs) (v ∷ vs) l = ap (λ (b : Bool). eqb v 0 && b) (empty-spread bs vs (suc_inj l))

-- ---- widths: none where there is no flag, some where there is one

abbrev pub all_wide : List ℕ → Bool
all_wide [] = true
all_wide (w ∷ ws) = ltb 0 w && (leb w 57 && all_wide ws)

pub fieldlike : (ws : List ℕ) → all_wide ws ≡ true → Fieldlike ws
fieldlike [] h = tt
fieldlike (w ∷ ws) h =
    let p = and_both (ltb 0 w) _ h in
    let q = and_both (leb w 57) (all_wide ws) p.1 in
    ((ltb-true 0 w p.0, leb-true w 57 q.0), fieldlike ws q.1)

pub spread-vacant : (bs : List Bool) (ws vs : List ℕ) → length ws ≡ trues bs → all_wide ws ≡ true → vacant (spread bs ws) (spread bs vs) ≡ true
unfolding vacant
spread-vacant [] ws vs l h = refl
spread-vacant (false ∷ bs) ws vs l h = spread-vacant bs ws vs l h
spread-vacant (true ∷ bs) [] vs l h = absurd (suc-ne-zero (trues bs) (sym l))
spread-vacant (true ∷ bs) (w ∷ ws) [] l h = simp (ne_eqb w 0 (wide w (and_both (ltb 0 w) _ h).0)) (spread-vacant bs ws [] (suc_inj l) (and_both (leb w 57) _ (and_both (ltb 0 w) _ h).1).1)
  where
    wide : (w : ℕ) → ltb 0 w ≡ true → w ≡ 0 → ⊥
    wide w e z = omega (arith, ltb-true 0 w e)
spread-vacant (true ∷ bs) (w ∷ ws) (v ∷ vs) l h = simp (ne_eqb w 0 (wide w (and_both (ltb 0 w) _ h).0)) (spread-vacant bs ws vs (suc_inj l) (and_both (leb w 57) _ (and_both (ltb 0 w) _ h).1).1)
  where
    wide : (w : ℕ) → ltb 0 w ≡ true → w ≡ 0 → ⊥
    wide w e z = omega (arith, ltb-true 0 w e)

-- what is vacant is told by its values
pub vacant_again : (bs : List Bool) (ws vs : List ℕ) → length ws ≡ trues bs → length vs ≡ length bs → vacant (spread bs ws) vs ≡ true → spread bs (sift bs vs) ≡ vs
unfolding vacant
vacant_again [] ws [] l m h = refl
vacant_again [] ws (v ∷ vs) l m h = absurd (suc-ne-zero (length vs) m)
vacant_again (b ∷ bs) ws [] l m h = absurd (suc-ne-zero (length bs) (sym m))
vacant_again (false ∷ bs) ws (v ∷ vs) l m h =
    let p = and_both (eqb v 0) (vacant (spread bs ws) vs) h in
    ap₂ (λ (x : ℕ) (y : List ℕ). x ∷ y) (sym (eqb-true v 0 p.0)) (vacant_again bs ws vs l (suc_inj m) p.1)
vacant_again (true ∷ bs) [] (v ∷ vs) l m h = absurd (suc-ne-zero (trues bs) (sym l))
vacant_again (true ∷ bs) (w ∷ ws) (v ∷ vs) l m h =
    ap (λ (y : List ℕ). v ∷ y) (vacant_again bs ws vs (suc_inj l) (suc_inj m) (and_both (cond (eqb w 0) (eqb v 0) true) (vacant (spread bs ws) vs) h).1)

-- ---- fields without bits, and with nothing in them, make no difference to a layout

pub spread-total : (bs : List Bool) (ws : List ℕ) → length ws ≡ trues bs → total (spread bs ws) ≡ total ws
spread-total [] [] l = refl
spread-total [] (w ∷ ws) l = absurd (suc-ne-zero (length ws) l)
spread-total (false ∷ bs) ws l = zero-add (total (spread bs ws)) ∙ spread-total bs ws l
spread-total (true ∷ bs) [] l = absurd (suc-ne-zero (trues bs) (sym l))
spread-total (true ∷ bs) (w ∷ ws) l = ap (λ (n : ℕ). w + n) (spread-total bs ws (suc_inj l))

pub spread_fit : (bs : List Bool) (ws vs : List ℕ) → length ws ≡ trues bs → Fit ws vs → Fit (spread bs ws) (spread bs vs)
spread_fit [] ws vs l f = tt
spread_fit (false ∷ bs) ws vs l f = (lit< tt, spread_fit bs ws vs l f)
spread_fit (true ∷ bs) [] vs l f = absurd (suc-ne-zero (trues bs) (sym l))
spread_fit (true ∷ bs) (w ∷ ws) [] l f = absurd f
spread_fit (true ∷ bs) (w ∷ ws) (v ∷ vs) l f = (f.0, spread_fit bs ws vs (suc_inj l) f.1)

pub spread-encode : (bs : List Bool) (ws vs : List ℕ) → length ws ≡ trues bs → Fit ws vs → encode (spread bs ws) (spread bs vs) ≡ encode ws vs
spread-encode [] [] vs l f = refl
spread-encode [] (w ∷ ws) vs l f = absurd (suc-ne-zero (length ws) l)
spread-encode (false ∷ bs) ws vs l f = zero_mul_add (2 ^ total (spread bs ws)) (encode (spread bs ws) (spread bs vs)) ∙ spread-encode bs ws vs l f
  where
    zero_mul_add : (m n : ℕ) → 0 * m + n ≡ n
    zero_mul_add m n = omega arith
spread-encode (true ∷ bs) [] vs l f = absurd (suc-ne-zero (trues bs) (sym l))
spread-encode (true ∷ bs) (w ∷ ws) [] l f = absurd f
spread-encode (true ∷ bs) (w ∷ ws) (v ∷ vs) l f =
    ap₂ (λ (n m : ℕ). v * 2 ^ n + m) (spread-total bs ws (suc_inj l)) (spread-encode bs ws vs (suc_inj l) f.1)
