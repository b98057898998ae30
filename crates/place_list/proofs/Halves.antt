-- The search by halves, in any numbers that do not fall: it ends at the first that is not below the place, or behind all, and has
-- looked at the number that it ends at.
use mathlib.Core.Path.{◌≡◌, ◌∙◌, refl, sym, subst}
use mathlib.Core.Bool.{Bool, true, false, ◌&&◌, cond}
use mathlib.Core.Logic.{◌⊎◌, inl, inr, ⊎_elim}
use mathlib.Core.List.{List, [], ◌∷◌}
use Prim.Native.Nat.{ℕ, suc, ◌+◌, ◌-◌, ◌≤◌, ◌<◌}
use native.Mathlib.Omega.{arith}
use lib.Dec.{leb, ltb, eqb}
use borrow.Author.Tests.{leb-true, ltb-true, ltb-false, eqb-true, eqb-false}
use Rattle.place_list.specs.Search.{past, search, looks}
use Rattle.std.proofs.lemmas.Bool.{and_parts}

-- steps that leave one of so many: none is more than half of what is left
abbrev pub narrows : ℕ → List ℕ → Bool
narrows size [] = eqb size 1
narrows size (step ∷ steps) = leb 1 step && (leb (step + step) size && narrows (size - step) steps)

-- the first n numbers do not fall
abbrev pub Rising : (ℕ → ℕ) → ℕ → Type 0
Rising number n = (i j : ℕ) → i ≤ j → j < n → number i ≤ number j

-- what is true of each entry of a list
abbrev pub Each : (ℕ → Type 0) → List ℕ → Type 0
Each Seen [] = Unit {0}
Each Seen (k ∷ ks) = Seen k × Each Seen ks

-- p is the first of n numbers that is not below the place, and was seen; or it is behind them, and all are below
pub record First (number : ℕ → ℕ) (n place : ℕ) (Seen : ℕ → Type 0) (p : ℕ) : Type 0 where
  pub inside : p ≤ n
  pub before : (i : ℕ) → i < p → number i < place
  pub reached : (p ≡ n) ⊎ ((place ≤ number p) × Seen p)

module _ (number : ℕ → ℕ) (n place : ℕ) (rising : Rising number n) (Seen : ℕ → Type 0) where
  -- a number up to this one was seen not to be below the place
  record Met (m : ℕ) : Type 0 where
    index : ℕ
    up_to : index ≤ m
    reached : place ≤ number index
    seen : Seen index

  -- the end is one of so many, from this one on
  record Within (from size : ℕ) : Type 0 where
    inside : from + size ≤ suc n
    before : (i : ℕ) → i < from → number i < place
    met : (from + size - 1 ≡ n) ⊎ Met (from + size - 1)

  -- a step leaves out what is below the place ..
  upper : (from size step : ℕ) → 1 ≤ step → step + step ≤ size → Within from size → number (from + step - 1) < place → Within (from + step) (size - step)
  upper from size step some half w below =
      let e : from + step + (size - step) - 1 ≡ from + size - 1 = omega arith in
      record {
        inside = omega (arith, w.inside);
        before = λ i h. omega (arith, below, rising i (from + step - 1) (omega (arith, h)) (omega (arith, w.inside)));
        met = subst (λ (m : ℕ). (m ≡ n) ⊎ Met m) (sym e) w.met;
      }

  -- .. or what is behind a number that is not
  lower : (from size step : ℕ) → 1 ≤ step → step + step ≤ size → Within from size → Seen (from + step - 1) → place ≤ number (from + step - 1) → Within from (size - step)
  lower from size step some half w s up =
      record {
        inside = omega (arith, w.inside);
        before = w.before;
        met = inr (record { index = from + step - 1; up_to = omega arith; reached = up; seen = s });
      }

  stepped : (from size step : ℕ) → 1 ≤ step → step + step ≤ size → Within from size → Seen (from + step - 1) → Within (past number place from step) (size - step)
  stepped from size step some half w s = by (ltb (number (from + step - 1)) place) refl
    where
      by : (b : Bool) → ltb (number (from + step - 1)) place ≡ b → Within (cond b (from + step) from) (size - step)
      by true e = upper from size step some half w (ltb-true _ _ e)
      by false e = lower from size step some half w s (ltb-false _ _ e)

  -- a number that was met is the end itself: one before it would be below the place
  ended : (p : ℕ) → Within p 1 → First number n place Seen p
  ended p w =
      let e : p + 1 - 1 ≡ p = omega arith in
      record {
        inside = omega (arith, w.inside);
        before = w.before;
        reached = ⊎_elim (λ last. inl (sym e ∙ last)) (λ m. inr (here m.index (omega (arith, m.up_to)) m.reached m.seen)) w.met;
      }
    where
      here : (k : ℕ) → k ≤ p → place ≤ number k → Seen k → (place ≤ number p) × Seen p
      here k h up s = by (eqb k p) refl
        where
          by : (b : Bool) → eqb k p ≡ b → (place ≤ number p) × Seen p
          by true e = subst (λ (k : ℕ). (place ≤ number k) × Seen k) (eqb-true k p e) (up, s)
          by false e = absurd (omega (arith, up, w.before k (omega (arith, h, eqb-false k p e))))

  halves : (steps : List ℕ) (from size : ℕ) → narrows size steps ≡ true → Within from size → Each Seen (looks number place steps from) → First number n place Seen (search number place steps from)
  halves [] from size one w s = ended from (subst (Within from) (eqb-true size 1 one) w)
  halves (step ∷ steps) from size fits w s =
      let some : 1 ≤ step = leb-true 1 step (and_parts (leb 1 step) _ fits).0 in
      let rest : leb (step + step) size && narrows (size - step) steps ≡ true = (and_parts (leb 1 step) _ fits).1 in
      let half : step + step ≤ size = leb-true (step + step) size (and_parts (leb (step + step) size) _ rest).0 in
      halves steps (past number place from step) (size - step) (and_parts (leb (step + step) size) _ rest).1 (stepped from size step some half w s.0) s.1

-- steps that leave one of n numbers and what is behind them end at the first number that is not below the place
pub by_halves : (number : ℕ → ℕ) (n place : ℕ) (steps : List ℕ) (Seen : ℕ → Type 0) → Rising number n → narrows (suc n) steps ≡ true → Each Seen (looks number place steps 0) → First number n place Seen (search number place steps 0)
by_halves number n place steps Seen rising fits =
    halves number n place rising Seen steps 0 (suc n) fits
    (record {
      inside = omega arith;
      before = λ i h. absurd (omega (arith, h));
      met = inl (omega arith);
    })
