-- A value is let through exactly where it lies in one of the spans.
use mathlib.Core.Path.{◌≡◌, refl}
use mathlib.Core.Bool.{Bool, true, false, ◌&&◌, ◌||◌}
use mathlib.Core.Logic.{inl, inr, ⊎_elim}
use Prim.Native.Nat.{ℕ, ◌≤◌, ◌<◌}
use native.Mathlib.Nat.{lt_of_le_of_lt}
use native.Mathlib.Omega.{arith}
use mathlib.Core.List.{List, [], ◌∷◌}
use lib.Dec.{leb, ltb}
use borrow.Author.Tests.{leb-true, le-leb, ltb-true}
use types.Run.{OneOf}
use Rattle.rows.specs.Layout.{Span, ◌to◌, all_below}
use Rattle.rows.specs.Runs.Verdict.{allowed}
use Rattle.rows.specs.Kept.{In}
use Rattle.rows.proofs.Rules.Outcomes.{false_not_true, not-true, and_both, both_and, or_either, left_or, right_or}

or_false : (a b : Bool) → a && b || false ≡ a && b
or_false true true = refl
or_false true false = refl
or_false false b = refl

-- one span alone
pub allowed_one : (lo hi v : ℕ) → allowed (lo to hi ∷ []) v ≡ leb lo v && leb v hi
unfolding allowed
allowed_one lo hi v = or_false (leb lo v) (leb v hi)

pub in_span : (lo hi v : ℕ) → leb lo v && leb v hi ≡ true → (lo ≤ v) × (v ≤ hi)
in_span lo hi v e = let q = and_both (leb lo v) (leb v hi) e in (leb-true lo v q.0, leb-true v hi q.1)

pub span_in : (lo hi v : ℕ) → (lo ≤ v) × (v ≤ hi) → leb lo v && leb v hi ≡ true
span_in lo hi v h = both_and (leb lo v) (leb v hi) (le-leb lo v h.0) (le-leb v hi h.1)

pub span_out : (lo hi v : ℕ) → ((lo ≤ v) × (v ≤ hi) → ⊥) → leb lo v && leb v hi ≡ false
span_out lo hi v h = not-true (leb lo v && leb v hi) (λ e. h (in_span lo hi v e))

-- what lies in one span lies between its bounds
pub one_span : (lo hi v : ℕ) → In (lo to hi ∷ []) v → (lo ≤ v) × (v ≤ hi)
one_span lo hi v h = ⊎_elim (λ p. p) (λ n. absurd n) h

pub allowed_in : (ss : List Span) (v : ℕ) → allowed ss v ≡ true → In ss v
unfolding allowed
allowed_in [] v e = false_not_true e
allowed_in ((lo to hi) ∷ ss) v e =
    ⊎_elim (λ h. inl (in_span lo hi v h)) (λ h. inr (allowed_in ss v h)) (or_either (leb lo v && leb v hi) (allowed ss v) e)

pub in_allowed : (ss : List Span) (v : ℕ) → In ss v → allowed ss v ≡ true
unfolding allowed
in_allowed [] v h = absurd h
in_allowed ((lo to hi) ∷ ss) v h =
    ⊎_elim (λ k. left_or _ (allowed ss v) (span_in lo hi v k)) (λ k. right_or (leb lo v && leb v hi) _ (in_allowed ss v k)) h

pub not_allowed : (ss : List Span) (v : ℕ) → (In ss v → ⊥) → allowed ss v ≡ false
not_allowed ss v n = not-true (allowed ss v) (λ e. n (allowed_in ss v e))

pub in_below : (n : ℕ) (ss : List Span) (v : ℕ) → all_below n ss ≡ true → In ss v → v < n
in_below n [] v b h = absurd h
in_below n ((lo to hi) ∷ ss) v b h =
    let q = and_both (ltb hi n) (all_below n ss) (and_both (leb lo hi) (ltb hi n && all_below n ss) b).1 in
    ⊎_elim (λ k. lt_of_le_of_lt k.1 (ltb-true hi n q.0)) (λ k. in_below n ss v q.1 k) h

-- ---- single codes, as a `match` has them

abbrev pub singles : List ℕ → List Span
singles [] = []
singles (k ∷ ks) = k to k ∷ singles ks

key_in : (ks : List ℕ) (v : ℕ) → OneOf ks v → In (singles ks) v
key_in [] v h = h
key_in (k ∷ []) v e = inl (omega arith, omega arith)
key_in (k ∷ j ∷ ks) v h = ⊎_elim (λ e. inl (omega arith, omega arith)) (λ q. inr (key_in (j ∷ ks) v q)) h

in_key : (ks : List ℕ) (v : ℕ) → In (singles ks) v → OneOf ks v
in_key [] v h = h
in_key (k ∷ []) v h = ⊎_elim (λ p. omega arith) (λ q. absurd q) h
in_key (k ∷ j ∷ ks) v h = ⊎_elim (λ p. inl (omega arith)) (λ q. inr (in_key (j ∷ ks) v q)) h

pub key_yes : (ks : List ℕ) (v : ℕ) → OneOf ks v → allowed (singles ks) v ≡ true
key_yes ks v h = in_allowed (singles ks) v (key_in ks v h)

pub key_no : (ks : List ℕ) (v : ℕ) → (OneOf ks v → ⊥) → allowed (singles ks) v ≡ false
key_no ks v n = not_allowed (singles ks) v (λ k. n (in_key ks v k))

-- a constant is what it is
pub only_yes : (v : ℕ) → allowed (v to v ∷ []) v ≡ true
only_yes v = in_allowed (v to v ∷ []) v (inl (omega arith, omega arith))
