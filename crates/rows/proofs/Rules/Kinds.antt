-- What a field may hold, kind by kind: the test and the rule say the same, and what passes is bounded.
use mathlib.Core.Path.{◌≡◌, refl, subst, sym}
use mathlib.Core.Bool.{Bool, true, ◌||◌}
use mathlib.Core.Logic.{inl, inr, ⊎_elim}
use Prim.Native.Nat.{ℕ, ◌^◌, ◌<◌}
use native.Mathlib.Nat.{lt_of_le_of_lt, lt_of_lt_of_le}
use mathlib.Core.List.{List, [], ◌∷◌}
use lib.Dec.{eqb, ltb}
use borrow.Author.Tests.{leb-true, ltb-true, lt-ltb, eqb-true, eq-eqb}
use Rattle.rows.specs.Layout.{Codes, Rule, among, rising, in_group, spare, all_below, bounded}
use Rattle.rows.specs.Runs.Verdict.{allowed, meets, starts_with, together}
use Rattle.rows.specs.Kept.{latest, Keeps, StartsWith, Together}
use Rattle.rows.proofs.Rules.Outcomes.{false_not_true, and_both, both_and, or_either, left_or, right_or}
use Rattle.rows.proofs.Rules.Spans.{in_span, span_in, allowed_in, in_allowed, in_below}

-- ---- codes of a group

pub starts_with_lem : (cs vs : List ℕ) → starts_with cs vs ≡ true → StartsWith cs vs
starts_with_lem [] vs e = tt
starts_with_lem (c ∷ cs) [] e = false_not_true e
starts_with_lem (c ∷ cs) (v ∷ vs) e = let q = and_both (eqb v c) (starts_with cs vs) e in (eqb-true v c q.0, starts_with_lem cs vs q.1)

pub with_starts : (cs vs : List ℕ) → StartsWith cs vs → starts_with cs vs ≡ true
with_starts [] vs h = refl
with_starts (c ∷ cs) [] h = absurd h
with_starts (c ∷ cs) (v ∷ vs) h = both_and (eqb v c) (starts_with cs vs) (eq-eqb v c h.0) (with_starts cs vs h.1)

pub is_together : (c : Codes) (past : List ℕ) (v : ℕ) (next : List ℕ) → together c past v next ≡ true → Together c past v next
is_together c past v next e =
    let p = and_both (starts_with c.before past) _ e in
    let q = and_both (eqb v c.own) _ p.1 in
    (starts_with_lem c.before past p.0, (eqb-true v c.own q.0, starts_with_lem c.behind next q.1))

pub together_is : (c : Codes) (past : List ℕ) (v : ℕ) (next : List ℕ) → Together c past v next → together c past v next ≡ true
together_is c past v next h =
    both_and _ _ (with_starts c.before past h.0)
    (both_and _ _ (eq-eqb v c.own h.1.0) (with_starts c.behind next h.1.1))

-- ---- all kinds

pub meets_keeps : (r : Rule) (past : List ℕ) (v : ℕ) (next : List ℕ) → meets r past v next ≡ true → Keeps r past v next
meets_keeps (among ss) past v next e = allowed_in ss v e
meets_keeps (rising hi) past v next e = in_span (latest past) hi v e
meets_keeps (in_group ss c) past v next e =
    ⊎_elim (λ h. inl (allowed_in ss v h)) (λ h. inr (is_together c past v next h)) (or_either (allowed ss v) (together c past v next) e)
meets_keeps (spare w) past v next e = ltb-true v (2 ^ w) e

pub keeps_meets : (r : Rule) (past : List ℕ) (v : ℕ) (next : List ℕ) → Keeps r past v next → meets r past v next ≡ true
keeps_meets (among ss) past v next h = in_allowed ss v h
keeps_meets (rising hi) past v next h = span_in (latest past) hi v h
keeps_meets (in_group ss c) past v next h =
    ⊎_elim (λ k. left_or _ (together c past v next) (in_allowed ss v k)) (λ k. right_or (allowed ss v) _ (together_is c past v next k)) h
keeps_meets (spare w) past v next h = lt-ltb v (2 ^ w) h

pub keeps_below : (r : Rule) (n : ℕ) (past : List ℕ) (v : ℕ) (next : List ℕ) → bounded r n ≡ true → Keeps r past v next → v < n
keeps_below (among ss) n past v next b h = in_below n ss v b h
keeps_below (rising hi) n past v next b h = lt_of_le_of_lt h.1 (ltb-true hi n b)
keeps_below (in_group ss c) n past v next b h =
    let q = and_both (all_below n ss) (ltb c.own n) b in
    let own : c.own < n = ltb-true c.own n q.1 in
    ⊎_elim (λ k. in_below n ss v q.0 k) (λ k. subst (λ (x : ℕ). x < n) (sym k.1.0) own) h
keeps_below (spare w) n past v next b h = lt_of_lt_of_le h (leb-true (2 ^ w) n b)

-- a zero may pass: where this is false, none does
abbrev pub may_be_zero : Rule → Bool
may_be_zero (among ss) = allowed ss 0
may_be_zero (rising hi) = true
may_be_zero (in_group ss c) = allowed ss 0 || eqb c.own 0
may_be_zero (spare w) = true

pub zero_kept : (r : Rule) (past next : List ℕ) → Keeps r past 0 next → may_be_zero r ≡ true
zero_kept (among ss) past next h = in_allowed ss 0 h
zero_kept (rising hi) past next h = refl
zero_kept (in_group ss c) past next h =
    ⊎_elim (λ k. left_or _ (eqb c.own 0) (in_allowed ss 0 k)) (λ k. right_or (allowed ss 0) _ (eq-eqb c.own 0 (sym k.1.0))) h
zero_kept (spare w) past next h = refl
