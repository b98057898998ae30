-- Groups, wherever they stand in a table: behind the values `past`, before the rows rs with the values ws. All fields have their
-- codes, or each is asked for its normal range alone.
use Rattle.rows.specs.Refusals.{Verdict}
use mathlib.Core.Path.{◌≡◌, refl, sym, ap, ap₂, ◌∙◌}
use mathlib.Core.Bool.{Bool, true, false, ◌&&◌, ◌||◌}
use mathlib.Core.Logic.{◌⊎◌, inl, inr, ⊎_elim, ◌↔◌}
use Prim.Native.Nat.{ℕ, ◌+◌}
use native.Mathlib.Nat.{suc_inj, suc-ne-zero}
use mathlib.Core.List.{List, [], ◌∷◌, ◌++◌}
use lib.Dec.{eqb}
use lib.ListN.{length}
use borrow.Author.Tests.{eqb-true, eq-eqb, eqb-false}
use Rattle.rows.specs.declared.refusal.Refusal.TheVariants.{Range}
use Rattle.rows.specs.Runs.Questions.{◌then◌}
use Rattle.rows.specs.Layout.{Member, Row, codes_of, group, grouped, ungrouped}
use Rattle.rows.specs.Kept.{AllNormal, Kept, StartsWith}
use Rattle.rows.specs.Runs.Verdict.{allowed, judge, ranged, starts_with, walk}
use Rattle.rows.proofs.Rules.Outcomes.{both_and, met_then, or_none, right_or}
use Rattle.rows.proofs.Rules.Kinds.{starts_with_lem, with_starts}

-- the values before the field behind vs, the latest first
abbrev pub passed : List ℕ → List ℕ → List ℕ
passed [] past = past
passed (v ∷ vs) past = passed vs (v ∷ past)

same_codes : (ms : List Member) (vs ws : List ℕ) → length vs ≡ length ms → StartsWith (codes_of ms) (vs ++ ws) → vs ≡ codes_of ms
same_codes [] [] ws n h = refl
same_codes [] (v ∷ vs) ws n h = absurd (suc-ne-zero (length vs) n)
same_codes (m ∷ ms) [] ws n h = absurd (suc-ne-zero (length ms) (sym n))
same_codes (m ∷ ms) (v ∷ vs) ws n h = ap₂ (λ (x : ℕ) (xs : List ℕ). x ∷ xs) h.0 (same_codes ms vs ws (suc_inj n) h.1)

codes_start : (ms : List Member) (ws : List ℕ) → StartsWith (codes_of ms) (codes_of ms ++ ws)
codes_start [] ws = tt
codes_start (m ∷ ms) ws = (refl, codes_start ms ws)

-- ---- what is kept

module _ (rs : List Row) (ws : List ℕ) where
  -- a field before these does not have its code
  broken : (a : ℕ) (cs past : List ℕ) (ms : List Member) (vs : List ℕ) → length vs ≡ length ms → (StartsWith cs past → ⊥)
      → Kept past (grouped a cs ms ++ rs) (vs ++ ws) → AllNormal ms vs × Kept (passed vs past) rs ws
  broken a cs past [] [] n x k = (tt, k)
  broken a cs past [] (v ∷ vs) n x k = absurd (suc-ne-zero (length vs) n)
  broken a cs past (m ∷ ms) [] n x k = absurd (suc-ne-zero (length ms) (sym n))
  broken a cs past (m ∷ ms) (v ∷ vs) n x k =
      let q = broken (a + m.width) (m.code ∷ cs) (v ∷ past) ms vs (suc_inj n) (λ h. x h.1) k.1 in
      ((⊎_elim (λ h. h) (λ h. absurd (x h.0)) k.0, q.0), q.1)

  whole : (a : ℕ) (cs past : List ℕ) (ms : List Member) (vs : List ℕ) → length vs ≡ length ms → StartsWith cs past
      → Kept past (grouped a cs ms ++ rs) (vs ++ ws) → ((vs ≡ codes_of ms) ⊎ AllNormal ms vs) × Kept (passed vs past) rs ws
  whole a cs past [] [] n s k = (inl refl, k)
  whole a cs past [] (v ∷ vs) n s k = absurd (suc-ne-zero (length vs) n)
  whole a cs past (m ∷ ms) [] n s k = absurd (suc-ne-zero (length ms) (sym n))
  whole a cs past (m ∷ ms) (v ∷ vs) n s k =
      by (eqb v m.code) refl (λ e. whole (a + m.width) (m.code ∷ cs) (v ∷ past) ms vs (suc_inj n) (e, s) k.1)
    where
      Told : Type 0
      Told = ((v ∷ vs ≡ codes_of (m ∷ ms)) ⊎ AllNormal (m ∷ ms) (v ∷ vs)) × Kept (passed vs (v ∷ past)) rs ws

      all : v ≡ m.code → vs ≡ codes_of ms → v ∷ vs ≡ codes_of (m ∷ ms)
      all e f = ap₂ (λ (x : ℕ) (xs : List ℕ). x ∷ xs) e f

      by : (b : Bool) → eqb v m.code ≡ b → (v ≡ m.code → ((vs ≡ codes_of ms) ⊎ AllNormal ms vs) × Kept (passed vs (v ∷ past)) rs ws) → Told
      by true e rest =
          let same = eqb-true v m.code e in
          let q = rest same in (
            ⊎_elim
                (λ f. inl (all same f))
                (λ f. ⊎_elim (λ h. inr (h, f)) (λ h. inl (all same (same_codes ms vs ws (suc_inj n) h.1.1))) k.0)
                q.0,
            q.1,
          )
      by false e rest =
          let other = eqb-false v m.code e in
          let q = broken (a + m.width) (m.code ∷ cs) (v ∷ past) ms vs (suc_inj n) (λ h. other h.0) k.1 in
          (inr (⊎_elim (λ h. h) (λ h. absurd (other h.1.0)) k.0, q.0), q.1)

  kept_codes : (a : ℕ) (cs past : List ℕ) (ms : List Member) → StartsWith cs past
      → Kept (passed (codes_of ms) past) rs ws → Kept past (grouped a cs ms ++ rs) (codes_of ms ++ ws)
  kept_codes a cs past [] s k = k
  kept_codes a cs past (m ∷ ms) s k =
      (inr (s, (refl, codes_start ms ws)), kept_codes (a + m.width) (m.code ∷ cs) (m.code ∷ past) ms (refl, s) k)

  kept_normal : (a : ℕ) (cs past : List ℕ) (ms : List Member) (vs : List ℕ) → length vs ≡ length ms → AllNormal ms vs
      → Kept (passed vs past) rs ws → Kept past (grouped a cs ms ++ rs) (vs ++ ws)
  kept_normal a cs past [] [] n h k = k
  kept_normal a cs past [] (v ∷ vs) n h k = absurd (suc-ne-zero (length vs) n)
  kept_normal a cs past (m ∷ ms) [] n h k = absurd (suc-ne-zero (length ms) (sym n))
  kept_normal a cs past (m ∷ ms) (v ∷ vs) n h k =
      (inl h.0, kept_normal (a + m.width) (m.code ∷ cs) (v ∷ past) ms vs (suc_inj n) h.1 k)

  pub group_kept : (a : ℕ) (past : List ℕ) (ms : List Member) (vs : List ℕ) → length vs ≡ length ms
      → Kept past (group a ms ++ rs) (vs ++ ws) ↔ ((vs ≡ codes_of ms) ⊎ AllNormal ms vs) × Kept (passed vs past) rs ws
  group_kept a past ms vs n = (λ k. whole a [] past ms vs n tt k, λ k. ⊎_elim (λ e. coded e k.1) (λ h. kept_normal a [] past ms vs n h k.1) k.0)
    where
      coded : vs ≡ codes_of ms → Kept (passed vs past) rs ws → Kept past (group a ms ++ rs) (vs ++ ws)
      coded e k = rw e (kept_codes a [] past ms tt (rw e at k))

-- ---- what is refused, and where

and-false : (a b : Bool) → b ≡ false → a && b ≡ false
and-false true b e = e
and-false false b e = refl

module _ (rs : List Row) (ws : List ℕ) where
  broken_walk : (a : ℕ) (cs past : List ℕ) (ms : List Member) (vs : List ℕ) → length vs ≡ length ms → starts_with cs past ≡ false
      → walk past (grouped a cs ms ++ rs) (vs ++ ws) ≡ walk past (ungrouped a ms ++ rs) (vs ++ ws)
  unfolding walk judge
  broken_walk a cs past [] [] n x = refl
  broken_walk a cs past [] (v ∷ vs) n x = absurd (suc-ne-zero (length vs) n)
  broken_walk a cs past (m ∷ ms) [] n x = absurd (suc-ne-zero (length ms) (sym n))
  broken_walk a cs past (m ∷ ms) (v ∷ vs) n x = ap₂ (λ (x y : Verdict). x then y)
      (ap (λ (b : Bool). ranged b a v) (or_none (allowed m.normal v) _ (rw x)))
      (broken_walk (a + m.width) (m.code ∷ cs) (v ∷ past) ms vs (suc_inj n) (and-false (eqb v m.code) _ x))

  mixed_walk : (a : ℕ) (cs past : List ℕ) (ms : List Member) (vs : List ℕ) → length vs ≡ length ms → (vs ≡ codes_of ms → ⊥)
      → walk past (grouped a cs ms ++ rs) (vs ++ ws) ≡ walk past (ungrouped a ms ++ rs) (vs ++ ws)
  unfolding walk judge
  mixed_walk a cs past [] [] n x = absurd (x refl)
  mixed_walk a cs past [] (v ∷ vs) n x = absurd (suc-ne-zero (length vs) n)
  mixed_walk a cs past (m ∷ ms) [] n x = absurd (suc-ne-zero (length ms) (sym n))
  mixed_walk a cs past (m ∷ ms) (v ∷ vs) n x = ap₂ (λ (x y : Verdict). x then y)
      (ap (λ (b : Bool). ranged b a v) (or_none (allowed m.normal v) _ (and-false (starts_with cs past) _ (alone (starts_with (codes_of ms) (vs ++ ws)) refl))))
      (by (eqb v m.code) refl (λ f. mixed_walk (a + m.width) (m.code ∷ cs) (v ∷ past) ms vs (suc_inj n) f))
    where
      all : v ≡ m.code → vs ≡ codes_of ms → v ∷ vs ≡ codes_of (m ∷ ms)
      all e f = ap₂ (λ (x : ℕ) (xs : List ℕ). x ∷ xs) e f

      other : eqb v m.code ≡ true → vs ≡ codes_of ms → ⊥
      other e f = x (all (eqb-true v m.code e) f)

      alone : (b : Bool) → starts_with (codes_of ms) (vs ++ ws) ≡ b → eqb v m.code && starts_with (codes_of ms) (vs ++ ws) ≡ false
      alone false e = and-false (eqb v m.code) _ e
      alone true e = apart (eqb v m.code) refl
        where
          apart : (b : Bool) → eqb v m.code ≡ b → eqb v m.code && starts_with (codes_of ms) (vs ++ ws) ≡ false
          apart true f = absurd (other f (same_codes ms vs ws (suc_inj n) (starts_with_lem (codes_of ms) (vs ++ ws) e)))
          apart false f = rw f

      Same : Type 0
      Same = walk (v ∷ past) (grouped (a + m.width) (m.code ∷ cs) ms ++ rs) (vs ++ ws) ≡ walk (v ∷ past) (ungrouped (a + m.width) ms ++ rs) (vs ++ ws)

      by : (b : Bool) → eqb v m.code ≡ b → ((vs ≡ codes_of ms → ⊥) → Same) → Same
      by true e rest = rest (other e)
      by false e rest = broken_walk (a + m.width) (m.code ∷ cs) (v ∷ past) ms vs (suc_inj n) (rw e)

  codes-walk : (a : ℕ) (cs past : List ℕ) (ms : List Member) → StartsWith cs past
      → walk past (grouped a cs ms ++ rs) (codes_of ms ++ ws) ≡ walk (passed (codes_of ms) past) rs ws
  unfolding walk judge
  codes-walk a cs past [] s = refl
  codes-walk a cs past (m ∷ ms) s =
      let start = starts_with (codes_of ms) (codes_of ms ++ ws) in
      let own = eqb m.code m.code in
      let all = both_and (starts_with cs past) (own && start) (with_starts cs past s) (both_and own start (eq-eqb m.code m.code refl) (with_starts (codes_of ms) (codes_of ms ++ ws) (codes_start ms ws))) in
      met_then (allowed m.normal m.code || (starts_with cs past && (own && start))) (Range a m.code) _ (right_or (allowed m.normal m.code) _ all)
      ∙ codes-walk (a + m.width) (m.code ∷ cs) (m.code ∷ past) ms (refl, s)

  pub group_of_codes : (a : ℕ) (past : List ℕ) (ms : List Member) → walk past (group a ms ++ rs) (codes_of ms ++ ws) ≡ walk (passed (codes_of ms) past) rs ws
  group_of_codes a past ms = codes-walk a [] past ms tt

  pub mixed_group : (a : ℕ) (past : List ℕ) (ms : List Member) (vs : List ℕ) → length vs ≡ length ms → (vs ≡ codes_of ms → ⊥)
      → walk past (group a ms ++ rs) (vs ++ ws) ≡ walk past (ungrouped a ms ++ rs) (vs ++ ws)
  mixed_group a past ms vs n x = mixed_walk a [] past ms vs n x
