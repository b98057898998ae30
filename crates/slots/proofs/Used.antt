-- What the number of used slots says.
use Rattle.rows.specs.Kept.{AllEmpty, Empty, Keeps, Kept, LaterKept, SlotsKept}
use mathlib.Core.Bool.{Bool, ◌||◌, false, not, true, cond}
use mathlib.Core.List.{List, [], ◌∷◌, ◌++◌, map}
use Rattle.rows.specs.Layout.{Row, Slots, slot_rows, shifted}
use Rattle.rows.proofs.Layouts.Lengths.{SlotsFilled}
use Prim.Native.Nat.{◌+◌, ◌<◌, ◌≤◌, suc, zero, ℕ, ◌*◌, ◌-◌}
use mathlib.Core.Path.{◌∙◌, ◌≡◌, ap, refl, subst, sym, ap₂}
use Rattle.rows.specs.Runs.Verdict.{empty}
use Rattle.rows.proofs.Rules.JudgedSlots.{empty_is, is_empty}
use Rattle.rows.proofs.Rules.Outcomes.{false_not_true}
use lib.ListN.{get_or, length, replicate}
use Rattle.rows.proofs.Rules.Kinds.{may_be_zero, zero_kept}
use native.Mathlib.Nat.{le_of_suc-le-suc, not-suc-le-zero, suc_inj, suc-ne-zero}
use Rattle.slots.specs.Slots.{used_among, no_slot, slot_of, slot_parts, slots_of}
use mathlib.Core.Logic.{⊎_elim}
use native.Mathlib.Omega.{arith}
use Rattle.slots.proofs.Tables.{Suited, same_silence}
use Rattle.rows.specs.Values.{cut, each}

first_counted : (v : List ℕ) (vs : List (List ℕ)) → empty v ≡ false → used_among (v ∷ vs) ≡ suc (used_among vs)
unfolding used_among
first_counted v vs e = rw e

first_missing : (v : List ℕ) (vs : List (List ℕ)) → empty v ≡ true → used_among (v ∷ vs) ≡ 0
unfolding used_among
first_missing v vs e = rw e

-- every slot that is counted is used
counted : (v : List ℕ) (vs : List (List ℕ)) (b : Bool) → empty v ≡ b → ((i : ℕ) → i < used_among vs → empty (get_or vs i []) ≡ false)
    → (i : ℕ) → i < used_among (v ∷ vs) → empty (get_or (v ∷ vs) i []) ≡ false
counted v vs true e r i h = absurd (not-suc-le-zero (rw (first_missing v vs e) at h))
counted v vs false e r zero h = e
counted v vs false e r (suc i) h = r i (le_of_suc-le-suc (rw (first_counted v vs e) at h))

pub counted_used : (vs : List (List ℕ)) (i : ℕ) → i < used_among vs → empty (get_or vs i []) ≡ false
unfolding used_among
counted_used [] i h = absurd (not-suc-le-zero h)
counted_used (v ∷ vs) i h = counted v vs (empty v) refl (counted_used vs) i h

used_or_not : (b : Bool) (u n : ℕ) → u ≤ n → cond b 0 (suc u) ≤ suc n
used_or_not true u n h = omega arith
used_or_not false u n h = omega arith

pub used_at-most : (vs : List (List ℕ)) → used_among vs ≤ length vs
unfolding used_among
used_at-most [] = omega arith
used_at-most (v ∷ vs) = used_or_not (empty v) (used_among vs) (length vs) (used_at-most vs)

-- ---- each of them keeps the rules of its rows

-- what follows the first one is counted where the first one is
counted_behind : (v : List ℕ) (vs : List (List ℕ)) (b : Bool) → empty v ≡ b → (i : ℕ) → suc i < used_among (v ∷ vs) → i < used_among vs
counted_behind v vs true e i h = absurd (not-suc-le-zero (rw (first_missing v vs e) at h))
counted_behind v vs false e i h = le_of_suc-le-suc (rw (first_counted v vs e) at h)

unshifted : (a : ℕ) (past : List ℕ) (rs : List Row) (vs : List ℕ) → Kept past (shifted a rs) vs → Kept past rs vs
unshifted a past [] vs h = tt
unshifted a past (r ∷ rs) [] h = tt
unshifted a past (r ∷ rs) (v ∷ vs) h = (h.0, unshifted a (v ∷ past) rs vs h.1)

later_used_kept : (k : Slots) (at : ℕ) (vs : List (List ℕ)) → LaterKept k at vs → (i : ℕ) → i < used_among vs → Kept [] k.rows (get_or vs i [])
unfolding used_among
later_used_kept k at [] h i l = absurd (not-suc-le-zero l)
later_used_kept k at (v ∷ vs) h zero l =
    ⊎_elim (λ p. absurd (not-suc-le-zero (rw (first_missing v vs (is_empty v p.0)) at l))) (λ p. unshifted at [] k.rows v p.1.0) h
later_used_kept k at (v ∷ vs) h (suc i) l =
    ⊎_elim (λ p. absurd (not-suc-le-zero (rw (first_missing v vs (is_empty v p.0)) at l)))
    (λ p. later_used_kept k (at + k.bits) vs p.1.1 i (counted_behind v vs (empty v) refl i l)) h

pub used_kept : (k : Slots) (vs : List (List ℕ)) → SlotsKept k vs → (i : ℕ) → i < used_among vs → Kept [] k.rows (get_or vs i [])
unfolding used_among
used_kept k [] h i l = absurd (not-suc-le-zero l)
used_kept k (v ∷ vs) h zero l = unshifted k.first [] k.rows v h.0
used_kept k (v ∷ vs) h (suc i) l = later_used_kept k (k.first + k.bits) vs h.1 i (counted_behind v vs (empty v) refl i l)

-- ---- every slot behind them is empty, where nothing stands behind an empty one

not_empty : (v : List ℕ) (b : Bool) → empty v ≡ b → (Empty v → ⊥) → empty v ≡ false
not_empty v false e n = e
not_empty v true e n = absurd (n (empty_is v e))

all-empty : (vs : List (List ℕ)) → AllEmpty vs → (i : ℕ) → i < length vs → empty (get_or vs i []) ≡ true
all-empty [] h i l = absurd (not-suc-le-zero l)
all-empty (v ∷ vs) h zero l = is_empty v h.0
all-empty (v ∷ vs) h (suc i) l = all-empty vs h.1 i (le_of_suc-le-suc l)

later-empty : (k : Slots) (at : ℕ) (vs : List (List ℕ)) → LaterKept k at vs → (i : ℕ) → used_among vs ≤ i → i < length vs → empty (get_or vs i []) ≡ true
later-empty k at [] h i u l = absurd (not-suc-le-zero l)
later-empty k at (v ∷ vs) h zero u l =
    ⊎_elim (λ p. is_empty v p.0) (λ p. absurd (not-suc-le-zero (rw (first_counted v vs (not_empty v (empty v) refl p.0)) at u))) h
later-empty k at (v ∷ vs) h (suc i) u l =
    ⊎_elim (λ p. all-empty vs p.1 i (le_of_suc-le-suc l))
    (λ p. later-empty k (at + k.bits) vs p.1.1 i (le_of_suc-le-suc (rw (first_counted v vs (not_empty v (empty v) refl p.0)) at u)) (le_of_suc-le-suc l))
    h

-- the first slot is used, for one of its fields may not be zero: one test on the table
abbrev pub names : List Row → Bool
names [] = false
names (r ∷ rs) = not (may_be_zero r.rule) || names rs

not_silent : (past : List ℕ) (rs : List Row) (v : List ℕ) → length v ≡ length rs → names rs ≡ true → Kept past rs v → Empty v → ⊥
not_silent past [] v l n h e = false_not_true n
not_silent past (r ∷ rs) [] l n h e = suc-ne-zero (length rs) (sym l)
not_silent past (r ∷ rs) (v ∷ vs) l n h e =
    by (may_be_zero r.rule) (λ m. not_silent (v ∷ past) rs vs (suc_inj l) m h.1 e.1) (zero_kept r.rule past vs (subst (λ (x : ℕ). Keeps r.rule past x vs) e.0 h.0)) n
  where
    by : (b : Bool) → (names rs ≡ true → ⊥) → b ≡ true → not b || names rs ≡ true → ⊥
    by true rest f m = rest m
    by false rest f m = false_not_true f

pub behind_used : (k : Slots) (vs : List (List ℕ)) → SlotsFilled k k.first vs → names k.rows ≡ true → SlotsKept k vs
    → (i : ℕ) → used_among vs ≤ i → i < length vs → empty (get_or vs i []) ≡ true
behind_used k [] f n h i u l = absurd (not-suc-le-zero l)
behind_used k (v ∷ vs) f n h i u l = by i (rw (first_counted v vs used) at u) l
  where
    shifted-names : (a : ℕ) (rs : List Row) → names (shifted a rs) ≡ names rs
    shifted-names a [] = refl
    shifted-names a (r ∷ rs) = ap (λ (b : Bool). not (may_be_zero r.rule) || b) (shifted-names a rs)

    used : empty v ≡ false
    used = not_empty v (empty v) refl (not_silent [] (slot_rows k k.first) v f.0 (shifted-names k.first k.rows ∙ n) h.0)

    by : (i : ℕ) → suc (used_among vs) ≤ i → i < suc (length vs) → empty (get_or (v ∷ vs) i []) ≡ true
    by zero u l = absurd (not-suc-le-zero u)
    by (suc i) u l = later-empty k (k.first + k.bits) vs h.1 i (le_of_suc-le-suc u) (le_of_suc-le-suc l)

-- ---- of a frame's slots, all sixteen of them

none_used : (n : ℕ) → used_among (map slot_parts (replicate n no_slot)) ≡ 0
unfolding used_among empty
none_used zero = refl
none_used (suc n) = refl

by_silence : (b c : Bool) (m n : ℕ) → b ≡ c → m ≡ n → cond b 0 (suc m) ≡ cond c 0 (suc n)
by_silence b c m n e f = ap₂ (λ (x : Bool) (y : ℕ). cond x 0 (suc y)) e f

each_used : (k : Slots) → Suited k → (s : List ℕ) (n m : ℕ) (g : ℕ → ℕ)
    → used_among (map slot_parts (each n (λ i. slot_of k s (g i)) ++ replicate m no_slot)) ≡ used_among (each n (λ i. map (cut s) (slot_rows k (g i))))
unfolding used_among
each_used k t s zero m g = none_used m
each_used k t s (suc n) m g = by_silence _ _ _ _ (same_silence k t s (g 0)) (each_used k t s n m (λ i. g (suc i)))

pub frame_used : (k : Slots) → Suited k → (s : List ℕ)
    → used_among (map slot_parts (slots_of s k)) ≡ used_among (each k.count (λ i. map (cut s) (slot_rows k (k.first + k.bits * i))))
unfolding slots_of
frame_used k t s = each_used k t s k.count (16 - k.count) (λ i. k.first + k.bits * i)
