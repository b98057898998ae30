-- Values that keep their rules fit their widths.
use mathlib.Core.Path.{◌≡◌, refl, sym, subst}
use mathlib.Core.Bool.{true}
use mathlib.Core.Logic.{⊎_elim}
use Prim.Native.Nat.{ℕ, ◌+◌, ◌^◌, ◌<◌}
use native.Mathlib.Nat.{suc-ne-zero, suc_inj}
use mathlib.Core.List.{List, [], ◌∷◌, ◌++◌, map-append}
use lib.ListN.{length}
use lib.Pow.{pow_pos}
use Rattle.bits.specs.Layout.{Fit}
use Rattle.rows.specs.Layout.{Row, Layout, common, ending, slot_rows, slots_rows, all_rows, bounded, all_fit, Slots}
use Rattle.rows.specs.Values.{Values, joined, flat, widths}
use Rattle.rows.specs.Kept.{Kept, Empty, AllEmpty, LaterKept, SlotsKept, Holds}
use Rattle.rows.proofs.Rules.Outcomes.{and_both, both_and}
use Rattle.rows.proofs.Rules.Kinds.{keeps_below}
use Rattle.rows.proofs.Layouts.Lengths.{SlotsFilled, Filled}

-- ---- one field

zero_below : (w v : ℕ) → v ≡ 0 → v < 2 ^ w
zero_below w v e = subst (λ (x : ℕ). x < 2 ^ w) (sym e) (pow_pos w)

-- ---- fields one behind the other

kept_fit : (past : List ℕ) (rs : List Row) (vs : List ℕ) → length vs ≡ length rs → all_fit rs ≡ true → Kept past rs vs → Fit (widths rs) vs
kept_fit past [] [] l b h = tt
kept_fit past [] (v ∷ vs) l b h = absurd (suc-ne-zero (length vs) l)
kept_fit past (r ∷ rs) [] l b h = absurd (suc-ne-zero (length rs) (sym l))
kept_fit past (r ∷ rs) (v ∷ vs) l b h =
    let q = and_both (bounded r.rule (2 ^ r.width)) (all_fit rs) b in
    (keeps_below r.rule (2 ^ r.width) past v vs q.0 h.0, kept_fit (v ∷ past) rs vs (suc_inj l) q.1 h.1)

empty_fit : (rs : List Row) (vs : List ℕ) → length vs ≡ length rs → Empty vs → Fit (widths rs) vs
empty_fit [] [] l h = tt
empty_fit [] (v ∷ vs) l h = absurd (suc-ne-zero (length vs) l)
empty_fit (r ∷ rs) [] l h = absurd (suc-ne-zero (length rs) (sym l))
empty_fit (r ∷ rs) (v ∷ vs) l h = (zero_below r.width v h.0, empty_fit rs vs (suc_inj l) h.1)

fit_append : (ws xs vs us : List ℕ) → Fit ws vs → Fit xs us → Fit (ws ++ xs) (vs ++ us)
fit_append [] xs [] us f g = g
fit_append [] xs (v ∷ vs) us f g = absurd f
fit_append (w ∷ ws) xs [] us f g = absurd f
fit_append (w ∷ ws) xs (v ∷ vs) us f g = (f.0, fit_append ws xs vs us f.1 g)

-- the same over rows
behind_fit : (rs qs : List Row) (vs us : List ℕ) → Fit (widths rs) vs → Fit (widths qs) us → Fit (widths (rs ++ qs)) (vs ++ us)
behind_fit rs qs vs us f g = simp map-append (fit_append (widths rs) (widths qs) vs us f g)

all_fit_both : (rs qs : List Row) → all_fit (rs ++ qs) ≡ true → (all_fit rs ≡ true) × (all_fit qs ≡ true)
all_fit_both [] qs b = (refl, b)
all_fit_both (r ∷ rs) qs b =
    let q = and_both (bounded r.rule (2 ^ r.width)) (all_fit (rs ++ qs)) b in
    let t = all_fit_both rs qs q.1 in
    (both_and (bounded r.rule (2 ^ r.width)) (all_fit rs) q.0 t.0, t.1)

-- ---- slots

-- the rows of all slots from the bit `at` on
abbrev rows_from : Slots → ℕ → List (List ℕ) → List Row
rows_from k at vs = slots_rows k (length vs) at

all-empty_fit : (k : Slots) (at : ℕ) (vs : List (List ℕ)) → SlotsFilled k at vs → AllEmpty vs → Fit (widths (rows_from k at vs)) (joined vs)
all-empty_fit k at [] l h = tt
all-empty_fit k at (v ∷ vs) l h =
    behind_fit (slot_rows k at) (rows_from k (at + k.bits) vs) v (joined vs) (empty_fit (slot_rows k at) v l.0 h.0)
    (all-empty_fit k (at + k.bits) vs l.1 h.1)

later_fit : (k : Slots) (at : ℕ) (vs : List (List ℕ)) → SlotsFilled k at vs → all_fit (rows_from k at vs) ≡ true → LaterKept k at vs
    → Fit (widths (rows_from k at vs)) (joined vs)
later_fit k at [] l b h = tt
later_fit k at (v ∷ vs) l b h =
    let q = all_fit_both (slot_rows k at) (rows_from k (at + k.bits) vs) b in
    ⊎_elim (λ e. all-empty_fit k at (v ∷ vs) l e)
    (λ u. behind_fit (slot_rows k at) (rows_from k (at + k.bits) vs) v (joined vs) (kept_fit [] (slot_rows k at) v l.0 q.0 u.1.0)
    (later_fit k (at + k.bits) vs l.1 q.1 u.1.1))
    h

slots_fit : (k : Slots) (vs : List (List ℕ)) → SlotsFilled k k.first vs → all_fit (rows_from k k.first vs) ≡ true → SlotsKept k vs
    → Fit (widths (rows_from k k.first vs)) (joined vs)
slots_fit k [] l b h = tt
slots_fit k (v ∷ vs) l b h =
    let at = k.first in
    let q = all_fit_both (slot_rows k at) (rows_from k (at + k.bits) vs) b in
    behind_fit (slot_rows k at) (rows_from k (at + k.bits) vs) v (joined vs) (kept_fit [] (slot_rows k at) v l.0 q.0 h.0)
    (later_fit k (at + k.bits) vs l.1 q.1 h.1)

-- ---- all of them

pub holds_fit : (l : Layout) (v : Values) → Filled l v → all_fit (all_rows l) ≡ true → Holds l v → Fit (widths (all_rows l)) (flat v)
holds_fit l v f b h =
    let k = l.slots in
    let rs = slots_rows k k.count k.first in
    let ends = l.text ++ (l.behind ++ ending) in
    let us = v.text ++ (v.behind ++ v.last) in
    let p = all_fit_both (common l) (l.front ++ (rs ++ ends)) b in
    let q = all_fit_both l.front (rs ++ ends) p.1 in
    let t = all_fit_both rs ends q.1 in
    let x = all_fit_both l.text (l.behind ++ ending) t.1 in
    let u = all_fit_both l.behind ending x.1 in
    let s : Fit (widths rs) (joined v.slots) = rw f.slots at (slots_fit k v.slots f.fields (rw f.slots t.0) h.slots) in
    behind_fit (common l) (l.front ++ (rs ++ ends)) v.head (v.front ++ (joined v.slots ++ us)) (kept_fit [] (common l) v.head f.head p.0 h.head)
    (behind_fit l.front (rs ++ ends) v.front (joined v.slots ++ us) (kept_fit [] l.front v.front f.front q.0 h.front)
    (behind_fit rs ends (joined v.slots) us s
    (behind_fit l.text (l.behind ++ ending) v.text (v.behind ++ v.last) (kept_fit [] l.text v.text f.text x.0 h.text)
    (behind_fit l.behind ending v.behind v.last (kept_fit [] l.behind v.behind f.behind u.0 h.behind) (kept_fit [] ending v.last f.last u.1 h.last)))))
