-- The slots of a frame, one behind the other.
use mathlib.Core.List.{List, ◌∷◌, ◌++◌}
use mathlib.Core.Path.{◌≡◌, refl, ap, ◌∙◌, sym}
use Prim.Native.Nat.{ℕ, zero, suc, ◌+◌, ◌-◌, ◌*◌, ◌<◌, ◌≤◌}
use native.Mathlib.Nat.{zero-add}
use native.Mathlib.Omega.{arith}
use borrow.Author.Tests.{lt-ltb, le-ltb}
use lib.ListN.{replicate}
use Rattle.rows.specs.Layout.{Slots}
use Rattle.rows.specs.Values.{each}
use Rattle.slots.specs.Slots.{slot_of, slot_or_none, slots_of, no_slot}
use Rattle.slots.specs.declared.slot.Slot.{Slot}

no_more : (g : ℕ → Slot) (m : ℕ) → ((i : ℕ) → g i ≡ no_slot) → each m g ≡ replicate m no_slot
no_more g zero k = refl
no_more g (suc m) k =
    let rest = no_more (λ i. g (suc i)) m (λ i. k (suc i)) in
    λ j. k 0 j ∷ rest j

-- the first n are f's, and the m behind them are none
filled_up : (g f : ℕ → Slot) (n m : ℕ) → ((i : ℕ) → i < n → g i ≡ f i) → ((i : ℕ) → n ≤ i → g i ≡ no_slot) → each (n + m) g ≡ each n f ++ replicate m no_slot
filled_up g f zero m h k = rw (zero-add m) (no_more g m (λ i. k i (omega arith)))
filled_up g f (suc n) m h k =
    let more : suc n + m ≡ suc (n + m) = omega arith in
    let rest = filled_up (λ i. g (suc i)) (λ i. f (suc i)) n m (λ i p. h (suc i) (omega (arith, p))) (λ i p. k (suc i) (omega (arith, p))) in
    let first = h 0 (omega arith) in
    ap (λ (l : ℕ). each l g) more ∙ (λ j. first j ∷ rest j)

pub all_sixteen : (k : Slots) (s : List ℕ) → k.count ≤ 16 → each 16 (slot_or_none k s) ≡ slots_of s k
unfolding slots_of
all_sixteen k s h =
    let parts : k.count + (16 - k.count) ≡ 16 = omega arith in
    ap (λ (n : ℕ). each n (slot_or_none k s)) (sym parts)
    ∙ filled_up (slot_or_none k s) (λ i. slot_of k s (k.first + k.bits * i)) k.count (16 - k.count) (λ i p. rw (lt-ltb i k.count p) refl) (λ i p. rw (le-ltb i k.count p) refl)
