-- Frames with right parities are far apart: where two of them agree in all bits but 24 in a row, they agree in these too.
use mathlib.Core.Path.{◌≡◌, refl, sym, subst, ap, ◌∙◌}
use mathlib.Core.Bool.{Bool, true, false}
use mathlib.Core.Logic.{◌⊎◌, inl, inr}
use Prim.Native.Nat.{ℕ, zero, suc, ◌+◌, ◌-◌, ◌^◌, ◌≤◌, ◌<◌}
use native.Mathlib.Omega.{arith}
use mathlib.Core.List.{List}
use lib.Bits.{bit_xor, xor_self, xor_lt}
use lib.Dec.{ltb}
use borrow.Author.Tests.{ltb-true, ltb-false}
use Rattle.bits.specs.Frame.{field_of}
use Rattle.bits.proofs.Frames.{field_lt}
use Rattle.parity.specs.Parity.{step, after, parity_of}
use Rattle.parity.specs.Groups.{bits_of, register_of}
use Rattle.parity.proofs.Step.{after_lt}
use Rattle.parity.proofs.Xor.{xor_swap}
use Rattle.parity.proofs.Front.{after_same}
use Rattle.parity.proofs.EveryBit.{same_number, registers_apart}
use Rattle.parity.proofs.Groups.{zeros, held}
use Rattle.parity.proofs.Taken.{taken, field_bit, after_add, next_group}

-- the same bits keep registers apart ..
steps_apart : (c d : ℕ) (f : ℕ → ℕ) (n : ℕ) → c < 2 ^ 24 → d < 2 ^ 24 → after c f n ≡ after d f n → c ≡ d
steps_apart c d f zero hc hd e = e
steps_apart c d f (suc n) hc hd e =
    steps_apart c d f n hc hd (registers_apart (after c f n) (after d f n) (f n) (after_lt c f n hc) (after_lt d f n hd) e)

-- .. and so a group keeps numbers apart
groups_apart : (x y : ℕ) → x < 2 ^ 24 → y < 2 ^ 24 → register_of x ≡ register_of y → x ≡ y
groups_apart x y hx hy e = steps_apart x y zeros 24 hx hy (held x hx ∙ e ∙ sym (held y hy))

cancelled : (c a b : ℕ) → bit_xor c a ≡ bit_xor c b → a ≡ b
cancelled c a b e =
    same_number a b
    (sym (xor_swap c a c b ∙ ap (λ (x : ℕ). bit_xor x (bit_xor a b)) (xor_self c))
    ∙ ap (λ (x : ℕ). bit_xor x (bit_xor c b)) e
    ∙ xor_self (bit_xor c b))

silent_group : register_of 0 ≡ 0
unfolding register_of step
silent_group = refl

-- a frame whose parity is right leaves nothing in the register
nothing_left : (s : List ℕ) → parity_of s ≡ field_of s 226 24 → taken s 250 ≡ 0
unfolding parity_of
nothing_left s e =
    sym (next_group s 226 (omega arith))
    ∙ ap register_of (ap (λ (x : ℕ). bit_xor x (field_of s 226 24)) e ∙ xor_self (field_of s 226 24))
    ∙ silent_group

module _ (s t : List ℕ) where
  abbrev Same : ℕ → Type 0
  Same i = field_of s i 1 ≡ field_of t i 1

  -- where frames agree behind bit n, their registers there are one only if they were one before
  same_before : (n m : ℕ) → ((i : ℕ) → i < m → Same (n + i)) → taken s (n + m) ≡ taken t (n + m) → taken s n ≡ taken t n
  same_before n m same e =
      steps_apart (taken s n) (taken t n) (λ i. field_of s (n + i) 1) m (after_lt 0 _ n (omega arith)) (after_lt 0 _ n (omega arith))
      (sym (after_add 0 _ n m) ∙ e ∙ after_add 0 _ n m ∙ after_same (taken t n) _ _ m (λ i l. sym (same i l)))

  module _ (k : ℕ) (inside : k + 23 ≤ 249) (outside : (i : ℕ) → i < 250 → (i < k) ⊎ (k + 23 < i) → Same i)
      (right-s : parity_of s ≡ field_of s 226 24) (right-t : parity_of t ≡ field_of t 226 24) where
    same_row : field_of s k 24 ≡ field_of t k 24
    same_row =
        let start : taken s k ≡ taken t k = after_same 0 _ _ k (λ i l. outside i (omega arith) (inl l)) in
        let rest : k + 24 + (250 - (k + 24)) ≡ 250 = omega arith in
        let end : taken s (k + 24) ≡ taken t (k + 24) =
        same_before (k + 24) (250 - (k + 24)) (λ i l. outside (k + 24 + i) (omega arith) (inr (omega arith)))
        (ap (taken s) rest ∙ nothing_left s right-s ∙ sym (ap (taken t) rest ∙ nothing_left t right-t)) in
        cancelled (taken t k) (field_of s k 24) (field_of t k 24)
        (groups_apart _ _
        (xor_lt 24 (taken t k) (field_of s k 24) (after_lt 0 _ k (omega arith)) (field_lt s k 24))
        (xor_lt 24 (taken t k) (field_of t k 24) (after_lt 0 _ k (omega arith)) (field_lt t k 24))
        (ap (λ (c : ℕ). register_of (bit_xor c (field_of s k 24))) (sym start) ∙ next_group s k (omega arith) ∙ end ∙ sym (next_group t k (omega arith))))

    same_inside : (i : ℕ) → i < 24 → Same (k + i)
    same_inside i l = field_bit s k 24 i (omega arith) l ∙ ap (λ (v : ℕ). bits_of 24 v i) same_row ∙ sym (field_bit t k 24 i (omega arith) l)

    pub same_all-over : (i : ℕ) → i < 250 → Same i
    same_all-over i l = by (ltb i k) refl (ltb (k + 23) i) refl
      where
        by : (b : Bool) → ltb i k ≡ b → (c : Bool) → ltb (k + 23) i ≡ c → Same i
        by true p c q = outside i l (inl (ltb-true i k p))
        by false p true q = outside i l (inr (ltb-true (k + 23) i q))
        by false p false q =
            let there : k + (i - k) ≡ i = omega (arith, ltb-false i k p) in
            subst Same there (same_inside (i - k) (omega (arith, ltb-false i k p, ltb-false (k + 23) i q)))
