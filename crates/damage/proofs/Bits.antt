-- Bits that agree: how many differ, fields that are made of them, and the bytes that they are.
use mathlib.Core.Path.{◌≡◌, refl, sym, subst, ap, ap₂, ◌∙◌}
use mathlib.Core.Bool.{Bool, true, false, cond}
use mathlib.Core.Logic.{◌↔◌}
use Prim.Native.Nat.{ℕ, zero, suc, ◌+◌, ◌-◌, ◌*◌, ◌/◌, ◌%◌, ◌^◌, ◌≤◌, ◌<◌}
use native.Mathlib.Nat.{mod-eq_of_lt}
use native.Mathlib.Omega.{arith}
use mathlib.Core.List.{List}
use lib.Dec.{eqb}
use lib.Pow.{split, shr_mod}
use lib.ListN.{length}
use borrow.Author.Tests.{eqb-true, eqb-false, eq-eqb}
use Rattle.bits.specs.Frame.{Bytes, number, field_of}
use Rattle.bits.proofs.Windows.{window}
use Rattle.bits.proofs.Frames.{field_lt, number_256}
use Rattle.bits.proofs.Claims.{one_number_one_frame}
use Rattle.damage.specs.Damage.{changes}

abbrev pub Same : List ℕ → List ℕ → ℕ → Type 0
Same s t i = field_of s i 1 ≡ field_of t i 1

-- ---- how many differ

pub none_differs : (n : ℕ) (s t : List ℕ) → ((i : ℕ) → i < n → Same s t i) → changes n s t ≡ 0
unfolding changes
none_differs zero s t same = refl
none_differs (suc n) s t same =
    ap₂ (λ (a b : ℕ). a + b) (none_differs n s t (λ i l. same i (omega arith))) (ap (λ (b : Bool). cond b 0 1) (eq-eqb (field_of s n 1) (field_of t n 1) (same n (omega arith))))

one_differs : (n : ℕ) (s t : List ℕ) (i : ℕ) → i < n → (Same s t i → ⊥) → 1 ≤ changes n s t
unfolding changes
one_differs zero s t i l h = absurd (omega arith)
one_differs (suc n) s t i l h = by (eqb (field_of s n 1) (field_of t n 1)) refl (λ m. one_differs n s t i m h)
  where
    by : (b : Bool) → eqb (field_of s n 1) (field_of t n 1) ≡ b → (i < n → 1 ≤ changes n s t) → 1 ≤ changes n s t + cond b 0 1
    by true e before =
        let other : i ≡ n → ⊥ = λ z. h (subst (Same s t) (sym z) (eqb-true (field_of s n 1) (field_of t n 1) e)) in
        omega (arith, before (omega (arith, other)))
    by false e before = omega arith

which_differs : (n : ℕ) (s t : List ℕ) → 1 ≤ changes n s t → (i : ℕ) × ((i < n) × (Same s t i → ⊥))
unfolding changes
which_differs zero s t h = absurd (omega arith)
which_differs (suc n) s t h = by (eqb (field_of s n 1) (field_of t n 1)) refl h (which_differs n s t)
  where
    by : (b : Bool) → eqb (field_of s n 1) (field_of t n 1) ≡ b → 1 ≤ changes n s t + cond b 0 1
        → (1 ≤ changes n s t → (i : ℕ) × ((i < n) × (Same s t i → ⊥))) → (i : ℕ) × ((i < suc n) × (Same s t i → ⊥))
    by true e h before =
        let r = before (omega arith) in
        let below : r.0 < n = r.1.0 in
        (r.0, (omega arith, r.1.1))
    by false e h before = (n, (omega arith, eqb-false (field_of s n 1) (field_of t n 1) e))

pub some_differs : (n : ℕ) (s t : List ℕ) → (1 ≤ changes n s t) ↔ ((i : ℕ) × ((i < n) × (Same s t i → ⊥)))
some_differs n s t = (which_differs n s t, λ d. one_differs n s t d.0 d.1.0 d.1.1)

-- ---- fields

undivided : (x : ℕ) → x / 2 ^ 0 ≡ x
undivided x = omega arith

-- the last bit of a field, and those before it
field_more : (s : List ℕ) (a w : ℕ) → a + suc w ≤ 256 → field_of s a (suc w) ≡ field_of s a w * 2 + field_of s (a + w) 1
field_more s a w h =
    let c : ℕ = 256 - (a + suc w) in
    let x : ℕ = field_of s a (suc w) in
    let below : x < 2 ^ (w + 1) = subst (λ (n : ℕ). x < 2 ^ n) (omega arith) (field_lt s a (suc w)) in
    let up : 256 - (a + w) ≡ c + 1 = omega arith in
    let at : 256 - (a + w + 1) ≡ c + 0 = omega arith in
    let upper : x / 2 ^ 1 ≡ field_of s a w =
    sym (shr_mod w 1 below) ∙ window (number s) c (suc w) 1 w (omega arith) ∙ ap (λ (k : ℕ). number s / 2 ^ k % 2 ^ w) (sym up) in
    let last : x / 2 ^ 0 % 2 ^ 1 ≡ field_of s (a + w) 1 =
    window (number s) c (suc w) 0 1 (omega arith) ∙ ap (λ (k : ℕ). number s / 2 ^ k % 2 ^ 1) (sym at) in
    sym (split x 1) ∙ ap₂ (λ (y z : ℕ). y * 2 + z) upper (ap (λ (y : ℕ). y % 2) (sym (undivided x)) ∙ last)

pub same_field : (s t : List ℕ) (a w : ℕ) → a + w ≤ 256 → ((i : ℕ) → i < w → Same s t (a + i)) → field_of s a w ≡ field_of t a w
same_field s t a zero h same = omega (arith, field_lt s a 0, field_lt t a 0)
same_field s t a (suc w) h same =
    field_more s a w h
    ∙ ap₂ (λ (y z : ℕ). y * 2 + z) (same_field s t a w (omega arith) (λ i l. same i (omega arith))) (same w (omega arith))
    ∙ sym (field_more t a w h)

-- ---- the whole

same_bytes : (s t : List ℕ) → length s ≡ 32 → length t ≡ 32 → Bytes s → Bytes t → ((i : ℕ) → i < 256 → Same s t i) → s ≡ t
same_bytes s t l m b c same =
    one_number_one_frame s t (l ∙ sym m) b c
    (sym (whole s l b) ∙ same_field s t 0 256 (omega arith) (λ i h. same (0 + i) (omega arith)) ∙ whole t m c)
  where
    whole : (u : List ℕ) → length u ≡ 32 → Bytes u → field_of u 0 256 ≡ number u
    whole u n d = ap (λ (x : ℕ). x % 2 ^ 256) (undivided (number u)) ∙ mod-eq_of_lt (number_256 u n d)

all_same : (n : ℕ) (s t : List ℕ) → changes n s t ≡ 0 → (i : ℕ) → i < n → Same s t i
all_same n s t e i l = by (eqb (field_of s i 1) (field_of t i 1)) refl
  where
    by : (b : Bool) → eqb (field_of s i 1) (field_of t i 1) ≡ b → Same s t i
    by true p = eqb-true (field_of s i 1) (field_of t i 1) p
    by false p = absurd (omega (arith, e, one_differs n s t i l (eqb-false (field_of s i 1) (field_of t i 1) p)))

pub changed_bytes : (s t : List ℕ) → length s ≡ 32 → length t ≡ 32 → Bytes s → Bytes t → (1 ≤ changes 256 s t) ↔ (s ≡ t → ⊥)
changed_bytes s t l m b c = (λ h e. not_itself (subst (λ (u : List ℕ). 1 ≤ changes 256 s u) (sym e) h), λ o. some o (changes 256 s t) refl)
  where
    not_itself : 1 ≤ changes 256 s s → ⊥
    not_itself h = omega (arith, none_differs 256 s s (λ i l. refl))

    some : (s ≡ t → ⊥) → (n : ℕ) → changes 256 s t ≡ n → 1 ≤ changes 256 s t
    some o zero e = absurd (o (same_bytes s t l m b c (all_same 256 s t e)))
    some o (suc n) e = omega (arith, e)
