-- Laws of decimal digits.
use mathlib.Core.Path.{◌≡◌, refl, ap}
use mathlib.Core.Bool.{Bool, true, false}
use mathlib.Core.List.{[], ◌∷◌, ◌++◌}
use Prim.Native.Nat.{ℕ, zero, suc, ◌+◌, ◌*◌, ◌/◌, ◌%◌, ◌^◌, ◌≤◌, ◌<◌}
use native.Mathlib.Nat.{div-lt_self, div-lt_iff_lt-mul, le-div_iff_mul-le, pow-le-pow_right}
use native.Mathlib.Omega.{arith}
use borrow.Author.Tests.{lt-ltb, le-ltb, ltb-true, ltb-false}
use lib.Dec.{ltb}
use lib.ListN.{length, get_or, take, length-append}
use lib.Seq.{get_or_at, take_at}
use Rattle.lent.specs.Numbers.{figures, decimal}

by_size : (f g n : ℕ) (t : Bool) → ltb n 10 ≡ t → (10 ≤ n → figures f (n / 10) ≡ figures g (n / 10)) → figures (suc f) n ≡ figures (suc g) n
unfolding figures
by_size f g n true e ih = simp e
by_size f g n false e ih = simp (e, ih (ltb-false n 10 e))

pub smaller : (n : ℕ) → 10 ≤ n → n / 10 < n
smaller n h = div-lt_self {n = n} {k = 10} (omega arith) (omega arith)

-- room for more digits than there are changes nothing
same_figures : (f g n : ℕ) → n ≤ f → n ≤ g → figures f n ≡ figures g n
unfolding figures
same_figures zero zero n h k = refl
same_figures zero (suc g) n h k = simp (lt-ltb n 10 (omega arith))
same_figures (suc f) zero n h k = simp (lt-ltb n 10 (omega arith))
same_figures (suc f) (suc g) n h k = by_size f g n (ltb n 10) refl λ b. same_figures f g (n / 10) (omega (arith, smaller n b)) (omega (arith, smaller n b))

pub decimal_one : (n : ℕ) → n < 10 → decimal n ≡ (48 + n) ∷ []
unfolding figures decimal
decimal_one zero h = refl
decimal_one (suc n) h = simp (lt-ltb (suc n) 10 h)

pub decimal_more : (n : ℕ) → 10 ≤ n → decimal n ≡ decimal (n / 10) ++ ((48 + n % 10) ∷ [])
unfolding figures decimal
decimal_more zero h = elim h [ ]
decimal_more (suc n) h = simp (le-ltb (suc n) 10 h, same_figures n (suc n / 10) (suc n / 10) (omega (arith, smaller (suc n) h)) (omega arith))

pub length-decimal_one : (n : ℕ) → n < 10 → length (decimal n) ≡ 1
length-decimal_one n h = ap length (decimal_one n h)

pub length-decimal_more : (n : ℕ) → 10 ≤ n → length (decimal n) ≡ length (decimal (n / 10)) + 1
length-decimal_more n h = simp (decimal_more n h, length-append)

longer : (k n : ℕ) (t : Bool) → ltb n 10 ≡ t → (10 ≤ n → length (decimal (n / 10)) ≤ suc k) → length (decimal n) ≤ suc (suc k)
longer k n true e ih = omega (arith, length-decimal_one n (ltb-true n 10 e))
longer k n false e ih = omega (arith, length-decimal_more n (ltb-false n 10 e), ih (ltb-false n 10 e))

-- ---- from the last digit on

by_last : (n k : ℕ) (t : Bool) → ltb n 10 ≡ t → length (decimal n) ≡ suc k → get_or (decimal n) k 0 ≡ 48 + n % 10
by_last n k true e l =
    let h : n < 10 = ltb-true n 10 e in
    let z : k ≡ 0 = omega (arith, length-decimal_one n h) in
    rw (z, decimal_one n h) (omega arith)
by_last n k false e l =
    let h : 10 ≤ n = ltb-false n 10 e in
    rw (decimal_more n h) (get_or_at (decimal (n / 10)) (48 + n % 10) [] 0 k (omega (arith, length-decimal_more n h)))

pub last_digit : (n k : ℕ) → length (decimal n) ≡ suc k → get_or (decimal n) k 0 ≡ 48 + n % 10
last_digit n k l = by_last n k (ltb n 10) refl l

pub front-digits : (n k : ℕ) → 0 < k → length (decimal n) ≡ suc k → take k (decimal n) ≡ decimal (n / 10)
front-digits n k h l = by (ltb n 10) refl
  where
    by : (t : Bool) → ltb n 10 ≡ t → take k (decimal n) ≡ decimal (n / 10)
    by true e = absurd (omega (arith, length-decimal_one n (ltb-true n 10 e)))
    by false e =
        let b : 10 ≤ n = ltb-false n 10 e in
        rw (decimal_more n b) (take_at (decimal (n / 10)) ((48 + n % 10) ∷ []) k (omega (arith, length-decimal_more n b)))

-- ---- how many

-- a number below 10 ^ (k + 1) has at most k + 1 digits
decimal-length : (k n : ℕ) → n < 10 ^ suc k → length (decimal n) ≤ suc k
decimal-length zero n h = omega (arith, length-decimal_one n h)
decimal-length (suc k) n h = longer k n (ltb n 10) refl λ b. decimal-length k (n / 10) ((div-lt_iff_lt-mul {k = 10} {x = n} {y = 10 ^ suc k} (omega arith)).1 (omega (arith, h)))

-- and one of 10 ^ k or more has as many
decimal-long : (k n : ℕ) → 10 ^ k ≤ n → suc k ≤ length (decimal n)
decimal-long zero n h = some n (ltb n 10) refl
  where
    some : (n : ℕ) (t : Bool) → ltb n 10 ≡ t → 1 ≤ length (decimal n)
    some n true e = omega (arith, length-decimal_one n (ltb-true n 10 e))
    some n false e = omega (arith, length-decimal_more n (ltb-false n 10 e))
decimal-long (suc k) n h =
    let front : 10 ^ k ≤ n / 10 = (le-div_iff_mul-le {k = 10} {x = 10 ^ k} {y = n} (omega arith)).1 (omega (arith, h)) in
    let one : 1 ≤ 10 ^ k = pow-le-pow_right {n = 10} (omega arith) {i = 0} {j = k} (omega arith) in
    omega (arith, h, length-decimal_more n (omega (arith, h, one)), decimal-long k (n / 10) front)

-- the power of ten below it tells how many
pub digits_by_power : (k n : ℕ) → 10 ^ k ≤ n → n < 10 * 10 ^ k → k + 1 ≡ length (decimal n)
digits_by_power k n low high = omega (arith, decimal-long k n low, decimal-length k n (omega (arith, high)))

-- and room for that many is enough
enough : (k f n : ℕ) → n < 10 ^ suc k → n ≤ f → figures f n ≡ figures k n
unfolding figures
enough zero zero n h b = refl
enough zero (suc f) n h b = simp (lt-ltb n 10 h)
enough (suc k) zero n h b = simp (lt-ltb n 10 (omega arith))
enough (suc k) (suc f) n h b = by_size f k n (ltb n 10) refl λ t. enough k f (n / 10) ((div-lt_iff_lt-mul {k = 10} {x = n} {y = 10 ^ suc k} (omega arith)).1 (omega (arith, h))) (omega (arith, smaller n t))

pub decimal_by : (k n : ℕ) → n < 10 ^ suc k → decimal n ≡ figures k n
unfolding decimal
decimal_by k n h = enough k n n h (omega arith)

-- numbers of one byte, of four and of eight
pub three-digits : (n : ℕ) → n < 256 → length (decimal n) ≤ 3
three-digits n h = decimal-length 2 n (omega arith)

pub ten_digits : (n : ℕ) → n < 4294967296 → length (decimal n) ≤ 10
ten_digits n h = decimal-length 9 n (omega arith)

pub twenty_digits : (n : ℕ) → n < 18446744073709551616 → length (decimal n) ≤ 20
twenty_digits n h = decimal-length 19 n (omega arith)
