-- The arms of a `match` on a number, for a function whose contract is `r ≡ f number`: each arm by one law, and the last, which
-- has the number that is left, by another.
use mathlib.Core.Path.{◌≡◌, sym, ap}
use Prim.Native.Nat.{ℕ, zero, suc, ◌≤◌, ◌<◌}
use native.Mathlib.Omega.{arith}

-- where the number is n, the arm gives what f gives of n
pub arm : {A : Type 0} (f : ℕ → A) (n : ℕ) {number : ℕ} → number ≡ n → f n ≡ f number
arm f n e = sym (ap f e)

-- what is left past the arms 0 to n - 1
abbrev pub Past : ℕ → ℕ → Type 0
Past zero number = Unit {0}
Past (suc n) number = Past n number × (number ≡ n → ⊥)

past : (n number : ℕ) → Past n number → n ≤ number
past zero number p = omega arith
past (suc n) number p = omega (arith, past n number p.0, p.1)

-- the last arm: a number that no other has
pub last_arm : {A : Type 0} (f : ℕ → A) (n : ℕ) {number : ℕ} → number < suc n → Past n number → f n ≡ f number
last_arm f n {number} h p =
    let e : number ≡ n = omega (arith, past n number p) in
    arm f n e
