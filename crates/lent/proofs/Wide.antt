-- A number in n bytes.
use mathlib.Core.Path.{◌≡◌, refl, sym, ap, ◌∙◌}
use Prim.Native.Nat.{ℕ, zero, suc, ◌-◌, ◌*◌, ◌/◌, ◌%◌, ◌^◌, ◌≤◌, ◌<◌}
use native.Mathlib.Nat.{pow-le-pow_right, div-eq_of_lt}
use native.Mathlib.Omega.{arith}
use lib.ListN.{length, get_or}
use Rattle.lent.specs.Numbers.{wide}

pub length-wide : (n v : ℕ) → length (wide n v) ≡ n
length-wide zero v = refl
length-wide (suc n) v = ap suc (length-wide n v)

-- byte k of n has n - 1 - k bytes behind it
pub byte_of_wide : (n v k : ℕ) → k < n → get_or (wide n v) k 0 ≡ v / 2 ^ (8 * (n - 1 - k)) % 256
byte_of_wide zero v k h = elim h [ ]
byte_of_wide (suc n) v zero h = ap (λ (e : ℕ). v / 2 ^ (8 * e) % 256) (omega arith)
byte_of_wide (suc n) v (suc k) h = byte_of_wide n v k (omega arith) ∙ ap (λ (e : ℕ). v / 2 ^ (8 * e) % 256) (omega arith)

-- a number of 64 bits has no byte with eight or more behind it
pub no_byte : (v n : ℕ) → v < 2 ^ 64 → 8 ≤ n → 0 ≡ v / 2 ^ (8 * n) % 256
no_byte v n h e =
    let p : 2 ^ 64 ≤ 2 ^ (8 * n) = pow-le-pow_right {n = 2} (omega arith) {i = 64} {j = 8 * n} (omega arith) in
    sym (ap (λ (q : ℕ). q % 256) (div-eq_of_lt (omega arith)))
