-- A number as bytes.
use Rattle.std.specs.Prelude.{ℕ, zero, suc, ◌+◌, ◌*◌, ◌/◌, ◌%◌, ◌^◌, cond, List, [], ◌∷◌, ◌++◌, ltb}

-- ---- in decimal digits

-- n in decimal, with at most f digits in front of the last
unfoldable pub figures : ℕ → ℕ → List ℕ
figures zero n = (48 + n) ∷ []
figures (suc f) n = cond (ltb n 10) ((48 + n) ∷ []) (figures f (n / 10) ++ ((48 + n % 10) ∷ []))

-- a number has no more digits than its value, or one
unfoldable pub decimal : ℕ → List ℕ
decimal n = figures n n

-- ---- the most significant byte first

-- v in n bytes
abbrev pub wide : ℕ → ℕ → List ℕ
wide zero v = []
wide (suc n) v = v / 2 ^ (8 * n) % 256 ∷ wide n v
