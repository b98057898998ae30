-- Damage to a frame on its way to the receiver (document 02, n): "change at least one bit, all changed bits lying within 24
-- consecutive bits of the 250".
use Rattle.std.specs.Prelude.{ℕ, zero, suc, ◌+◌, ◌≤◌, ◌<◌, ◌≡◌, cond, ◌⊎◌, List, eqb, length}
use Rattle.bits.specs.Frame.{field_of}

-- how many of the first n bits of two frames differ
unfoldable pub changes : ℕ → List ℕ → List ℕ → ℕ
changes zero s t = 0
changes (suc n) s t = changes n s t + cond (eqb (field_of s n 1) (field_of t n 1)) 0 1

-- the frame s became t: at least one bit is changed, and all changed bits lie within w consecutive ones of the 250, from bit k on. No other of
-- the 256 bits that 32 bytes have is changed
pub record Changed (w k : ℕ) (s t : List ℕ) : Type 0 where
  pub sent : length s ≡ 32
  pub came : length t ≡ 32
  pub inside : k + w ≤ 250
  pub kept : (i : ℕ) → i < 256 → (i < k) ⊎ (k + w ≤ i) → field_of s i 1 ≡ field_of t i 1
  pub some : 1 ≤ changes 256 s t

-- the damage of which something is claimed: within bits k to k + 23
abbrev pub Damaged : ℕ → List ℕ → List ℕ → Type 0
Damaged k s t = Changed 24 k s t
