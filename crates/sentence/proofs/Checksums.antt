-- The checksum, character after character.
use mathlib.Core.Path.{◌≡◌, sym, ap, ◌∙◌}
use mathlib.Core.List.{List, [], ◌∷◌}
use Prim.Native.Nat.{ℕ, zero, suc, ◌<◌}
use native.Mathlib.Omega.{arith}
use lib.Bits.{bit_xor, xor_zero_l, xor_zero_r, xor_self, xor_comm, xor_lt}
use lib.ListN.{length, get_or, set}
use Rattle.std.specs.List.{fold}
use Rattle.sentence.specs.Sentences.{checksum}
use Rattle.bits.specs.Frame.{Bytes}
use Rattle.parity.proofs.Xor.{xor_assoc}

-- one character after another, from whatever was taken in before
folded_from : (l : List ℕ) (sum : ℕ) → fold (λ s b. bit_xor s b) sum l ≡ bit_xor sum (checksum l)
unfolding checksum
folded_from [] sum = sym (xor_zero_r sum)
folded_from (x ∷ l) sum = folded_from l (bit_xor sum x) ∙ xor_assoc sum x (checksum l)

pub sum_folded : (l : List ℕ) → fold (λ s b. bit_xor s b) 0 l ≡ checksum l
sum_folded l = folded_from l 0 ∙ xor_zero_l (checksum l)

-- the checksum of bytes is a byte
pub sum_below : (l : List ℕ) → Bytes l → checksum l < 256
unfolding checksum
sum_below [] b = omega arith
sum_below (x ∷ l) b = xor_lt 8 x (checksum l) (b 0) (sum_below l (λ i. b (suc i)))

-- ---- "one character .. changed to another"

xor_back : (a x : ℕ) → bit_xor a (bit_xor a x) ≡ x
xor_back a x = sym (xor_assoc a a x) ∙ ap (λ (z : ℕ). bit_xor z x) (xor_self a) ∙ xor_zero_l x

cancel_left : (a x y : ℕ) → bit_xor a x ≡ bit_xor a y → x ≡ y
cancel_left a x y e = sym (xor_back a x) ∙ ap (bit_xor a) e ∙ xor_back a y

cancel_right : (a x y : ℕ) → bit_xor x a ≡ bit_xor y a → x ≡ y
cancel_right a x y e = cancel_left a x y (xor_comm a x ∙ e ∙ xor_comm y a)

pub sum_changed : (l : List ℕ) (i b : ℕ) → i < length l → checksum (set l i b) ≡ checksum l → b ≡ get_or l i 0
unfolding checksum
sum_changed [] i b h e = absurd (omega arith)
sum_changed (x ∷ l) zero b h e = cancel_right (checksum l) b x e
sum_changed (x ∷ l) (suc i) b h e = sum_changed l i b (omega arith) (cancel_left x (checksum (set l i b)) (checksum l) e)
