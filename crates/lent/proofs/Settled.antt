-- Every public function of `lent` is settled (crate `settled`).
use Prim.Native.Nat.{ℕ}
use mathlib.Core.Path.{◌≡◌}
use mathlib.Core.List.{List}
use Rattle.lent.specs.Writing.{Wrote}
use Rattle.lent.proofs as lent
use Rattle.lent.specs.contracts as promised
use Rattle.settled.specs.Settled.{Settled}
use Rattle.settled.proofs.Law.{answer, both}

-- the contracts speak of the place behind and of the lent buffer
place_and_buffer : {U : Type 0} (in_place : List ℕ → U) {l b c t : List ℕ} {i x y : ℕ} → Wrote l b i x t → Wrote l c i y t → ◌≡◌ {A = ℕ × U} (x, in_place b) (y, in_place c)
place_and_buffer in_place v w = both in_place (v.place, v.bytes) (w.place, w.bytes)

-- the lent buffer is the first parameter of three
abbrev of_three : List ℕ → List ℕ × (Unit {0} × (Unit {0} × Unit {0}))
of_three b = (b, (tt, (tt, tt)))

pub put_byte_is_settled : Settled promised.put_byte.ended lent.put_byte.Reads.Post
put_byte_is_settled κs a x y = place_and_buffer of_three

pub put_bytes_is_settled : Settled promised.put_bytes.ended lent.put_bytes.Reads.Post
put_bytes_is_settled κs a x y = place_and_buffer of_three

pub put_decimal_is_settled : Settled promised.put_decimal.ended lent.put_decimal.Reads.Post
put_decimal_is_settled κs a x y = place_and_buffer of_three

pub byte_of_is_settled : Settled promised.number.byte_of.ended lent.number.byte_of.Reads.Post
byte_of_is_settled κs a x y = answer
