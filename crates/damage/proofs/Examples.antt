-- A report of document 004, and what damage makes of it.
use mathlib.Core.Path.{◌≡◌, refl, sym, subst, ap, ◌∙◌}
use mathlib.Core.Logic.{⊎_elim}
use Prim.Native.Nat.{ℕ, suc, ◌+◌, ◌-◌, ◌*◌, ◌^◌, ◌≤◌, ◌<◌}
use native.Mathlib.Nat.{zero-add}
use native.Mathlib.Omega.{arith}
use mathlib.Core.List.{List, [], ◌∷◌, map}
use lib.ListN.{length, take}
use Rattle.bits.specs.Frame.{bytes_of, field_of}
use Rattle.parity.specs.Parity.{step, parity_of}
use Rattle.parity.specs.Groups.{bits_of}
use Rattle.parity.proofs.Taken.{field_bit}
use Rattle.rows.specs.Refusals.{plain}
use Rattle.rows.specs.Runs.Verdict.{allowed, empty, judge, later, slots_verdict, verdict, walk}
use Rattle.rows.specs.Values.{values_of}
use Rattle.slots.specs.Slots.{slots_of}
use Rattle.slots.specs.declared.slot.Slot.{Slot}
use Rattle.report.specs.Categories.{body_from}
use Rattle.report.specs.Records.{record_as, record_of}
use Rattle.report.specs.Runs.Reading.{outer_of, read_says}
use Rattle.report.proofs.Categories.{Each}
use Rattle.damage.specs.Damage.{changes, Changed, Damaged}
use Rattle.damage.proofs.Bits.{Same}

-- the frame of a line of 63 digits
abbrev pub frame_of : ℕ → List ℕ
frame_of line = bytes_of (line * 2 ^ 4)

-- the intensity report of document 004
abbrev pub sent : List ℕ
sent = frame_of 0x53AF99AC828002C82CB25AE775A8D4CA854AB80000000000000000100412DE0

-- intensity and prefecture of the first three slots of a frame
abbrev pub first_three : List ℕ → List (ℕ × ℕ)
first_three s = map {B = ℕ × ℕ} (λ (x : Slot). (x.strength, x.place)) (take 3 (record_of s).slots)

-- ---- where two frames agree, told by the two fields beside the damage

module _ (w k : ℕ) (s t : List ℕ) (inside : k + w ≤ 250) (l : length s ≡ 32) (m : length t ≡ 32)
    (front : field_of s 0 k ≡ field_of t 0 k) (behind : field_of s (k + w) (256 - (k + w)) ≡ field_of t (k + w) (256 - (k + w)))
    (n : ℕ) (some : changes 256 s t ≡ suc n) where
  same_part : (a u i : ℕ) → a + u ≤ 256 → i < u → field_of s a u ≡ field_of t a u → Same s t (a + i)
  same_part a u i h j e = field_bit s a u i h j ∙ ap (λ (v : ℕ). bits_of u v i) e ∙ sym (field_bit t a u i h j)

  pub changed_between : Changed w k s t
  changed_between = record {
    sent = l;
    came = m;
    inside = omega (arith, inside);
    kept = λ i h o. ⊎_elim
        (λ p. subst (Same s t) (zero-add i) (same_part 0 k i (omega arith) p front))
        (λ p.
        let there : k + w + (i - (k + w)) ≡ i = omega arith in
        subst (Same s t) there (same_part (k + w) (256 - (k + w)) (i - (k + w)) (omega arith) (omega arith) behind))
        o;
    some = omega (arith, some);
  }

-- ---- damage that is found

-- which 24 bits are damaged, the line that came, and what is answered to it
pub record Case : Type 0 where
  pub first : ℕ
  pub line : ℕ
  pub number : ℕ

abbrev pub cases : List Case
cases =
    -- the last bit of the preamble, so that it is 52
    record { first = 0; line = 0x52AF99AC828002C82CB25AE775A8D4CA854AB80000000000000000100412DE0; number = 3 }
    -- the first 24 bits: preamble, message type, classification, category and month
    ∷ record { first = 0; line = 0xAC5066AC828002C82CB25AE775A8D4CA854AB80000000000000000100412DE0; number = 3 }
    -- a preamble for another of the three, 9A
    ∷ record { first = 0; line = 0x9AAF99AC828002C82CB25AE775A8D4CA854AB80000000000000000100412DE0; number = 4 }
    -- three intensities and prefectures, in 13 bits from 70 to 93
    ∷ record { first = 70; line = 0x53AF99AC828002C82FBEC31375A8D4CA854AB80000000000000000100412DE0; number = 4 }
    -- the parity itself, all of its bits
    ∷ record { first = 226; line = 0x53AF99AC828002C82CB25AE775A8D4CA854AB80000000000000000103BED21C; number = 4 } ∷ []

abbrev pub Found : Case → Type 0
Found c = Damaged c.first sent (frame_of c.line) × (read_says (frame_of c.line) ≡ plain c.number)

pub cases-found : Each Found cases
unfolding changes outer_of allowed parity_of step
cases-found = (
  (changed_between _ 0 sent _ (omega arith) refl refl refl refl 0 refl, refl),
  (
    (changed_between _ 0 sent _ (omega arith) refl refl refl refl 23 refl, refl),
    (
      (changed_between _ 0 sent _ (omega arith) refl refl refl refl 3 refl, refl),
      (
        (changed_between _ 70 sent _ (omega arith) refl refl refl refl 12 refl, refl),
        ((changed_between _ 226 sent _ (omega arith) refl refl refl refl 23 refl, refl), tt),
      ),
    ),
  ),
)

-- ---- damage that is not

-- the same damage as at 70 above, and bit 94 with it
abbrev pub wider : List ℕ
wider = frame_of 0x53AF99AC828002C82FBEC31175A8D4CA854AB80000000000000000100412DE0

pub wider_changed : Changed 25 70 sent wider
unfolding changes
wider_changed = changed_between 25 70 sent wider (omega arith) refl refl refl refl 13 refl

pub both_read : (read_says sent ≡ plain 0) × (read_says wider ≡ plain 0)
unfolding outer_of allowed parity_of step body_from verdict values_of walk judge slots_verdict later empty
both_read = (refl, refl)

pub both_told : (first_three sent ≡ (4, 44) ∷ (4, 45) ∷ (3, 39) ∷ []) × (first_three wider ≡ (7, 47) ∷ (5, 33) ∷ (4, 17) ∷ [])
unfolding record_as body_from slots_of
both_told = (refl, refl)
