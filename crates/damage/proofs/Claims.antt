-- What the parity is worth: what is claimed of frames that were damaged on their way, with the sentences of document 02 that it settles.
use mathlib.Core.Path.{◌≡◌}
use mathlib.Core.Logic.{◌⊎◌, ◌↔◌}
use Prim.Native.Nat.{ℕ, ◌≤◌, ◌<◌}
use mathlib.Core.List.{List, [], ◌∷◌}
use lib.ListN.{length}
use Rattle.bits.specs.Frame.{Bytes, field_of}
use Rattle.rows.specs.Kept.{In}
use Rattle.rows.specs.Refusals.{plain}
use Rattle.report.specs.Categories.{preambles}
use Rattle.report.specs.Records.{zeros}
use Rattle.report.specs.Runs.Reading.{read_of, read_says}
use Rattle.report.proofs.Categories.{Each}
use Rattle.damage.specs.Damage.{changes, Changed, Damaged}
use Rattle.damage.proofs.Bits.{some_differs, changed_bytes}
use Rattle.damage.proofs.Refused as Refused
use Rattle.damage.proofs.Examples.{sent, wider, first_three, Found, cases, cases-found, wider_changed, both_read, both_told}

-- ---- the damage

-- "at least one bit": so one of the bits differs ..
pub changes_are_bits_that_differ : (n : ℕ) (s t : List ℕ) → (1 ≤ changes n s t) ↔ ((i : ℕ) × ((i < n) × (field_of s i 1 ≡ field_of t i 1 → ⊥)))
changes_are_bits_that_differ = some_differs

-- .. and that is to say, the bytes that came are not those that were sent.
pub changed_frames_are_other_bytes : (s t : List ℕ) → length s ≡ 32 → length t ≡ 32 → Bytes s → Bytes t → (1 ≤ changes 256 s t) ↔ (s ≡ t → ⊥)
changed_frames_are_other_bytes = changed_bytes

-- ---- what it is answered

-- "take any frame that is read, and change at least one bit, all changed bits lying within 24 consecutive bits of the 250. The result is
-- refused, with 3 or 4 and nothing else", and there is no record of it.
pub a_damaged_frame_is_refused_with_3_or_4 : (s t : List ℕ) (k : ℕ) → read_says s ≡ plain 0 → Damaged k s t
    → ((read_says t ≡ plain 3) ⊎ (read_says t ≡ plain 4)) × ((read_of t).«record» ≡ zeros)
a_damaged_frame_is_refused_with_3_or_4 s t k e d = (Refused.says_3_or_4 s t k e d, Refused.no_record s t k e d)

-- It is 3 exactly where the preamble is none of the three any more ..
pub it_is_3_exactly_where_the_preamble_is_none_of_the_three : (s t : List ℕ) (k : ℕ) → read_says s ≡ plain 0 → Damaged k s t
    → (read_says t ≡ plain 3) ↔ (In preambles (field_of t 0 8) → ⊥)
it_is_3_exactly_where_the_preamble_is_none_of_the_three = Refused.three_exactly

-- .. and 4 exactly where it is one, be it another one than was sent.
pub it_is_4_exactly_where_the_preamble_is_one_of_the_three : (s t : List ℕ) (k : ℕ) → read_says s ≡ plain 0 → Damaged k s t
    → (read_says t ≡ plain 4) ↔ In preambles (field_of t 0 8)
it_is_4_exactly_where_the_preamble_is_one_of_the_three = Refused.four_exactly

-- There are such damages, to a report that is read: in its first bits and in its last, of one bit and of 24, with either answer.
pub damages_are_found : Each Found cases
damages_are_found = cases-found

-- ---- wider damage

-- "Nothing is claimed for wider damage", nor could it be: that report, with bits changed within 25 consecutive ones, is read as another ..
pub damage_within_25_bits_may_be_read : Changed 25 70 sent wider × ((read_says sent ≡ plain 0) × (read_says wider ≡ plain 0))
damage_within_25_bits_may_be_read = (wider_changed, both_read)

-- .. which puts 47, 33 and 17 with intensities 7, 5 and 4 in the places of 44, 45 and 39 with 4, 4 and 3.
pub the_report_then_names_other_prefectures : (first_three sent ≡ (4, 44) ∷ (4, 45) ∷ (3, 39) ∷ []) × (first_three wider ≡ (7, 47) ∷ (5, 33) ∷ (4, 17) ∷ [])
the_report_then_names_other_prefectures = both_told
