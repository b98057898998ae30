-- What is claimed of what the numbers of a hypocenter say.
use mathlib.Core.Path.{◌≡◌, refl}
use mathlib.Core.Bool.{Bool, true, false, ◌&&◌, cond}
use Prim.Native.Nat.{ℕ, ◌≤◌, ◌<◌}
use native.Mathlib.Omega.{arith}
use lib.Dec.{eqb, leb}
use borrow.Author.Tests.{le-leb, leb-true, lt-leb, ne_eqb}
use Rattle.rows.proofs.Rules.Spans.{in_span, span_in, span_out}
use Rattle.hypocenter.specs.declared.meaning.Depth.TheVariants.{Kilometres, Deeper, Unknown, OutOfRange}
use Rattle.hypocenter.specs.declared.meaning.Magnitude.TheVariants.{InRange, UnknownAboveEight, Unknown as NoMagnitude, OutOfRange as NotAMagnitude}
use Rattle.hypocenter.specs.Hypocenter.{depth_of, magnitude_of}

-- "Depth 0 is a depth; 511 is unknown and 501 means deeper than 500 km"
pub depth_0_is_a_depth : depth_of 0 ≡ Kilometres 0
unfolding depth_of
depth_0_is_a_depth = refl

pub depth_501_is_deeper : depth_of 501 ≡ Deeper
unfolding depth_of
depth_501_is_deeper = refl

pub depth_511_is_unknown : depth_of 511 ≡ Unknown
unfolding depth_of
depth_511_is_unknown = refl

-- .. each code of 0 to 500 is that many kilometres, no code but these and the two is a depth ..
pub each_depth_is_told_in_kilometres : (code : ℕ) → code ≤ 500 → depth_of code ≡ Kilometres code
unfolding depth_of
each_depth_is_told_in_kilometres code h = simp (le-leb code 500 h)

pub no_other_code_is_a_depth : (code : ℕ) → 501 < code → (code ≡ 511 → ⊥) → depth_of code ≡ OutOfRange
unfolding depth_of
no_other_code_is_a_depth code h n = simp (lt-leb code 500 (omega (arith, h)), ne_eqb code 501 (λ e. omega (arith, h, e)), ne_eqb code 511 n)

-- .. and no code but 0 to 500 is ever told in kilometres, nor as others than its own
pub only_a_depth_is_told_in_kilometres : (code km : ℕ) → depth_of code ≡ Kilometres km → (km ≡ code) × (code ≤ 500)
unfolding depth_of
only_a_depth_is_told_in_kilometres code km e = by (leb code 500) (eqb code 501) (eqb code 511) refl e
  where
    by : (a b c : Bool) → leb code 500 ≡ a → cond a (Kilometres code) (cond b Deeper (cond c Unknown OutOfRange)) ≡ Kilometres km → (km ≡ code) × (code ≤ 500)
    by true b c t e = (let same : km ≡ code = cc in same, leb-true code 500 t)
    by false true c t e = absurd (let z : ◌≡◌ {A = ℕ} 0 1 = cc in omega arith)
    by false false true t e = absurd (let z : ◌≡◌ {A = ℕ} 0 1 = cc in omega arith)
    by false false false t e = absurd (let z : ◌≡◌ {A = ℕ} 0 1 = cc in omega arith)

-- "Magnitude 127 is unknown, 126 is above 8.0 where no moment magnitude is known"
pub magnitude_126_is_above_8 : magnitude_of 126 ≡ UnknownAboveEight
unfolding magnitude_of
magnitude_126_is_above_8 = refl

pub magnitude_127_is_unknown : magnitude_of 127 ≡ NoMagnitude
unfolding magnitude_of
magnitude_127_is_unknown = refl

-- .. each code of 1 to 101 is that many tenths, no code but these and the two is a magnitude ..
pub each_magnitude_is_told_in_tenths : (code : ℕ) → 1 ≤ code → code ≤ 101 → magnitude_of code ≡ InRange code
unfolding magnitude_of
each_magnitude_is_told_in_tenths code low high = simp (span_in 1 101 code (low, high))

pub no_other_code_is_a_magnitude : (code : ℕ) → ((1 ≤ code) × (code ≤ 101) → ⊥) → (code ≡ 126 → ⊥) → (code ≡ 127 → ⊥) → magnitude_of code ≡ NotAMagnitude
unfolding magnitude_of
no_other_code_is_a_magnitude code out n m = simp (span_out 1 101 code out, ne_eqb code 126 n, ne_eqb code 127 m)

-- .. and no code but 1 to 101 is ever told in tenths
pub only_a_magnitude_is_told_in_tenths : (code tenths : ℕ) → magnitude_of code ≡ InRange tenths → (tenths ≡ code) × ((1 ≤ code) × (code ≤ 101))
unfolding magnitude_of
only_a_magnitude_is_told_in_tenths code tenths e = by (leb 1 code && leb code 101) (eqb code 126) (eqb code 127) refl e
  where
    by : (a b c : Bool) → leb 1 code && leb code 101 ≡ a → cond a (InRange code) (cond b UnknownAboveEight (cond c NoMagnitude NotAMagnitude)) ≡ InRange tenths
        → (tenths ≡ code) × ((1 ≤ code) × (code ≤ 101))
    by true b c t e = (let same : tenths ≡ code = cc in same, in_span 1 101 code t)
    by false true c t e = absurd (let z : ◌≡◌ {A = ℕ} 0 1 = cc in omega arith)
    by false false true t e = absurd (let z : ◌≡◌ {A = ℕ} 0 1 = cc in omega arith)
    by false false false t e = absurd (let z : ◌≡◌ {A = ℕ} 0 1 = cc in omega arith)
