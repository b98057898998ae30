-- What a call hands over, where the lengths fit: into the buffer, or the buffer stays as it was.
use Rattle.std.specs.Prelude.{Ok, Err}
use mathlib.Core.Path.{◌≡◌, refl}
use mathlib.Core.Bool.{Bool, true, false}
use Prim.Native.Nat.{ℕ, ◌^◌, ◌≤◌}
use native.Mathlib.Omega.{arith}
use mathlib.Core.List.{List}
use Rattle.rows.specs.Refusals.{plain, says, answers, Verdict}
use Rattle.inserter.specs.Answers.{CallResult, answer_word, handed_over, if_lengths_fit, IsRefusal}
use Rattle.inserter.proofs.Refusing.{refusal_is_high}

pub fits : (right : Bool) (l : CallResult) (buffer : List ℕ) → right ≡ true → if_lengths_fit right l buffer ≡ l
fits right l buffer e = rw e

pub fits_not : (right : Bool) (l : CallResult) (buffer : List ℕ) → right ≡ false → (if_lengths_fit right l buffer).answer ≡ answer_word (plain 255)
fits_not right l buffer e = rw e

pub word_of : (v : Verdict) (bytes buffer : List ℕ) → (handed_over v bytes buffer).answer ≡ answer_word (answers v)
word_of (Ok tt) bytes buffer = refl
word_of (Err x) bytes buffer = refl

-- a refusal leaves the buffer ..
pub kept : (right : Bool) (v : Verdict) (bytes buffer : List ℕ) → IsRefusal (if_lengths_fit right (handed_over v bytes buffer) buffer).answer
    → (if_lengths_fit right (handed_over v bytes buffer) buffer).buffer ≡ buffer
kept false v bytes buffer h = refl
kept true (Ok tt) bytes buffer h = absurd (omega (arith, h))
kept true (Err x) bytes buffer h = refl

-- .. and 0 tells that the bytes are there
pub zero_tells : (right : Bool) (v : Verdict) (bytes buffer : List ℕ) → (if_lengths_fit right (handed_over v bytes buffer) buffer).answer ≡ 0
    → (v ≡ Ok tt) × ((if_lengths_fit right (handed_over v bytes buffer) buffer).buffer ≡ bytes)
zero_tells false v bytes buffer e = absurd (omega (arith, e))
zero_tells true (Ok tt) bytes buffer e = (refl, refl)
zero_tells true (Err x) bytes buffer e = let high : 2 ^ 24 ≤ answer_word (says x) = refusal_is_high x in absurd (omega (arith, high, e))
