-- Laws of text at the start of a lent buffer.
use mathlib.Core.Path.{◌≡◌, ap, ◌∙◌}
use mathlib.Core.List.{List, ◌++◌}
use Prim.Native.Nat.{ℕ, ◌≤◌, ◌<◌}
use native.Mathlib.Nat.{zero-add}
use native.Mathlib.Omega.{arith}
use borrow.Author.Tests.{lt-ltb, le-ltb}
use lib.ListN.{length, drop}
use lib.Seq.{sets-eq}
use Rattle.lent.specs.Writing.{Wrote}
use Rattle.lent.proofs.Chains.{all_placed}
use Rattle.listing.specs.Rows.{filled, over, filled_by, longest}

-- a text that fits stands in place of the first bytes
pub wrote_over : {o after t : List ℕ} {n : ℕ} → Wrote o after 0 n t → n ≤ length o → after ≡ over t o
wrote_over {o} {after} {t} {n} w h = w.bytes ∙ sets-eq t o 0 (omega (arith, all_placed h w)) ∙ ap (λ (k : ℕ). t ++ drop k o) (zero-add (length t))

pub wrote_laid : (o after t : List ℕ) (n : ℕ) → Wrote o after 0 n t → n ≤ length o → longest ≤ length o → filled n after ≡ filled_by t o
unfolding filled_by
wrote_laid o after t n w h r = simp (le-ltb (length o) longest r) (λ i. filled ((all_placed h w ∙ zero-add (length t)) i) (wrote_over w h i))

pub too_short : (t o : List ℕ) → length o < longest → filled 0 o ≡ filled_by t o
unfolding filled_by
too_short t o h = simp (lt-ltb (length o) longest h)
