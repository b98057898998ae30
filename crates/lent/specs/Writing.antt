-- What putting bytes into a lent buffer does, with any buffer and at any place.
use Rattle.std.specs.Prelude.{ℕ, ◌+◌, ◌-◌, min, ◌≡◌, List, length}
use Rattle.std.proofs.lemmas.List.Edits.{sets}

-- `before` became `after` by the bytes t from the place `at` on, those behind its end left out. `next` is the place behind
-- t. Where bytes were left out it is the first place past the end, and a place further on stays: next ≤ length before says
-- that all of t stands there
pub record Wrote (before after : List ℕ) (at next : ℕ) (t : List ℕ) : Type 0 where
  pub bytes : after ≡ sets before at t
  pub place : next ≡ at + min (length t) (length before + 1 - at)
