-- Cited by private functions alone: a search, and what a chunk came to.
use Rattle.std.specs.Prelude.{ℕ, ◌≤◌, ◌<◌, ◌≡◌, List, length, get_or}
use Rattle.lent.specs.Writing.{Wrote}
use Rattle.listing.specs.declared.scan.Step.{Step}
use Rattle.listing.specs.Scanning.{reach, progress_of}

-- no line feed stands from here on and in front of r
abbrev pub NoFeed : List ℕ → ℕ → ℕ → Type 0
NoFeed s from r = (k : ℕ) → from ≤ k → k < r → get_or s k 0 ≡ 10 → ⊥

-- r is the first index from here on with a line feed, or the length
pub record Found (s : List ℕ) (from r : ℕ) : Type 0 where
  pub low : from ≤ r
  pub high : r ≤ length s
  pub quiet : NoFeed s from r
  pub stops : r < length s → get_or s r 0 ≡ 10

-- a listing with n lines behind it and one begun has taken these bytes, and put what it said into out from at on
pub record Scanned (n : ℕ) (begun bytes out after : List ℕ) (at : ℕ) (r : Step) : Type 0 where
  pub progress : r.progress ≡ progress_of (reach n begun bytes).lines (reach n begun bytes).begun
  pub used : r.used ≡ length bytes
  pub written : Wrote out after at r.written (reach n begun bytes).text
  pub room : r.written ≤ length out
