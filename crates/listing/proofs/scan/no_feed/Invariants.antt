use Rattle.std.proofs.Common.{◌≡◌, ℕ, ◌+◌, ◌<◌, true, get_or}
use Rattle.listing.proofs.scan.no_feed.Given as goal

-- while nothing was found, no line feed has been passed
abbrev pub invariant-loop-i : goal.invariant-loop-i
invariant-loop-i l = l.none ≡ true → (k : ℕ) → k < 63 → k < l.i → get_or l.s (l.from + k) 0 ≡ 10 → ⊥
