-- Laws of a listing byte by byte.
use mathlib.Core.Path.{◌≡◌, refl, sym, ap, ◌∙◌}
use mathlib.Core.Bool.{Bool, true, false, not, ◌&&◌, ◌||◌}
use mathlib.Core.List.{List, [], ◌∷◌, ◌++◌, append_assoc, append-nil}
use Prim.Native.Nat.{ℕ, zero, suc, ◌+◌, ◌≤◌, ◌<◌}
use native.Mathlib.Omega.{arith}
use borrow.Author.Tests.{lt-ltb, le-ltb, eq-eqb, ne_eqb, ltb-true, ltb-false}
use lib.Dec.{ltb, eqb}
use lib.ListN.{length, take, get_or, length-take}
use lib.Seq.{take_all}
use Rattle.rows.proofs.Rules.Outcomes.{false_not_true, and_both}
use Rattle.listing.specs.Rows.{cut_text}
use Rattle.listing.specs.Listing.{line_row, limit}
use Rattle.listing.specs.Scanning.{say, reach}
use Rattle.listing.proofs.Texts.KeptBytes.{take_kept}

pub limit_is : limit ≡ 1000000
unfolding limit
limit_is = refl

-- ---- bytes without a line feed

abbrev pub Quiet : List ℕ → Type 0
Quiet l = (k : ℕ) → k < length l → get_or l k 0 ≡ 10 → ⊥

-- a search goes on by one byte
pub none_more : (s : List ℕ) (from i : ℕ) → ((k : ℕ) → from ≤ k → k < i → get_or s k 0 ≡ 10 → ⊥) → (get_or s i 0 ≡ 10 → ⊥) → (k : ℕ) → from ≤ k → k < i + 1 → get_or s k 0 ≡ 10 → ⊥
none_more s from i before here k h l e = at_or_before (ltb k i) refl
  where
    at_or_before : (t : Bool) → ltb k i ≡ t → ⊥
    at_or_before true b = before k h (ltb-true k i b) e
    at_or_before false b = let same : k ≡ i = omega (arith, ltb-false k i b) in here (rw same at e)

-- the same of 63 bytes that are looked at without a stop; whatever stands behind them is passed over
pub no_feed_more : (s : List ℕ) (from i : ℕ) (none : Bool) → (none ≡ true → (k : ℕ) → k < 63 → k < i → get_or s (from + k) 0 ≡ 10 → ⊥)
    → none && (not (eqb (get_or s (from + i) 0) 10) || eqb i 63) ≡ true → (k : ℕ) → k < 63 → k < i + 1 → get_or s (from + k) 0 ≡ 10 → ⊥
no_feed_more s from i none before e k h l f = at_or_before (ltb k i) refl
  where
    here : k ≡ i → ⊥
    here same =
        let feed : get_or s (from + i) 0 ≡ 10 = rw same at f in
        let inside : i ≡ 63 → ⊥ = λ q. omega arith in
        false_not_true (simp (eq-eqb (get_or s (from + i) 0) 10 feed, ne_eqb i 63 inside) at (and_both none _ e).1)

    at_or_before : (t : Bool) → ltb k i ≡ t → ⊥
    at_or_before true b = before (and_both none _ e).0 k h (ltb-true k i b) f
    at_or_before false b = here (omega (arith, ltb-false k i b))

pub byte_reach : (r begun : List ℕ) (n b : ℕ) → n < limit → (b ≡ 10 → ⊥) → reach n begun (b ∷ r) ≡ reach n (take 64 (begun ++ (b ∷ []))) r
unfolding reach
byte_reach r begun n b h f = simp (lt-ltb n limit h, ne_eqb b 10 f)

pub quiet_reach : (q r begun : List ℕ) (n : ℕ) → n < limit → length begun ≤ 64 → Quiet q → reach n begun (q ++ r) ≡ reach n (take 64 (begun ++ q)) r
quiet_reach [] r begun n h l f = ap (λ (x : List ℕ). reach n x r) (sym (ap (take 64) (append-nil begun) ∙ take_all 64 begun l))
quiet_reach (b ∷ q) r begun n h l f =
    let s : List ℕ = take 64 (begun ++ (b ∷ [])) in
    byte_reach (q ++ r) begun n b h (f zero (omega arith))
    ∙ quiet_reach q r s n h (omega (arith, length-take 64 (begun ++ (b ∷ [])))) (λ k g. f (suc k) (omega arith))
    ∙ ap (λ (x : List ℕ). reach n x r) (take_kept 64 (begun ++ (b ∷ [])) q ∙ ap (take 64) (append_assoc begun (b ∷ []) q))

-- ---- a line that ends

pub feed_reach : (r begun : List ℕ) (n : ℕ) → n < limit → reach n begun (10 ∷ r) ≡ say (line_row (suc n) begun) (reach (suc n) [] r)
unfolding reach
feed_reach r begun n h = simp (lt-ltb n limit h)

pub line_reach : (q r begun : List ℕ) (n : ℕ) → n < limit → length begun ≤ 64 → Quiet q → reach n begun (q ++ (10 ∷ r)) ≡ say (line_row (suc n) (take 64 (begun ++ q))) (reach (suc n) [] r)
line_reach q r begun n h l f = quiet_reach q (10 ∷ r) begun n h l f ∙ feed_reach r (take 64 (begun ++ q)) n h

-- ---- behind the last line that is read

pub cut-reach : (b : ℕ) (r begun : List ℕ) → reach limit begun (b ∷ r) ≡ record { text = cut_text; lines = suc limit; begun = [] }
unfolding reach
cut-reach b r begun = simp (le-ltb limit limit (omega arith), eq-eqb limit limit refl)

pub over-reach : (l begun : List ℕ) (n : ℕ) → limit < n → reach n begun l ≡ record { text = []; lines = n; begun = begun }
unfolding reach
over-reach [] begun n h = refl
over-reach (b ∷ r) begun n h = simp (le-ltb n limit (omega arith), ne_eqb n limit (λ e. omega arith))
