-- A chunk and the next are one chunk.
use mathlib.Core.Path.{◌≡◌, refl, sym, ap, ◌∙◌}
use mathlib.Core.Bool.{Bool, true, false, cond}
use mathlib.Core.List.{List, [], ◌∷◌, ◌++◌, append_assoc, append-nil}
use Prim.Native.Nat.{ℕ, suc, ◌≤◌, ◌<◌}
use native.Mathlib.Omega.{arith}
use borrow.Author.Tests.{ltb-true, ltb-false, eqb-true, eqb-false}
use lib.Dec.{ltb, eqb}
use lib.ListN.{length, take, length-take}
use Rattle.listing.specs.Rows.{cut_text}
use Rattle.listing.specs.Listing.{line_row, limit}
use Rattle.listing.specs.Scanning.{Reach, say, reach}
use Rattle.listing.proofs.Chunks.ByteByByte.{byte_reach, feed_reach, cut-reach, over-reach}

say-say : (t u : List ℕ) (w : Reach) → say t (say u w) ≡ say (t ++ u) w
unfolding say
say-say t u w = sym (λ i. record { text = append_assoc t u w.text i; lines = w.lines; begun = w.begun })

-- further bytes, from where a listing came
abbrev pub onward : Reach → List ℕ → Reach
onward w b = say w.text (reach w.lines w.begun b)

by_byte : (a b begun : List ℕ) (n x : ℕ) (t : Bool) → eqb x 10 ≡ t → n < limit
    → reach (suc n) [] (a ++ b) ≡ onward (reach (suc n) [] a) b
    → reach n (take 64 (begun ++ (x ∷ []))) (a ++ b) ≡ onward (reach n (take 64 (begun ++ (x ∷ []))) a) b
    → reach n begun (x ∷ (a ++ b)) ≡ onward (reach n begun (x ∷ a)) b
unfolding say
by_byte a b begun n x true e h new old =
    rw (eqb-true x 10 e) (rw (feed_reach a begun n h) (feed_reach (a ++ b) begun n h ∙ ap (say (line_row (suc n) begun)) new ∙ say-say (line_row (suc n) begun) (reach (suc n) [] a).text _))
by_byte a b begun n x false e h new old = rw (byte_reach a begun n x h (eqb-false x 10 e)) (byte_reach (a ++ b) begun n x h (eqb-false x 10 e) ∙ old)

over-limit : (a b begun : List ℕ) (n x : ℕ) (t : Bool) → eqb n limit ≡ t → limit ≤ n → reach n begun (x ∷ (a ++ b)) ≡ onward (reach n begun (x ∷ a)) b
unfolding say
over-limit a b begun n x true e h =
    rw (eqb-true n limit e) (rw (cut-reach x a begun) (cut-reach x (a ++ b) begun ∙ sym (ap (say cut_text) (over-reach b [] (suc limit) (omega arith)) ∙ λ i. record { text = append-nil cut_text i; lines = suc limit; begun = [] })))
over-limit a b begun n x false e h =
    let more : limit < n = omega (arith, eqb-false n limit e) in
    rw (over-reach (x ∷ a) begun n more) (over-reach (x ∷ (a ++ b)) begun n more ∙ sym (ap (say []) (over-reach b begun n more)))

under_or_over : (a b begun : List ℕ) (n x : ℕ) (t : Bool) → ltb n limit ≡ t
    → reach (suc n) [] (a ++ b) ≡ onward (reach (suc n) [] a) b
    → reach n (take 64 (begun ++ (x ∷ []))) (a ++ b) ≡ onward (reach n (take 64 (begun ++ (x ∷ []))) a) b
    → reach n begun (x ∷ (a ++ b)) ≡ onward (reach n begun (x ∷ a)) b
under_or_over a b begun n x true e new old = by_byte a b begun n x (eqb x 10) refl (ltb-true n limit e) new old
under_or_over a b begun n x false e new old = over-limit a b begun n x (eqb n limit) refl (ltb-false n limit e)

-- two chunks come to what the first comes to, and then the second from there
pub chunks_join : (a b begun : List ℕ) (n : ℕ) → reach n begun (a ++ b) ≡ onward (reach n begun a) b
unfolding reach say
chunks_join [] b begun n = refl
chunks_join (x ∷ a) b begun n = under_or_over a b begun n x (ltb n limit) refl (chunks_join a b [] (suc n)) (chunks_join a b (take 64 (begun ++ (x ∷ []))) n)

-- ---- no more is kept of a line than 64 bytes

short_at : (r begun : List ℕ) (n b : ℕ) (t u v : Bool) → length begun ≤ 64 → length (reach (suc n) [] r).begun ≤ 64 → length (reach n (take 64 (begun ++ (b ∷ []))) r).begun ≤ 64
    → length (cond t (cond u (say (line_row (suc n) begun) (reach (suc n) [] r)) (reach n (take 64 (begun ++ (b ∷ []))) r)) (cond v (record { text = cut_text; lines = suc n; begun = [] }) (record { text = []; lines = n; begun = begun }))).begun ≤ 64
unfolding say
short_at r begun n b true true v h new old = new
short_at r begun n b true false v h new old = old
short_at r begun n b false u true h new old = omega arith
short_at r begun n b false u false h new old = h

pub stays_short : (l begun : List ℕ) (n : ℕ) → length begun ≤ 64 → length (reach n begun l).begun ≤ 64
unfolding reach
stays_short [] begun n h = h
stays_short (b ∷ r) begun n h = short_at r begun n b (ltb n limit) (eqb b 10) (eqb n limit) h (stays_short r [] (suc n) (omega arith)) (stays_short r (take 64 (begun ++ (b ∷ []))) n (omega (arith, length-take 64 (begun ++ (b ∷ [])))))
