-- One turn of the loop over the lines of a chunk, and its ends.
use mathlib.Core.Path.{◌≡◌, refl, sym, ap, subst, ◌∙◌}
use mathlib.Core.List.{List, [], ◌∷◌, ◌++◌, append-nil}
use Prim.Native.Nat.{ℕ, suc, ◌+◌, ◌-◌, ◌*◌, ◌≤◌, ◌<◌}
use native.Mathlib.Numerals.{add-one}
use native.Mathlib.Omega.{arith}
use lib.ListN.{length, take, drop, get_or, length-append, length-take, length-drop, take-append-drop, drop_of_length-le}
use lib.Seq.{sets, take_all, get_or-take, get_or-drop, drop-cons, drop-drop}
use Rattle.listing.specs.declared.progress.Progress.{Progress}
use Rattle.listing.specs.declared.scan.Step.{Step}
use Rattle.listing.specs.Rows.{cut_text}
use Rattle.listing.specs.Listing.{line_row, limit}
use Rattle.listing.specs.Scanning.{Reach, say, reach, progress_of, begun_in}
use Rattle.lent.specs.Writing.{Wrote}
use Rattle.lent.proofs.Chains.{sets_next, all_placed, placed}
use Rattle.listing.specs.Pieces.{Found, Scanned}
use Rattle.listing.proofs.Chunks.ByteByByte.{Quiet, line_reach, quiet_reach, cut-reach}
use Rattle.listing.proofs.Lines.WrongLines.{kept_row}

-- ---- what a search found

-- a line stands between a and e
pub cut_out : (c : List ℕ) (a e : ℕ) → Found c a e → e < length c → drop a c ≡ take (e - a) (drop a c) ++ (10 ∷ drop (e + 1) c)
cut_out c a e f h =
    let low : a ≤ e = f.low in
    let there : a + (e - a) ≡ e = omega arith in
    sym (take-append-drop (e - a) (drop a c))
    ∙ ap (λ (r : List ℕ). take (e - a) (drop a c) ++ r) (drop-drop (e - a) a c ∙ ap (λ (k : ℕ). drop k c) there ∙ drop-cons c e 0 h ∙ ap (λ (b : ℕ). b ∷ drop (suc e) c) (f.stops h) ∙ ap (λ (k : ℕ). 10 ∷ drop k c) (sym (add-one e)))

pub quiet_found : (c : List ℕ) (a e : ℕ) → Found c a e → Quiet (take (e - a) (drop a c))
quiet_found c a e f k h g =
    let l : k < e - a = omega (arith, length-take (e - a) (drop a c)) in
    f.quiet (a + k) (omega arith) (omega arith) (sym (get_or-take (e - a) (drop a c) k 0 l ∙ get_or-drop a c k 0) ∙ g)

-- ---- the loop

-- what is left to do from here is what was to be done from the beginning
pub record Went (c o₀ o : List ℕ) (n₀ a₀ p₀ n a p : ℕ) : Type 0 where
  pub text : sets o p (reach n [] (drop a c)).text ≡ sets o₀ p₀ (reach n₀ [] (drop a₀ c)).text
  pub place : p + length (reach n [] (drop a c)).text ≡ p₀ + length (reach n₀ [] (drop a₀ c)).text
  pub lines : (reach n [] (drop a c)).lines ≡ (reach n₀ [] (drop a₀ c)).lines
  pub begun : (reach n [] (drop a c)).begun ≡ (reach n₀ [] (drop a₀ c)).begun

-- the line between a and e, and what follows it
line_done : (c : List ℕ) (n a e : ℕ) → n < limit → Found c a e → e < length c → reach n [] (drop a c) ≡ say (line_row (n + 1) (take (e - a) (drop a c))) (reach (n + 1) [] (drop (e + 1) c))
line_done c n a e h f g =
    let l : List ℕ = take (e - a) (drop a c) in
    ap (reach n []) (cut_out c a e f g)
    ∙ line_reach l (drop (e + 1) c) [] n h (omega arith) (quiet_found c a e f)
    ∙ ap (λ (t : List ℕ). say t (reach (suc n) [] (drop (e + 1) c))) (kept_row (suc n) l)
    ∙ ap (λ (m : ℕ). say (line_row m l) (reach m [] (drop (e + 1) c))) (sym (add-one n))

pub turn : (c o₀ o after : List ℕ) (n₀ a₀ p₀ n a p e next : ℕ)
    → Went c o₀ o n₀ a₀ p₀ n a p
    → n < limit
    → Found c a e
    → e < length c
    → Wrote o after p next (line_row (n + 1) (take (e - a) (drop a c)))
    → next ≤ length o
    → Went c o₀ after n₀ a₀ p₀ (n + 1) (e + 1) next
unfolding say
turn c o₀ o after n₀ a₀ p₀ n a p e next w h f g t m =
    let R : List ℕ = line_row (n + 1) (take (e - a) (drop a c)) in
    let W : Reach = reach (n + 1) [] (drop (e + 1) c) in
    let d : reach n [] (drop a c) ≡ say R W = line_done c n a e h f g in
    record {
      text = ap (λ (l : List ℕ). sets l next W.text) t.bytes ∙ sets_next R W.text o p next t.place ∙ sym (ap (λ (x : Reach). sets o p x.text) d) ∙ w.text;
      place = ap (λ (k : ℕ). k + length W.text) (all_placed m t) ∙ omega (arith, length-append R W.text) ∙ sym (ap (λ (x : Reach). p + length x.text) d) ∙ w.place;
      lines = sym (ap (λ (x : Reach). x.lines) d) ∙ w.lines;
      begun = sym (ap (λ (x : Reach). x.begun) d) ∙ w.begun;
    }

-- the row fits, and there is room for a row of each byte behind its line
pub room_left : (size to p next n a e : ℕ) → p + 48 * (n - a) ≤ size → next ≤ p + 48 → a ≤ e → e < n → to ≡ size → (next ≤ size) × (next + 48 * (n - (e + 1)) ≤ to)
room_left size to p next n a e h l low more k = (omega arith, omega arith)

-- where the loop ends with what is left
pub ended : (c o₀ o after : List ℕ) (n₀ a₀ p₀ n a p : ℕ) (x : Reach) (r : Step)
    → Went c o₀ o n₀ a₀ p₀ n a p
    → length o ≡ length o₀
    → reach n [] (drop a c) ≡ x
    → Wrote o after p r.written x.text
    → r.progress ≡ progress_of x.lines x.begun
    → r.used ≡ length c - a₀
    → r.written ≤ length o₀
    → Scanned n₀ [] (drop a₀ c) o₀ after p₀ r
ended c o₀ o after n₀ a₀ p₀ n a p x r w l d t s u m =
    record {
      progress = s ∙ sym (ap (λ (y : Reach). progress_of y.lines y.begun) d) ∙ ap (λ (m : ℕ). progress_of m (reach n [] (drop a c)).begun) w.lines ∙ ap (progress_of (reach n₀ [] (drop a₀ c)).lines) w.begun;
      used = u ∙ sym (length-drop a₀ c);
      room = m;
      written = placed m (t.bytes ∙ sym (ap (λ (y : Reach). sets o p y.text) d) ∙ w.text) (all_placed (omega arith) t ∙ sym (ap (λ (y : Reach). p + length y.text) d) ∙ w.place);
    }

-- ---- its ends

-- no line feed is left
pub tail_reach : (c : List ℕ) (n a e : ℕ) → n < limit → Found c a e → e ≡ length c → reach n [] (drop a c) ≡ record { text = []; lines = n; begun = take 64 (drop a c) }
unfolding reach
tail_reach c n a e h f g =
    let whole : take (e - a) (drop a c) ≡ drop a c = take_all (e - a) (drop a c) (simp length-drop (omega arith)) in
    ap (reach n []) (sym (append-nil (drop a c))) ∙ quiet_reach (drop a c) [] [] n h (omega arith) (subst Quiet whole (quiet_found c a e f))

pub kept_tail : (f r : Progress) (c : List ℕ) (n a k : ℕ) → f ≡ progress_of n [] → length c ≤ a + k → r ≡ progress_of f.lines (take 64 (begun_in f ++ take k (drop a c))) → r ≡ progress_of n (take 64 (drop a c))
unfolding progress_of
kept_tail f r c n a k e h g =
    g
    ∙ ap (λ (x : Progress). progress_of x.lines (take 64 (begun_in x ++ take k (drop a c)))) e
    ∙ ap (λ (l : List ℕ). progress_of n (take 64 l)) (take_all k (drop a c) (simp length-drop (omega arith)))

-- the limit is reached, and a byte is left
pub cut_tail : (c : List ℕ) (n a : ℕ) → n ≡ limit → a < length c → reach n [] (drop a c) ≡ record { text = cut_text; lines = n + 1; begun = [] }
cut_tail c n a e h = rw e (ap (reach limit []) (drop-cons c a 0 h) ∙ cut-reach (get_or c a 0) (drop (suc a) c) [] ∙ rw add-one refl)

-- nothing is left
pub end_reach : (c : List ℕ) (n a : ℕ) → length c ≤ a → reach n [] (drop a c) ≡ record { text = []; lines = n; begun = [] }
unfolding reach
end_reach c n a h = simp (drop_of_length-le c h)
