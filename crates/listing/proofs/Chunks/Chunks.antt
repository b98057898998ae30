-- The ways through a whole chunk, and the end of the input.
use mathlib.Core.Path.{◌≡◌, refl, sym, ap, subst, ◌∙◌}
use mathlib.Core.Bool.{Bool, true, false, cond}
use mathlib.Core.List.{List, [], ◌∷◌, ◌++◌, append-nil}
use Prim.Native.Nat.{ℕ, suc, ◌+◌, ◌-◌, ◌*◌, ◌/◌, ◌≤◌, ◌<◌}
use native.Mathlib.Nat.{min-le_left, min-le_right, mul-div-le, zero-add}
use native.Mathlib.Numerals.{add-one}
use native.Mathlib.Omega.{arith}
use borrow.Author.Tests.{lt-ltb, le-ltb, ltb-true, ltb-false}
use lib.Dec.{ltb}
use lib.ListN.{length, take, drop, length-take}
use lib.Seq.{take_all, length-take-le}
use Rattle.listing.specs.declared.progress.Progress.{Progress}
use Rattle.listing.specs.declared.scan.Step.{Step}
use Rattle.listing.specs.Rows.{cut_text, longest, filled, filled_by}
use Rattle.listing.specs.Listing.{line_row, limit}
use Rattle.listing.specs.Scanning.{Reach, say, reach, last_row, progress_of, begun_in, bytes_taken, after_scan, after_reach, scanned}
use Rattle.lent.specs.Writing.{Wrote}
use Rattle.lent.proofs.Chains.{◌then◌, all_placed}
use Rattle.listing.specs.Pieces.{Found, Scanned}
use Rattle.listing.proofs.Texts.Written.{wrote_over}
use Rattle.listing.proofs.Texts.KeptBytes.{length_padded, begun_back}
use Rattle.listing.proofs.Chunks.ByteByByte.{Quiet, quiet_reach, line_reach, over-reach, cut-reach}
use Rattle.listing.proofs.Lines.LineLoop.{cut_out, quiet_found}

pub settled : (n : ℕ) (begun b o after : List ℕ) (at : ℕ) (r : Step) (x : Reach) → reach n begun b ≡ x → r.progress ≡ progress_of x.lines x.begun → r.used ≡ length b → Wrote o after at r.written x.text → r.written ≤ length o → Scanned n begun b o after at r
settled n begun b o after at r x e s u t m =
    record {
      progress = s ∙ sym (ap (λ (y : Reach). progress_of y.lines y.begun) e);
      used = u;
      room = m;
      written = subst (λ (y : Reach). Wrote o after at r.written y.text) (sym e) t;
    }

-- ---- no line ends

pub whole_reach : (n : ℕ) (begun c : List ℕ) (e : ℕ) → n < limit → length begun ≤ 64 → Found c 0 e → e ≡ length c → reach n begun c ≡ record { text = []; lines = n; begun = take 64 (begun ++ take e c) }
unfolding reach
whole_reach n begun c e h l f g =
    let all : take (e - 0) (drop 0 c) ≡ c = take_all (e - 0) c (omega arith) in
    let same : take e c ≡ c = take_all e c (omega arith) in
    ap (reach n begun) (sym (append-nil c)) ∙ quiet_reach c [] begun n h l (subst Quiet all (quiet_found c 0 e f)) ∙ rw same refl

-- ---- the first line ends at e

first_reach : (n : ℕ) (begun c : List ℕ) (e : ℕ) → n < limit → length begun ≤ 64 → Found c 0 e → e < length c → reach n begun c ≡ say (line_row (n + 1) (take 64 (begun ++ take e c))) (reach (n + 1) [] (drop (e + 1) c))
first_reach n begun c e h l f g =
    let same : e - 0 ≡ e = omega arith in
    let q : Quiet (take e c) = subst (λ (k : ℕ). Quiet (take k c)) same (quiet_found c 0 e f) in
    let split : c ≡ take e c ++ (10 ∷ drop (e + 1) c) = subst (λ (k : ℕ). c ≡ take k c ++ (10 ∷ drop (e + 1) c)) same (cut_out c 0 e f g) in
    ap (reach n begun) split
    ∙ line_reach (take e c) (drop (e + 1) c) begun n h l q
    ∙ ap (λ (m : ℕ). say (line_row m (take 64 (begun ++ take e c))) (reach m [] (drop (e + 1) c))) (sym (add-one n))

kept_line : (f : Progress) (n : ℕ) (l : List ℕ) → f ≡ progress_of n (take 64 l) → begun_in f ≡ take 64 l
kept_line f n l e = ap begun_in e ∙ begun_back n (take 64 l) (omega (arith, length-take 64 l))

pub kept_fits : (f : Progress) (n : ℕ) (l : List ℕ) → f ≡ progress_of n (take 64 l) → f.length ≤ length f.begun
unfolding progress_of
kept_fits f n l e =
    let a : f.length ≡ length (take 64 l) = ap (λ (x : Progress). x.length) e in
    let b : length f.begun ≡ 64 = ap (λ (x : Progress). length x.begun) e ∙ length_padded 64 (take 64 l) in
    omega (arith, length-take 64 l)

pub first_done : (n : ℕ) (begun c o middle after : List ℕ) (e put : ℕ) (f : Progress) (r s : Step)
    → n < limit
    → length begun ≤ 64
    → Found c 0 e
    → e < length c
    → f ≡ progress_of n (take 64 (begun ++ take e c))
    → Wrote o middle 0 put (line_row (n + 1) (begun_in f))
    → Scanned (n + 1) [] (drop (e + 1) c) middle after put r
    → s.progress ≡ r.progress
    → s.written ≡ r.written
    → s.used ≡ length c
    → length middle ≡ length o
    → Scanned n begun c o after 0 s
unfolding say
first_done n begun c o middle after e put f r s h l fd g st w rest es el eu lo =
    let line : List ℕ = line_row (n + 1) (take 64 (begun ++ take e c)) in
    let W : Reach = reach (n + 1) [] (drop (e + 1) c) in
    let row : Wrote o middle 0 put line = subst (λ (q : List ℕ). Wrote o middle 0 put (line_row (n + 1) q)) (kept_line f n (begun ++ take e c) st) w in
    settled n begun c o after 0 s (say line W) (first_reach n begun c e h l fd g) (es ∙ rest.progress) eu (subst (λ (k : ℕ). Wrote o after 0 k (line ++ W.text)) (sym el) (row then rest.written)) (omega (arith, rest.room))

-- ---- the limit was reached before

pub cut_all : (n : ℕ) (begun c : List ℕ) → n ≡ limit → 0 < length c → reach n begun c ≡ record { text = cut_text; lines = n + 1; begun = [] }
cut_all n begun [] e h = absurd (omega arith)
cut_all n begun (b ∷ r) e h = rw e (cut-reach b r begun ∙ rw add-one refl)

never : (n : ℕ) → suc n ≤ 0 → ⊥
never n h = omega arith

pub idle : (n : ℕ) (begun c : List ℕ) → limit ≤ n → (n ≡ limit → length c ≤ 0) → reach n begun c ≡ record { text = []; lines = n; begun = begun }
unfolding reach
idle n begun [] h f = refl
idle n begun (b ∷ r) h f = over-reach (b ∷ r) begun n (more_than (ltb limit n) refl)
  where
    more_than : (t : Bool) → ltb limit n ≡ t → limit < n
    more_than true e = ltb-true limit n e
    more_than false e = absurd (never (length r) (f (omega (arith, ltb-false limit n e))))

-- ---- as much of a chunk as has room

pub taken_fits : (chunk out : List ℕ) → bytes_taken chunk out ≤ length chunk
unfolding bytes_taken
taken_fits chunk out = min-le_left (length chunk) (length out / 48)

pub taken_room : (chunk out : List ℕ) → 48 * bytes_taken chunk out ≤ length out
unfolding bytes_taken
taken_room chunk out = omega (arith, min-le_right (length chunk) (length out / 48), mul-div-le (length out) 48)

pub scan_left : (p : Progress) (chunk out after : List ℕ) (k : ℕ) (r : Step) → k ≡ bytes_taken chunk out → Scanned p.lines (begun_in p) (take k chunk) out after 0 r
    → (after_scan r after ≡ scanned p chunk out) × (r.written ≤ length out)
unfolding scanned
scan_left p chunk out after k r e x =
    let w : Reach = reach p.lines (begun_in p) (take k chunk) in
    let fits : k ≤ length chunk = omega (arith, taken_fits chunk out) in (
      (λ i. after_scan (record { progress = x.progress i; written = (all_placed x.room x.written ∙ zero-add (length w.text)) i; used = (x.used ∙ length-take-le k chunk fits) i }) (wrote_over x.written x.room i))
          ∙ ap (λ (j : ℕ). after_reach (reach p.lines (begun_in p) (take j chunk)) j out) e,
      x.room,
    )

-- ---- the end of the input

pub last_some : (n : ℕ) (l : List ℕ) → n < limit → 0 < length l → line_row (n + 1) l ≡ last_row n l
unfolding last_row
last_some n [] h k = absurd (omega arith)
last_some n (b ∷ l) h k = simp (lt-ltb n limit h, add-one)

pub last_none : (n : ℕ) (l : List ℕ) → length l ≤ 0 → [] ≡ last_row n l
unfolding last_row
last_none n [] k = refl
last_none n (b ∷ l) k = absurd (never (length l) k)

pub last_over : (n : ℕ) (l : List ℕ) → limit ≤ n → [] ≡ last_row n l
unfolding last_row
last_over n [] h = refl
last_over n (b ∷ l) h = simp (le-ltb n limit h)

-- no text leaves any buffer as it is
pub nothing_laid : (t o : List ℕ) → [] ≡ t → (filled 0 o ≡ filled_by t o) × (0 ≤ length o)
unfolding filled_by
nothing_laid t o e = (short_or_not (ltb (length o) longest) ∙ ap (λ (x : List ℕ). filled_by x o) e, omega arith)
  where
    short_or_not : (s : Bool) → filled 0 o ≡ cond s (filled 0 o) (filled 0 o)
    short_or_not true = refl
    short_or_not false = refl
