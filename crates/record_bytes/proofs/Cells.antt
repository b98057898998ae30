-- Fields one behind the other, each in the bytes that its width asks for: put, and read back.
use mathlib.Core.Path.{◌≡◌, refl, sym, ap, ◌∙◌}
use Prim.Native.Nat.{ℕ, zero, suc, ◌+◌, ◌-◌, ◌*◌, ◌/◌, ◌%◌, ◌^◌, ◌≤◌, ◌<◌}
use mathlib.Core.Bool.{Bool, cond, false, true}
use lib.Dec.{eqb, leb}
use borrow.Author.Tests.{eqb-true, leb-true}
use native.Mathlib.Nat.{mod-eq_of_lt, mod-lt}
use native.Mathlib.Numerals.{add-one}
use native.Mathlib.Omega.{arith}
use mathlib.Core.List.{List, [], ◌∷◌, ◌++◌, append_assoc, append-nil, map}
use lib.ListN.{length, get_or, set, take, drop, replicate, length-append, length-drop, take-append-drop}
use lib.Seq.{append_snoc, drop_at, drop-cons, drop-drop, get_or-drop, length-take-le, set_at, take-add, take_at, take-suc, take-take}
use Rattle.bits.specs.Frame.{Bytes, eights, number}
use Rattle.bits.specs.Layout.{Fit, decode, encode, total}
use Rattle.bits.proofs.Bytes.{number_inj, number_lt, number_shr}
use Rattle.bits.proofs.Claims.{decoded_then_encoded}
use Rattle.lent.specs.Numbers.{wide}
use Rattle.lent.proofs.Wide.{length-wide}
use Rattle.rows.specs.Runs.Fields.{bytes_for}
use Rattle.record_bytes.specs.Packed.{cells}
use Rattle.record_bytes.specs.Unpacked.{cells_at, number_at, size}

-- ---- a number in its bytes

total-bytes : (n : ℕ) → total (replicate n 8) ≡ 8 * n
total-bytes zero = refl
total-bytes (suc n) = omega (arith, total-bytes n)

wide_decoded : (n v : ℕ) → wide n v ≡ decode (replicate n 8) v
wide_decoded zero v = refl
wide_decoded (suc n) v = λ i. v / 2 ^ (sym (total-bytes n) i) % 256 ∷ wide_decoded n v i

eights-wide : (n v : ℕ) → eights (wide n v) ≡ replicate n 8
eights-wide zero v = refl
eights-wide (suc n) v = ap (λ (l : List ℕ). 8 ∷ l) (eights-wide n v)

pub number-wide : (n v : ℕ) → number (wide n v) ≡ v % 2 ^ (8 * n)
number-wide n v =
    (λ i. encode (eights-wide n v i) (wide_decoded n v i))
    ∙ decoded_then_encoded (replicate n 8) v
    ∙ ap (λ (m : ℕ). v % 2 ^ m) (total-bytes n)

-- ---- put

pub length-cells : (ws vs : List ℕ) → length ws ≡ length vs → length (cells ws vs) ≡ size ws
unfolding cells
length-cells [] [] e = refl
length-cells [] (v ∷ vs) e = absurd (omega arith)
length-cells (w ∷ ws) [] e = absurd (omega arith)
length-cells (w ∷ ws) (v ∷ vs) e =
    length-append (wide (bytes_for w) v) (cells ws vs) ∙ (λ i. length-wide (bytes_for w) v i + length-cells ws vs (omega arith) i)

pub cells_suc : (ws vs : List ℕ) (k : ℕ) → k < length ws → k < length vs
    → cells (take (suc k) ws) (take (suc k) vs) ≡ cells (take k ws) (take k vs) ++ wide (bytes_for (get_or ws k 0)) (get_or vs k 0)
unfolding cells
cells_suc [] vs k h g = absurd (omega arith)
cells_suc (w ∷ ws) [] k h g = absurd (omega arith)
cells_suc (w ∷ ws) (v ∷ vs) zero h g = append-nil (wide (bytes_for w) v)
cells_suc (w ∷ ws) (v ∷ vs) (suc k) h g =
    ap (λ (t : List ℕ). wide (bytes_for w) v ++ t) (cells_suc ws vs k (omega arith) (omega arith))
    ∙ sym (append_assoc (wide (bytes_for w) v) (cells (take k ws) (take k vs)) (wide (bytes_for (get_or ws k 0)) (get_or vs k 0)))

no_bytes : (l : List ℕ) → length l ≡ 0 → [] ≡ l
no_bytes [] e = refl
no_bytes (x ∷ l) e = absurd (omega arith)

-- nothing is left where no byte is
pub cells_end : (ws vs : List ℕ) (k : ℕ) → length ws ≡ length vs → size (drop k ws) ≡ 0 → cells (take k ws) (take k vs) ≡ cells ws vs
unfolding cells
cells_end ws vs zero e h = no_bytes (cells ws vs) (length-cells ws vs e ∙ h)
cells_end [] vs (suc k) e h = refl
cells_end (w ∷ ws) [] (suc k) e h = absurd (omega arith)
cells_end (w ∷ ws) (v ∷ vs) (suc k) e h = ap (λ (t : List ℕ). wide (bytes_for w) v ++ t) (cells_end ws vs k (omega arith) h)

-- what has no bits has no bytes
no_cells : (n : ℕ) (us : List ℕ) → cells (replicate n 0) us ≡ []
unfolding cells
no_cells zero us = refl
no_cells (suc n) [] = refl
no_cells (suc n) (u ∷ us) = no_cells n us

pub cells_padded : (ws vs us : List ℕ) (n : ℕ) → length ws ≡ length vs → cells (ws ++ replicate n 0) (vs ++ us) ≡ cells ws vs
unfolding cells
cells_padded [] [] us n e = no_cells n us
cells_padded [] (v ∷ vs) us n e = absurd (omega arith)
cells_padded (w ∷ ws) [] us n e = absurd (omega arith)
cells_padded (w ∷ ws) (v ∷ vs) us n e = ap (λ (t : List ℕ). wide (bytes_for w) v ++ t) (cells_padded ws vs us n (omega arith))

-- ---- read

-- a value for each width, and each fits its bytes
abbrev pub FitBytes : List ℕ → List ℕ → Type 0
FitBytes ws vs = Fit (map (λ w. 8 * bytes_for w) ws) vs

pub cells_back : (l : List ℕ) (k : ℕ) (ws vs rest : List ℕ) → drop k l ≡ cells ws vs ++ rest → FitBytes ws vs → cells_at l k ws ≡ vs
unfolding cells cells_at
cells_back l k [] [] rest e h = refl
cells_back l k [] (v ∷ vs) rest e h = absurd h
cells_back l k (w ∷ ws) [] rest e h = absurd h
cells_back l k (w ∷ ws) (v ∷ vs) rest e h =
    let own : List ℕ = wide (bytes_for w) v in
    let n : length own ≡ bytes_for w = length-wide (bytes_for w) v in
    let d : drop k l ≡ own ++ (cells ws vs ++ rest) = e ∙ append_assoc own (cells ws vs) rest in
    let first : number_at l k (bytes_for w) ≡ v =
    ap (λ (s : List ℕ). number (take (bytes_for w) s)) d
    ∙ ap number (take_at own (cells ws vs ++ rest) (bytes_for w) n)
    ∙ number-wide (bytes_for w) v
    ∙ mod-eq_of_lt h.0
    in
    let more : drop (k + bytes_for w) l ≡ cells ws vs ++ rest =
    sym (drop-drop (bytes_for w) k l) ∙ ap (drop (bytes_for w)) d ∙ drop_at own (cells ws vs ++ rest) (bytes_for w) n
    in
    λ i. first i ∷ cells_back l (k + bytes_for w) ws vs rest more h.1 i

-- one behind the other
pub cells_append : (l : List ℕ) (k : ℕ) (ws us : List ℕ) → cells_at l k (ws ++ us) ≡ cells_at l k ws ++ cells_at l (k + size ws) us
unfolding cells_at
cells_append l k [] us = ap (λ (j : ℕ). cells_at l j us) (omega arith)
cells_append l k (w ∷ ws) us =
    ap (λ (t : List ℕ). number_at l k (bytes_for w) ∷ t)
    (cells_append l (k + bytes_for w) ws us ∙ ap (λ (j : ℕ). cells_at l (k + bytes_for w) ws ++ cells_at l j us) (sum k (bytes_for w) (size ws)))
  where
    sum : (a b c : ℕ) → a + b + c ≡ a + (b + c)
    sum a b c = omega arith

pub length-cells-at : (l : List ℕ) (k : ℕ) (ws : List ℕ) → length (cells_at l k ws) ≡ length ws
unfolding cells_at
length-cells-at l k [] = refl
length-cells-at l k (w ∷ ws) = ap suc (length-cells-at l (k + bytes_for w) ws)

-- one more, as a loop reads them into zeros
pub cell_set : (l : List ℕ) (at : ℕ) (ws vs : List ℕ) (k v : ℕ) → k < length ws → vs ≡ cells_at l at (take k ws) ++ replicate (length ws - k) 0
    → v ≡ number_at l (at + size (take k ws)) (bytes_for (get_or ws k 0)) → set vs k v ≡ cells_at l at (take (k + 1) ws) ++ replicate (length ws - (k + 1)) 0
unfolding cells_at
cell_set l at ws vs k v h e p =
    let own : List ℕ = cells_at l at (take k ws) in
    let rest : List ℕ = replicate (length ws - (k + 1)) 0 in
    let left : length ws - k ≡ suc (length ws - (k + 1)) = omega arith in
    let long : length own ≡ k = length-cells-at l at (take k ws) ∙ length-take-le k ws (omega arith) in
    let more : own ++ (v ∷ []) ≡ cells_at l at (take (k + 1) ws) =
    ap (λ (x : ℕ). own ++ (x ∷ [])) p
    ∙ sym (cells_append l at (take k ws) (get_or ws k 0 ∷ []))
    ∙ ap (cells_at l at) (sym (take-suc ws k 0 h) ∙ ap (λ (n : ℕ). take n ws) (sym (add-one k)))
    in
    ap (λ (s : List ℕ). set s k v) (e ∙ ap (λ (m : ℕ). own ++ replicate m 0) left)
    ∙ set_at own 0 rest v k long
    ∙ sym (append_snoc own v rest)
    ∙ ap (λ (s : List ℕ). s ++ rest) more

pub size_split : (ws : List ℕ) (k : ℕ) → size ws ≡ size (take k ws) + size (drop k ws)
size_split [] zero = refl
size_split [] (suc k) = refl
size_split (w ∷ ws) zero = zeros (bytes_for w + size ws)
  where
    zeros : (a : ℕ) → a ≡ 0 + a
    zeros a = omega arith
size_split (w ∷ ws) (suc k) = shuffle (bytes_for w) _ _ _ (size_split ws k)
  where
    shuffle : (n a b c : ℕ) → a ≡ b + c → n + a ≡ n + b + c
    shuffle n a b c e = omega arith

pub size-at : (ws : List ℕ) (k : ℕ) → k < length ws → size ws ≡ size (take k ws) + (bytes_for (get_or ws k 0) + size (drop (suc k) ws))
size-at ws k h = size_split ws k ∙ ap (λ (us : List ℕ). size (take k ws) + size us) (drop-cons ws k 0 h)

-- fields without bytes are zeros
zero_cells : (l : List ℕ) (k : ℕ) (ws : List ℕ) → size ws ≡ 0 → cells_at l k ws ≡ replicate (length ws) 0
unfolding cells_at
zero_cells l k [] e = refl
zero_cells l k (w ∷ ws) e =
    let none = nothing (bytes_for w) (size ws) e in
    λ i. number_at l k (none.0 i) ∷ zero_cells l (k + bytes_for w) ws none.1 i
  where
    nothing : (a b : ℕ) → a + b ≡ 0 → (a ≡ 0) × (b ≡ 0)
    nothing a b e = (omega arith, omega arith)

-- so all are read where none of those that are left has bytes
pub cells_read : (l : List ℕ) (at : ℕ) (ws : List ℕ) (k : ℕ) → size (drop k ws) ≡ 0 → cells_at l at (take k ws) ++ replicate (length ws - k) 0 ≡ cells_at l at ws
cells_read l at ws k e =
    let rest : List ℕ = drop k ws in
    ap (λ (n : ℕ). cells_at l at (take k ws) ++ replicate n 0) (sym (length-drop k ws))
    ∙ ap (λ (t : List ℕ). cells_at l at (take k ws) ++ t) (sym (zero_cells l (at + size (take k ws)) rest e))
    ∙ sym (cells_append l at (take k ws) rest)
    ∙ ap (cells_at l at) (take-append-drop k ws)

pub size_read : (at : ℕ) (ws : List ℕ) (k : ℕ) → size (drop k ws) ≡ 0 → at + size (take k ws) ≡ at + size ws
size_read at ws k e = ap (λ (n : ℕ). at + n) (sym (size_split ws k ∙ zeros (size (take k ws)) _ e))
  where
    zeros : (a b : ℕ) → b ≡ 0 → a + b ≡ a
    zeros a b e = omega arith

size_suc : (ws : List ℕ) (k : ℕ) → k < length ws → size (take (suc k) ws) ≡ size (take k ws) + bytes_for (get_or ws k 0)
size_suc [] k h = absurd (omega arith)
size_suc (w ∷ ws) zero h = zeros (bytes_for w)
  where
    zeros : (a : ℕ) → a + 0 ≡ 0 + a
    zeros a = omega arith
size_suc (w ∷ ws) (suc k) h = shuffle (bytes_for w) _ _ _ (size_suc ws k (omega arith))
  where
    shuffle : (n a b c : ℕ) → a ≡ b + c → n + a ≡ n + b + c
    shuffle n a b c e = omega arith

pub next_place : (at : ℕ) (ws : List ℕ) (k : ℕ) → k < length ws → at + size (take k ws) + bytes_for (get_or ws k 0) ≡ at + size (take (k + 1) ws)
next_place at ws k h = sum at (size (take k ws)) (bytes_for (get_or ws k 0)) ∙ ap (λ (n : ℕ). at + n) (sym (size_suc ws k h) ∙ ap (λ (n : ℕ). size (take n ws)) (sym (add-one k)))
  where
    sum : (a b c : ℕ) → a + b + c ≡ a + (b + c)
    sum a b c = omega arith

pub size_padded : (ws : List ℕ) (n : ℕ) → size (ws ++ replicate n 0) ≡ size ws
size_padded [] zero = refl
size_padded [] (suc n) = zeros (size (replicate n 0)) ∙ size_padded [] n
  where
    zeros : (a : ℕ) → 0 + a ≡ a
    zeros a = omega arith
size_padded (w ∷ ws) n = ap (λ (m : ℕ). bytes_for w + m) (size_padded ws n)

-- ---- what is read fits its bytes

pub bytes-taken : (n : ℕ) (l : List ℕ) → Bytes l → Bytes (take n l)
bytes-taken zero l b i = omega arith
bytes-taken (suc n) [] b i = omega arith
bytes-taken (suc n) (x ∷ l) b zero = b 0
bytes-taken (suc n) (x ∷ l) b (suc i) = bytes-taken n l (λ j. b (suc j)) i

number_fits : (l : List ℕ) (k n : ℕ) → Bytes l → k + n ≤ length l → number_at l k n < 2 ^ (8 * n)
number_fits l k n b h =
    let long : length (take n (drop k l)) ≡ n = length-take-le n (drop k l) (rw (length-drop k l) (omega arith)) in
    rw long at (number_lt (take n (drop k l)) (bytes-taken n (drop k l) (λ i. rw (get_or-drop k l i 0) (b (k + i)))))

pub cells_fit : (l : List ℕ) (k : ℕ) (ws : List ℕ) → Bytes l → k + size ws ≤ length l → FitBytes ws (cells_at l k ws)
unfolding cells_at
cells_fit l k [] b h = tt
cells_fit l k (w ∷ ws) b h =
    (number_fits l k (bytes_for w) b (here k (bytes_for w) (size ws) (length l) h), cells_fit l (k + bytes_for w) ws b (behind k (bytes_for w) (size ws) (length l) h))
  where
    here : (a b c d : ℕ) → a + (b + c) ≤ d → a + b ≤ d
    here a b c d h = omega arith

    behind : (a b c d : ℕ) → a + (b + c) ≤ d → a + b + c ≤ d
    behind a b c d h = omega arith

-- the front of eight bytes
pub front_of_eight : (l : List ℕ) (k n : ℕ) → Bytes l → k + 8 ≤ length l → n ≤ 8 → number_at l k 8 / 2 ^ (64 - 8 * n) ≡ number_at l k n
front_of_eight l k n b h s =
    let eight : List ℕ = take 8 (drop k l) in
    let long : length eight ≡ 8 = length-take-le 8 (drop k l) (rw (length-drop k l) (omega arith)) in
    let own : Bytes eight = bytes-taken 8 (drop k l) (λ i. rw (get_or-drop k l i 0) (b (k + i))) in
    let bits : 64 - 8 * n ≡ 8 * (length eight - n) = omega arith in
    ap (λ (m : ℕ). number eight / 2 ^ m) bits
    ∙ number_shr eight n (omega arith) own
    ∙ ap number (take-take n 8 (drop k l) s)

-- ---- and its bytes are given back

pub wide-bytes : (n v : ℕ) → Bytes (wide n v)
wide-bytes zero v i = omega arith
wide-bytes (suc n) v zero = mod-lt (v / 2 ^ (8 * n)) (omega arith)
wide-bytes (suc n) v (suc i) = wide-bytes n v i

pub wide-number : (n : ℕ) (l : List ℕ) → Bytes l → n ≤ length l → wide n (number (take n l)) ≡ take n l
wide-number n l b h =
    let long : length (take n l) ≡ n = length-take-le n l h in
    let own : Bytes (take n l) = bytes-taken n l b in
    let small : number (take n l) < 2 ^ (8 * n) = rw long at (number_lt (take n l) own) in
    number_inj (wide n (number (take n l))) (take n l) (length-wide n (number (take n l)) ∙ sym long) (wide-bytes n (number (take n l))) own
    (number-wide n (number (take n l)) ∙ mod-eq_of_lt small)

pub cells_again : (l : List ℕ) (k : ℕ) (ws : List ℕ) → Bytes l → k + size ws ≤ length l → cells ws (cells_at l k ws) ≡ take (size ws) (drop k l)
unfolding cells cells_at
cells_again l k [] b h = refl
cells_again l k (w ∷ ws) b h =
    let n : ℕ = bytes_for w in
    let room = both k n (size ws) (length l) h in
    let first : wide n (number_at l k n) ≡ take n (drop k l) = wide-number n (drop k l) (λ i. rw (get_or-drop k l i 0) (b (k + i))) (rw (length-drop k l) room.0) in
    let others : cells ws (cells_at l (k + n) ws) ≡ take (size ws) (drop n (drop k l)) =
    cells_again l (k + n) ws b room.1 ∙ ap (take (size ws)) (sym (drop-drop n k l))
    in
    (λ i. first i ++ others i) ∙ sym (take-add n (size ws) (drop k l))
  where
    both : (a b c d : ℕ) → a + (b + c) ≤ d → (b ≤ d - a) × (a + b + c ≤ d)
    both a b c d h = (omega arith, omega arith)

-- ---- a field has room in its bytes

pub has_room : (w : ℕ) → w ≤ 64 → w ≤ 8 * bytes_for w
has_room w h = by (eqb w 0) (leb w 8) (leb w 16) (leb w 32) refl refl refl refl
  where
    by : (a b c d : Bool) → eqb w 0 ≡ a → leb w 8 ≡ b → leb w 16 ≡ c → leb w 32 ≡ d → w ≤ 8 * cond a 0 (cond b 1 (cond c 2 (cond d 4 8)))
    by true b c d p q r s = omega (arith, eqb-true w 0 p)
    by false true c d p q r s = omega (arith, leb-true w 8 q)
    by false false true d p q r s = omega (arith, leb-true w 16 r)
    by false false false true p q r s = omega (arith, leb-true w 32 s)
    by false false false false p q r s = omega (arith, h)
