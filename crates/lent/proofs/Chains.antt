-- Bytes put one behind the other.
use mathlib.Core.Path.{◌≡◌, refl, sym, ap, subst, ◌∙◌}
use mathlib.Core.Bool.{Bool, true, false}
use mathlib.Core.List.{List, [], ◌∷◌, ◌++◌, append-nil, append_assoc}
use Prim.Native.Nat.{ℕ, suc, ◌+◌, ◌-◌, ◌≤◌, ◌<◌, min}
use native.Mathlib.Numerals.{add-one}
use native.Mathlib.Omega.{arith}
use borrow.Author.Tests.{leb-true, leb-false}
use lib.Dec.{leb}
use lib.ListN.{length, get_or, set, take, drop, length-append, take-append-drop}
use lib.Seq.{sets, length-sets, sets-eq, take-suc, drop-drop, drop-length, length-take-le}
use borrow.Rule.Slice.PartMut.{put_mid}
use Rattle.std.proofs.lemmas.List.{set_past}
use Rattle.lent.specs.Writing.{Wrote}

-- ---- places past the end

pub sets-past : (t l : List ℕ) (i : ℕ) → length l ≤ i → sets l i t ≡ l
sets-past [] l i h = refl
sets-past (v ∷ t) l i h = ap (λ (r : List ℕ). sets r (suc i) t) (set_past l i v h) ∙ sets-past t l (suc i) (omega arith)

-- ---- a chain

pub sets-sets : (t u l : List ℕ) (i : ℕ) → sets (sets l i t) (i + length t) u ≡ sets l i (t ++ u)
sets-sets [] u l i = ap (λ (k : ℕ). sets l k u) (omega arith)
sets-sets (v ∷ t) u l i = ap (λ (k : ℕ). sets (sets (set l i v) (suc i) t) k u) (omega arith) ∙ sets-sets t u (set l i v) (suc i)

-- one byte more of t, in its place
pub set_more : (t l : List ℕ) (i k : ℕ) → k < length t → set (sets l i (take k t)) (i + k) (get_or t k 0) ≡ sets l i (take (k + 1) t)
set_more t l i k h =
    ap (λ (n : ℕ). set (sets l i (take k t)) (i + n) (get_or t k 0)) (sym (length-take-le k t (omega arith)))
    ∙ sets-sets (take k t) (get_or t k 0 ∷ []) l i
    ∙ ap (sets l i) (sym (take-suc t k 0 h) ∙ ap (λ (n : ℕ). take n t) (sym (add-one k)))

-- where t was cut, u finds no place, and it would find none behind the whole of t
pub sets_next : (t u l : List ℕ) (i j : ℕ) → j ≡ i + min (length t) (length l + 1 - i) → sets (sets l i t) j u ≡ sets l i (t ++ u)
sets_next t u l i j e = by_room (leb (i + length t) (length l)) refl ∙ sets-sets t u l i
  where
    by_room : (b : Bool) → leb (i + length t) (length l) ≡ b → sets (sets l i t) j u ≡ sets (sets l i t) (i + length t) u
    by_room true h = ap (λ (k : ℕ). sets (sets l i t) k u) (omega (arith, leb-true (i + length t) (length l) h))
    by_room false h =
        let n : length l < i + length t = leb-false (i + length t) (length l) h in
        let m : length (sets l i t) ≡ length l = length-sets l i t in
        sets-past u (sets l i t) j (omega arith) ∙ sym (sets-past u (sets l i t) (i + length t) (omega arith))

-- what was behind the end of l changed nothing
pub sets_cut : (t l : List ℕ) (i room : ℕ) → i + room ≡ length l → room ≤ length t → sets l i (take room t) ≡ sets l i t
sets_cut t l i room e h =
    let m : length (sets l i (take room t)) ≡ length l = length-sets l i (take room t) in
    let n : i + length (take room t) ≡ i + room = ap (λ (k : ℕ). i + k) (length-take-le room t h) in
    sym (sets-past (drop room t) (sets l i (take room t)) (i + length (take room t)) (omega arith))
    ∙ sets-sets (take room t) (drop room t) l i
    ∙ ap (sets l i) (take-append-drop room t)

pub nothing : (l : List ℕ) (i : ℕ) → Wrote l l i i []
nothing l i = record { bytes = refl; place = omega arith }

pub wrote_length : {l m t : List ℕ} {i j : ℕ} → Wrote l m i j t → length m ≡ length l
wrote_length {l} {m} {t} {i} w = ap length w.bytes ∙ length-sets l i t

infixr 20 ◌then◌
-- two texts one behind the other are one text
pub ◌then◌ : {l m r : List ℕ} {a b c : ℕ} {t u : List ℕ} → Wrote l m a b t → Wrote m r b c u → Wrote l r a c (t ++ u)
◌then◌ {l} {m} {r} {a} {b} {c} {t} {u} x y =
    record {
      bytes = y.bytes ∙ ap (λ (d : List ℕ). sets d b u) x.bytes ∙ sets_next t u l a b x.place;
      place = simp length-append (omega (arith, wrote_length x));
    }

pub wrote_as : {l m t u : List ℕ} {i j : ℕ} → t ≡ u → Wrote l m i j t → Wrote l m i j u
wrote_as {l} {m} {t} {u} {i} {j} e w = subst (λ (x : List ℕ). Wrote l m i j x) e w

-- the answer is not further on than t is long
pub wrote_within : {l m t : List ℕ} {i j k : ℕ} → Wrote l m i j t → length t ≤ k → j ≤ i + k
wrote_within w h = omega (arith, w.place)

-- ---- where there was room

-- an answer within the buffer is the place behind all of t
pub all_placed : {l m t : List ℕ} {i j : ℕ} → j ≤ length l → Wrote l m i j t → j ≡ i + length t
all_placed h w = omega (arith, w.place)

pub placed : {l m t : List ℕ} {i j : ℕ} → j ≤ length l → m ≡ sets l i t → j ≡ i + length t → Wrote l m i j t
placed h e p = record { bytes = e; place = omega arith }

-- ---- where there was none, or not for all

pub none_put : (t l : List ℕ) (i : ℕ) → length l < i → Wrote l l i i t
none_put t l i h = record { bytes = sym (sets-past t l i (omega arith)); place = omega arith }

-- what is written to the n bytes from i on is put there
put_there : (t l : List ℕ) (i n : ℕ) → n ≡ length t → i + length t ≤ length l → put_mid i n l t ≡ sets l i t
put_there t l i n e h =
    let behind : drop n (drop i l) ≡ drop (i + length t) l = drop-drop n i l ∙ ap (λ (k : ℕ). drop (i + k) l) e in
    ap (λ (r : List ℕ). take i l ++ (t ++ r)) behind ∙ sym (append_assoc (take i l) t (drop (i + length t) l)) ∙ sym (sets-eq t l i h)

pub put_whole : (t l m : List ℕ) (i n : ℕ) → m ≡ t → n ≡ length t → i + length t ≤ length l → Wrote l (put_mid i n l m) i (i + length t) t
put_whole t l m i n e long h = record { bytes = ap (put_mid i n l) e ∙ put_there t l i n long h; place = omega arith }

-- .. and where only so many find a place, none of the others does
pub put_cut : (t l m : List ℕ) (i room : ℕ) → m ≡ take room t → i + room ≡ length l → room < length t
    → Wrote l (put_mid i room l m) i (length (put_mid i room l m) + 1) t
put_cut t l m i room e h cut =
    let long : length (take room t) ≡ room = length-take-le room t (omega arith) in
    let put : put_mid i room l m ≡ sets l i t = ap (put_mid i room l) e ∙ put_there (take room t) l i room (sym long) (omega arith) ∙ sets_cut t l i room h (omega arith) in
    let as_long : length (put_mid i room l m) ≡ length l = ap length put ∙ length-sets l i t in
    record { bytes = put; place = omega arith }

-- as many bytes as the buffer has
pub sets_whole : (t l : List ℕ) → length t ≡ length l → sets l 0 t ≡ t
sets_whole t l n =
    let e : 0 + length t ≡ length l = omega arith in
    sets-eq t l 0 (omega arith) ∙ ap (λ (k : ℕ). t ++ drop k l) e ∙ ap (λ (d : List ℕ). t ++ d) (drop-length l) ∙ append-nil t

pub whole : {l m t : List ℕ} {j : ℕ} → length t ≡ length l → Wrote l m 0 j t → m ≡ t
whole {l} {m} {t} n x = x.bytes ∙ sets_whole t l n
