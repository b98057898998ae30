-- Fields put behind each other in four words make the number of their layout.
use mathlib.Core.Path.{◌≡◌, refl, sym, ap, ◌∙◌, subst}
use mathlib.Core.List.{List, [], ◌∷◌, ◌++◌}
use Prim.Native.Nat.{ℕ, zero, suc, min, ◌+◌, ◌-◌, ◌*◌, ◌/◌, ◌%◌, ◌^◌, ◌<◌, ◌≤◌}
use native.Mathlib.Nat.{lt_of_lt_of_le, add-mul, mul_assoc, mul_right_comm, mul-mod_left, mod-lt, mod-eq_of_lt, div-eq_of_lt, zero-add, suc-ne-zero, suc_inj}
use native.Mathlib.Omega.{arith}
use lib.Arith.{digits_lt}
use lib.Bits.{bit_or, or_shifted}
use lib.ListN.{length, replicate, get_or, drop}
use lib.Pow.{pow_mono, pow-add, pow_pos, mod-pow-add, shl-shr, shr_lt, shr-shr, split, high, low}
use borrow.Author.Tests.{eq-eqb, ne_eqb}
use native.Mathlib.Numerals.{add-one}
use lib.Seq.{drop-cons}
use Rattle.std.proofs.lemmas.List.{length-drop}
use Rattle.bits.proofs.Layouts.{encode-behind, encode_lt}
use Rattle.bits.specs.declared.words.Words.{Words}
use Rattle.bits.specs.Layout.{total, encode, Fit}
use Rattle.bits.specs.Words.{moved, pushed, pushed_all, pushed_until, value_of, words_of}

-- ---- one word, moved up by w bits

module _ (w : ℕ) (h : w < 64) where
  up : (64 - w) + w ≡ 64
  up = omega arith

  lifted : (x : ℕ) → x * 2 ^ w % 2 ^ 64 ≡ x % 2 ^ (64 - w) * 2 ^ w
  lifted x =
      ap (λ (k : ℕ). x * 2 ^ w % 2 ^ k) (sym up)
      ∙ mod-pow-add (x * 2 ^ w) (64 - w) w
      ∙ rw (shl-shr x w, mul-mod_left x (2 ^ w)) (omega arith)

  leaving : {x : ℕ} → x < 2 ^ 64 → x / 2 ^ (64 - w) < 2 ^ w
  leaving {x} l = let e : 64 ≡ w + (64 - w) = omega arith in shr_lt w (64 - w) (subst (λ (k : ℕ). x < 2 ^ k) e l)

  -- what is put behind fits
  behind : (x : ℕ) {c : ℕ} → c < 2 ^ w → bit_or (x * 2 ^ w % 2 ^ 64) c ≡ x % 2 ^ (64 - w) * 2 ^ w + c
  behind x {c} l = ap (λ (y : ℕ). bit_or y c) (lifted x) ∙ or_shifted (x % 2 ^ (64 - w)) w c l

  behind_lt : (x : ℕ) {c : ℕ} → c < 2 ^ w → x % 2 ^ (64 - w) * 2 ^ w + c < 2 ^ 64
  behind_lt x {c} l =
      subst (λ (k : ℕ). x % 2 ^ (64 - w) * 2 ^ w + c < k) (sym (pow-add 2 (64 - w) w) ∙ ap (λ (k : ℕ). 2 ^ k) up)
      (digits_lt (mod-lt x (pow_pos (64 - w))) l)

  -- a word behind others: what leaves it goes to them
  one_word : (o x c : ℕ) → (o * 2 ^ 64 + x) * 2 ^ w + c ≡ (o * 2 ^ w + x / 2 ^ (64 - w)) * 2 ^ 64 + (x % 2 ^ (64 - w) * 2 ^ w + c)
  one_word o x c =
      let whole : 2 ^ (64 - w) * 2 ^ w ≡ 2 ^ 64 = sym (pow-add 2 (64 - w) w) ∙ ap (λ (k : ℕ). 2 ^ k) up in
      let two : x * 2 ^ w ≡ x / 2 ^ (64 - w) * 2 ^ 64 + x % 2 ^ (64 - w) * 2 ^ w =
      ap (λ (y : ℕ). y * 2 ^ w) (sym (split x (64 - w)))
      ∙ add-mul (x / 2 ^ (64 - w) * 2 ^ (64 - w)) (x % 2 ^ (64 - w)) (2 ^ w)
      ∙ ap (λ (y : ℕ). y + x % 2 ^ (64 - w) * 2 ^ w) (mul_assoc (x / 2 ^ (64 - w)) (2 ^ (64 - w)) (2 ^ w) ∙ ap (λ (y : ℕ). x / 2 ^ (64 - w) * y) whole)
      in
      omega (arith, add-mul (o * 2 ^ 64) x (2 ^ w), two, mul_right_comm o (2 ^ 64) (2 ^ w), add-mul (o * 2 ^ w) (x / 2 ^ (64 - w)) (2 ^ 64))

-- ---- four words

-- the number of the words, with o in front of them
abbrev full : ℕ → Words → ℕ
full o x = (((o * 2 ^ 64 + x.first) * 2 ^ 64 + x.second) * 2 ^ 64 + x.third) * 2 ^ 64 + x.last

-- the words hold a number, but for what has left them in front
pub record Held (x : Words) (n : ℕ) : Type 0 where
  pub lost : ℕ
  pub is : n ≡ full lost x
  pub first : x.first < 2 ^ 64
  pub second : x.second < 2 ^ 64
  pub third : x.third < 2 ^ 64
  pub last : x.last < 2 ^ 64

pub held_none : Held (words_of 0) 0
held_none = record { lost = 0; is = refl; first = omega arith; second = omega arith; third = omega arith; last = omega arith }

-- the words moved up, each as a sum
module _ (x : Words) (n w v : ℕ) (h : w < 64) (f : v < 2 ^ w) (s : Held x n) where
  abbrev plain : Words
  plain = record {
    first = x.first % 2 ^ (64 - w) * 2 ^ w + x.second / 2 ^ (64 - w);
    second = x.second % 2 ^ (64 - w) * 2 ^ w + x.third / 2 ^ (64 - w);
    third = x.third % 2 ^ (64 - w) * 2 ^ w + x.last / 2 ^ (64 - w);
    last = x.last % 2 ^ (64 - w) * 2 ^ w + v;
  }

  moved_plain : moved x w v ≡ plain
  moved_plain = λ i. record {
    first = behind w h x.first (leaving w h s.second) i;
    second = behind w h x.second (leaving w h s.third) i;
    third = behind w h x.third (leaving w h s.last) i;
    last = behind w h x.last f i;
  }

  held_plain : Held plain (n * 2 ^ w + v)
  held_plain =
      let a = s.lost * 2 ^ 64 + x.first in
      let b = a * 2 ^ 64 + x.second in
      let c = b * 2 ^ 64 + x.third in
      record {
        lost = s.lost * 2 ^ w + x.first / 2 ^ (64 - w);
        is =
            ap (λ (y : ℕ). y * 2 ^ w + v) s.is
            ∙ one_word w h c x.last v
            ∙ ap (λ (y : ℕ). y * 2 ^ 64 + plain.last) (one_word w h b x.third (x.last / 2 ^ (64 - w)))
            ∙ ap (λ (y : ℕ). (y * 2 ^ 64 + plain.third) * 2 ^ 64 + plain.last) (one_word w h a x.second (x.third / 2 ^ (64 - w)))
            ∙ ap (λ (y : ℕ). ((y * 2 ^ 64 + plain.second) * 2 ^ 64 + plain.third) * 2 ^ 64 + plain.last) (one_word w h s.lost x.first (x.second / 2 ^ (64 - w)));
        first = behind_lt w h x.first (leaving w h s.second);
        second = behind_lt w h x.second (leaving w h s.third);
        third = behind_lt w h x.third (leaving w h s.last);
        last = behind_lt w h x.last f;
      }

  held_moved : Held (moved x w v) (n * 2 ^ w + v)
  held_moved = subst (λ (y : Words). Held y (n * 2 ^ w + v)) (sym moved_plain) held_plain

-- ---- fields

-- each width is that of a field: at least one bit, and at most 57
abbrev pub Fieldlike : List ℕ → Type 0
Fieldlike [] = Unit
Fieldlike (w ∷ ws) = ((0 < w) × (w ≤ 57)) × Fieldlike ws

all_count : (w : ℕ) → w ≤ 57 → w % 64 ≡ w
all_count w h = mod-eq_of_lt (omega arith)

-- one field, of up to 63 bits
held_pushed : (x : Words) (n w v : ℕ) → 0 < w → w < 64 → v < 2 ^ w → Held x n → Held (pushed x w v) (n * 2 ^ w + v)
unfolding pushed
held_pushed x n w v p h f s = rw (mod-eq_of_lt h, ne_eqb w 0 (λ z. omega arith)) (held_moved x n w v h f s)

pub held_all : (ws vs : List ℕ) (x : Words) (n : ℕ) → Fieldlike ws → Fit ws vs → Held x n → Held (pushed_all x ws vs) (n * 2 ^ total ws + encode ws vs)
held_all [] [] x n h f s = let e : n ≡ n * 1 + 0 = omega arith in subst (Held x) e s
held_all [] (v ∷ vs) x n h f s = absurd f
held_all (w ∷ ws) [] x n h f s = absurd f
held_all (w ∷ ws) (v ∷ vs) x n h f s =
    let t = held_pushed x n w v h.0.0 (omega (arith, h.0.1)) f.0 s in
    subst (Held (pushed_all (pushed x w v) ws vs)) (encode-behind n w v ws vs) (held_all ws vs (pushed x w v) (n * 2 ^ w + v) h.1 f.1 t)

-- they are pushed piece by piece
pub pushed_append : (x : Words) (ws vs xs us : List ℕ) → length ws ≡ length vs → pushed_all x (ws ++ xs) (vs ++ us) ≡ pushed_all (pushed_all x ws vs) xs us
pushed_append x [] [] xs us e = refl
pushed_append x [] (v ∷ vs) xs us e = absurd (suc-ne-zero (length vs) (sym e))
pushed_append x (w ∷ ws) [] xs us e = absurd (suc-ne-zero (length ws) e)
pushed_append x (w ∷ ws) (v ∷ vs) xs us e = pushed_append (pushed x w v) ws vs xs us (suc_inj e)

-- fields without bits behind them leave the words as they are
pub until_padded : (x : Words) (ws vs us : List ℕ) (k : ℕ) → length ws ≡ length vs → Fieldlike ws → pushed_until x (ws ++ replicate k 0) (vs ++ us) ≡ pushed_all x ws vs
unfolding pushed_until
until_padded x [] [] us zero e h = refl
until_padded x [] [] [] (suc k) e h = refl
until_padded x [] [] (u ∷ us) (suc k) e h = refl
until_padded x [] (v ∷ vs) us k e h = absurd (suc-ne-zero (length vs) (sym e))
until_padded x (w ∷ ws) [] us k e h = absurd (suc-ne-zero (length ws) e)
until_padded x (w ∷ ws) (v ∷ vs) us k e h =
    rw (all_count w h.0.1, ne_eqb w 0 (λ z. omega (arith, h.0.0))) (until_padded (pushed x w v) ws vs us k (suc_inj e) h.1)

-- ---- fields as one

-- a number tells its last word, and what stands in front of it
same_word : (o p : ℕ) {x y : ℕ} → x < 2 ^ 64 → y < 2 ^ 64 → o * 2 ^ 64 + x ≡ p * 2 ^ 64 + y → (o ≡ p) × (x ≡ y)
same_word o p h l e =
    (sym (high o 64 h) ∙ ap (λ (n : ℕ). n / 2 ^ 64) e ∙ high p 64 l, sym (low o 64 h) ∙ ap (λ (n : ℕ). n % 2 ^ 64) e ∙ low p 64 l)

-- so it tells the words that hold it
held_same : (x y : Words) (n : ℕ) → Held x n → Held y n → x ≡ y
held_same x y n s t =
    let fourth = same_word _ _ s.last t.last (sym s.is ∙ t.is) in
    let third = same_word _ _ s.third t.third fourth.0 in
    let second = same_word _ _ s.second t.second third.0 in
    let first = same_word s.lost t.lost s.first t.first second.0 in
    λ i. record { first = first.1 i; second = second.1 i; third = third.1 i; last = fourth.1 i }

-- fields of fewer than 64 bits in all may be pushed as one, by the number that they make
pub pushed_as_one : (ws vs : List ℕ) (x : Words) (n : ℕ) → Fieldlike ws → Fit ws vs → total ws < 64 → Held x n → pushed x (total ws) (encode ws vs) ≡ pushed_all x ws vs
unfolding pushed
pushed_as_one [] [] x n h f l s = refl
pushed_as_one [] (v ∷ vs) x n h f l s = absurd f
pushed_as_one (w ∷ ws) [] x n h f l s = absurd f
pushed_as_one (w ∷ ws) (v ∷ vs) x n h f l s =
    held_same _ _ (n * 2 ^ total (w ∷ ws) + encode (w ∷ ws) (v ∷ vs))
    (held_pushed x n (total (w ∷ ws)) (encode (w ∷ ws) (v ∷ vs)) (omega (arith, h.0.0)) l (encode_lt (w ∷ ws) (v ∷ vs) f) s)
    (held_all (w ∷ ws) (v ∷ vs) x n h f s)

-- ---- all 256 bits

word_off : (o : ℕ) {x : ℕ} → x < 2 ^ 64 → (o * 2 ^ 64 + x) / 2 ^ 64 ≡ o
word_off o l = high o 64 l

-- nothing is lost of a number of 256 bits
pub held_whole : (x : Words) (n : ℕ) → Held x n → n < 2 ^ 256 → value_of x ≡ n
held_whole x n s l =
    let a = s.lost * 2 ^ 64 + x.first in
    let b = a * 2 ^ 64 + x.second in
    let c = b * 2 ^ 64 + x.third in
    let third : n / 2 ^ 64 ≡ c = ap (λ (y : ℕ). y / 2 ^ 64) s.is ∙ word_off c s.last in
    let second : n / 2 ^ 128 ≡ b = sym (shr-shr n 64 64) ∙ ap (λ (y : ℕ). y / 2 ^ 64) third ∙ word_off b s.third in
    let first : n / 2 ^ 192 ≡ a = sym (shr-shr n 128 64) ∙ ap (λ (y : ℕ). y / 2 ^ 64) second ∙ word_off a s.second in
    let none : s.lost ≡ 0 = sym (word_off s.lost s.first) ∙ ap (λ (y : ℕ). y / 2 ^ 64) (sym first) ∙ shr-shr n 192 64 ∙ div-eq_of_lt l in
    sym (s.is ∙ ap (λ (o : ℕ). full o x) none ∙ ap (λ (y : ℕ). ((y * 2 ^ 64 + x.second) * 2 ^ 64 + x.third) * 2 ^ 64 + x.last) (zero-add x.first))

-- ---- one turn of the loop that pushes fields

-- one of the two lists has nothing any more
at_an_end : (x : Words) (ws vs : List ℕ) → min (length ws) (length vs) ≡ 0 → x ≡ pushed_until x ws vs
unfolding pushed_until
at_an_end x [] vs e = refl
at_an_end x (w ∷ ws) [] e = refl
at_an_end x (w ∷ ws) (v ∷ vs) e = absurd (omega (arith, e))

module _ (x : Words) (ws vs : List ℕ) (k : ℕ) where
  pub push_more : k < length ws → k < length vs → (get_or ws k 0 % 64 ≡ 0 → ⊥)
      → pushed_until (pushed x (get_or ws k 0 % 64) (get_or vs k 0)) (drop (k + 1) ws) (drop (k + 1) vs) ≡ pushed_until x (drop k ws) (drop k vs)
  unfolding pushed_until
  push_more h l z = rw (add-one k, drop-cons ws k 0 h, drop-cons vs k 0 l, ne_eqb (get_or ws k 0 % 64) 0 z)

  pub push_none : k < length ws → k < length vs → get_or ws k 0 % 64 ≡ 0 → x ≡ pushed_until x (drop k ws) (drop k vs)
  unfolding pushed_until
  push_none h l z = rw (drop-cons ws k 0 h, drop-cons vs k 0 l, eq-eqb (get_or ws k 0 % 64) 0 z)

  pub push_end : min (length ws) (length vs) ≤ k → x ≡ pushed_until x (drop k ws) (drop k vs)
  push_end h = at_an_end x (drop k ws) (drop k vs) (rw (length-drop k ws, length-drop k vs) (omega arith))

-- ---- a whole layout

pub pushed_whole : (ws vs : List ℕ) → Fieldlike ws → Fit ws vs → total ws ≤ 256 → value_of (pushed_all (words_of 0) ws vs) ≡ encode ws vs
pushed_whole ws vs h f l =
    let e : 0 * 2 ^ total ws + encode ws vs ≡ encode ws vs = omega arith in
    held_whole (pushed_all (words_of 0) ws vs) (encode ws vs) (subst (Held (pushed_all (words_of 0) ws vs)) e (held_all ws vs (words_of 0) 0 h f held_none))
    (lt_of_lt_of_le (encode_lt ws vs f) (pow_mono {i = total ws} {j = 256} l))
