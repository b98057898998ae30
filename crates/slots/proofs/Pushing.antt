-- Tidy slots pushed one behind the other, each in one piece, are the rows of their table pushed so.
use mathlib.Core.List.{List, [], ◌++◌, ◌∷◌, map, map-append}
use mathlib.Core.Bool.{true}
use Rattle.rows.specs.Layout.{Row, Slots, slot_rows, slots_rows, shifted}
use Rattle.slots.specs.declared.slot.Slot.{Slot}
use Rattle.slots.proofs.Tables.{Suited, widths_matched}
use Prim.Native.Nat.{◌*◌, ◌+◌, ◌%◌, ◌<◌, ◌^◌, ◌≤◌, suc, zero, ℕ}
use native.Mathlib.Nat.{le_of_suc-le-suc, mod-eq_of_lt, not-suc-le-zero}
use mathlib.Core.Path.{◌∙◌, ◌≡◌, ap, ap₂, refl, subst, sym}
use native.Mathlib.Omega.{arith}
use lib.Arith.{digits_lt}
use lib.Bits.{bit_or, or_shifted}
use lib.Pow.{pow-add, shl_exact}
use Rattle.slots.specs.Slots.{slot_parts, slot_values, slots_values, tidy_slots, vacant}
use Rattle.rows.specs.Values.{joined, widths, flags, part_widths, spread}
use Rattle.rows.proofs.Rules.Outcomes.{and_both}
use Rattle.bits.specs.declared.words.Words.{Words}
use Rattle.bits.specs.Layout.{encode, Fit, total}
use Rattle.bits.specs.Words.{pushed, pushed_all}
use Rattle.bits.proofs.Layouts.{encode-behind, fit_apart}
use Rattle.bits.proofs.Pushing.{Held, held_all, pushed_append, pushed_as_one}
use lib.ListN.{length, length-append, take}
use Rattle.slots.proofs.Parts.{fieldlike, length-sift, length-spread, spread-encode, spread_fit, spread-total, vacant_again}
use lib.Seq.{length-take-le}
use Rattle.slots.specs.Runs.{followed, slot_number, slot_pushed, slots_pushed}

widths-shifted : (a : ℕ) (rs : List Row) → widths (shifted a rs) ≡ widths rs
widths-shifted a [] = refl
widths-shifted a (r ∷ rs) = ap (λ (ws : List ℕ). r.width ∷ ws) (widths-shifted a rs)

-- the widths of n slots, wherever they stand
abbrev runs : Slots → ℕ → List ℕ
runs k zero = []
runs k (suc n) = widths k.rows ++ runs k n

runs-widths : (k : Slots) (n a : ℕ) → widths (slots_rows k n a) ≡ runs k n
runs-widths k zero a = refl
runs-widths k (suc n) a =
    let parts : widths (slot_rows k a ++ slots_rows k n (a + k.bits)) ≡ widths (slot_rows k a) ++ widths (slots_rows k n (a + k.bits)) = simp map-append in
    parts ∙ ap₂ (λ (x y : List ℕ). x ++ y) (widths-shifted a k.rows) (runs-widths k n (a + k.bits))

-- ---- one slot

-- fields behind a number, one after the other
abbrev followed_by : ℕ → List ℕ → List ℕ → ℕ
followed_by n [] vs = n
followed_by n (w ∷ ws) [] = n
followed_by n (w ∷ ws) (v ∷ vs) = followed_by (followed n w v) ws vs

followed_is : (n j w v : ℕ) → n < 2 ^ j → j + w < 64 → v < 2 ^ w → followed n w v ≡ n * 2 ^ w + v
followed_is n j w v h l f =
    let all : w % 64 ≡ w = mod-eq_of_lt (omega arith) in
    ap (λ (k : ℕ). bit_or (n * 2 ^ k % 2 ^ 64) v) all ∙ ap (λ (m : ℕ). bit_or m v) (shl_exact j w 64 h (omega arith)) ∙ or_shifted n w v f

-- where all of it is in one word they make the number of their layout
one_number : (ws vs : List ℕ) (n j : ℕ) → n < 2 ^ j → j + total ws < 64 → Fit ws vs → followed_by n ws vs ≡ n * 2 ^ total ws + encode ws vs
one_number [] [] n j h l f = omega arith
one_number [] (v ∷ vs) n j h l f = absurd f
one_number (w ∷ ws) [] n j h l f = absurd f
one_number (w ∷ ws) (v ∷ vs) n j h l f =
    let small : n * 2 ^ w + v < 2 ^ (j + w) = rw (pow-add 2 j w) (digits_lt h f.0) in
    ap (λ (m : ℕ). followed_by m ws vs) (followed_is n j w v h (omega arith) f.0)
    ∙ one_number ws vs (n * 2 ^ w + v) (j + w) small (omega arith) f.1
    ∙ encode-behind n w v ws vs

-- a slot whose five parts fit is pushed as that number
one_piece : (x : Words) (ws : List ℕ) (s : Slot) → length ws ≡ 5 → total ws < 64 → Fit ws (slot_parts s) → slot_pushed x ws s ≡ pushed x (total ws) (encode ws (slot_parts s))
unfolding slot_pushed slot_number
one_piece x [] s l h f = absurd (omega arith)
one_piece x (a ∷ []) s l h f = absurd (omega arith)
one_piece x (a ∷ b ∷ []) s l h f = absurd (omega arith)
one_piece x (a ∷ b ∷ c ∷ []) s l h f = absurd (omega arith)
one_piece x (a ∷ b ∷ c ∷ d ∷ []) s l h f = absurd (omega arith)
one_piece x (a ∷ b ∷ c ∷ d ∷ e ∷ []) s l h f =
    let sum : a + b + c + d + e ≡ total (a ∷ b ∷ c ∷ d ∷ e ∷ []) = omega arith in
    ap₂ (pushed x) sum (one_number (b ∷ c ∷ d ∷ e ∷ []) (s.hour ∷ s.minute ∷ s.strength ∷ s.place ∷ []) s.day a f.0 h f.1)
one_piece x (a ∷ b ∷ c ∷ d ∷ e ∷ g ∷ ws) s l h f = absurd (omega arith)

module _ (k : Slots) (t : Suited k) where
  matched : (s : Slot) → length (widths k.rows) ≡ length (slot_values k s)
  matched s = widths_matched k t ∙ sym (length-sift (flags k.parts) (slot_parts s) refl)

  -- a tidy slot whose values fit
  slot_pushed_lem : (x : Words) (n : ℕ) (s : Slot) → Held x n → vacant (part_widths k) (slot_parts s) ≡ true → Fit (widths k.rows) (slot_values k s)
      → slot_pushed x (part_widths k) s ≡ pushed_all x (widths k.rows) (slot_values k s)
  slot_pushed_lem x n s held v f =
      let bs = flags k.parts in
      let ws = widths k.rows in
      let m = widths_matched k t in
      let parts : spread bs (slot_values k s) ≡ slot_parts s = vacant_again bs ws (slot_parts s) m refl v in
      let bits = spread-total bs ws m in
      let small : total ws < 64 = rw t.bits t.narrow in
      one_piece x (part_widths k) s (length-spread bs ws) (rw bits small) (subst (Fit (part_widths k)) parts (spread_fit bs ws (slot_values k s) m f))
      ∙ ap₂ (pushed x) bits (ap (encode (part_widths k)) (sym parts) ∙ spread-encode bs ws (slot_values k s) m f)
      ∙ pushed_as_one ws (slot_values k s) x n (fieldlike ws t.wide) f small held

  -- the first c slots, which are tidy and whose values fit
  runs-pushed : (x : Words) (n : ℕ) → Held x n → (c : ℕ) (ss : List Slot) → c ≤ length ss → tidy_slots (part_widths k) c ss ≡ true
      → Fit (runs k c) (joined (map (slot_values k) (take c ss))) → slots_pushed x (part_widths k) (take c ss) ≡ pushed_all x (runs k c) (joined (map (slot_values k) (take c ss)))
  unfolding slots_pushed tidy_slots
  runs-pushed x n held zero ss l d f = refl
  runs-pushed x n held (suc c) [] l d f = absurd (not-suc-le-zero l)
  runs-pushed x n held (suc c) (s ∷ ss) l d f =
      let ws = widths k.rows in
      let vs = slot_values k s in
      let us = joined (map (slot_values k) (take c ss)) in
      let tidy = and_both (vacant (part_widths k) (slot_parts s)) (tidy_slots (part_widths k) c ss) d in
      let fit = fit_apart ws (runs k c) vs us (matched s) f in
      ap (λ (y : Words). slots_pushed y (part_widths k) (take c ss)) (slot_pushed_lem x n s held tidy.0 fit.0)
      ∙ runs-pushed (pushed_all x ws vs) _ (held_all ws vs x n (fieldlike ws t.wide) fit.0 held) c ss (le_of_suc-le-suc l) tidy.1 fit.1
      ∙ sym (pushed_append x ws vs (runs k c) us (matched s))

  runs_many : (ss : List Slot) → length (runs k (length ss)) ≡ length (joined (map (slot_values k) ss))
  runs_many [] = refl
  runs_many (s ∷ ss) =
      length-append (widths k.rows) (runs k (length ss))
      ∙ ap₂ ◌+◌ (matched s) (runs_many ss)
      ∙ sym (length-append (slot_values k s) (joined (map (slot_values k) ss)))

  -- of the slots of a record
  module _ (ss : List Slot) (sixteen : length ss ≡ 16) where
    counted : length (take k.count ss) ≡ k.count
    counted = length-take-le k.count ss (rw sixteen t.few)

    pub slots_pushed_lem : (x : Words) (n a : ℕ) → Held x n → tidy_slots (part_widths k) k.count ss ≡ true → Fit (widths (slots_rows k k.count a)) (joined (slots_values k ss))
        → slots_pushed x (part_widths k) (take k.count ss) ≡ pushed_all x (widths (slots_rows k k.count a)) (joined (slots_values k ss))
    slots_pushed_lem x n a held tidy fit =
        let same = runs-widths k k.count a in
        runs-pushed x n held k.count ss (rw sixteen t.few) tidy (subst (λ (ws : List ℕ). Fit ws (joined (slots_values k ss))) same fit)
        ∙ ap (λ (ws : List ℕ). pushed_all x ws (joined (slots_values k ss))) (sym same)

    pub slots_many : (a : ℕ) → length (widths (slots_rows k k.count a)) ≡ length (joined (slots_values k ss))
    slots_many a = ap length (runs-widths k k.count a) ∙ ap (λ (n : ℕ). length (runs k n)) (sym counted) ∙ runs_many (take k.count ss)
