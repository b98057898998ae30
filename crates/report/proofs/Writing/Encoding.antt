-- The pieces that are pushed, one behind the other, are the front of the frame; with the parity behind them they are the frame.
use Rattle.rows.specs.declared.refusal.Refusal.TheVariants.{Category, Length, Preamble, Unused}
use Rattle.rows.specs.Runs.Verdict.{allowed, verdict}
use Rattle.rows.specs.Runs.Questions.{unless, ◌then◌}
use Rattle.report.specs.declared.body.Body.{Body}
use mathlib.Core.Bool.{Bool, ◌||◌, cond, false, true}
use Rattle.bits.proofs.Pushing.{Held, held_all, held_none, held_whole, pushed_append, until_padded}
use Rattle.bits.specs.declared.words.Words.{Words}
use Rattle.bits.specs.Words.{pushed, pushed_all, pushed_until, value_of, words_of}
use Rattle.bits.proofs.Bytes.{number_bytes_of}
use Rattle.rows.specs.Layout.{Layout, Row, all_rows, common, ending, no_category, slots_rows}
use mathlib.Core.List.{List, [], ◌++◌, map-append, ◌∷◌}
use Rattle.report.specs.declared.record.Record.{Record}
use Rattle.report.proofs.Shaped.{Shaped, record_filled}
use Rattle.report.specs.Runs.Writing.{front, Valid, body_pushed, frame, front_values, front_widths, known, tidy, write_answer}
use Prim.Native.Nat.{◌*◌, ◌+◌, ◌-◌, ◌/◌, ◌<◌, ◌^◌, ℕ}
use mathlib.Core.Path.{◌∙◌, ◌≡◌, ap, refl, subst, sym}
use mathlib.Core.Logic.{◌⊎◌, inl, inr}
use Rattle.slots.proofs.Parts.{all_wide, fieldlike}
use Rattle.rows.proofs.Rules.Outcomes.{and_both, fine_both, unless_fine}
use Rattle.rows.specs.Values.{filled, head_values, joined, widths, last_values, part_widths}
use Rattle.rows.specs.Runs.Fields.{has_rows, fields_in}
use native.Mathlib.Omega.{arith}
use Rattle.bits.specs.Frame.{bytes_of, number}
use Rattle.bits.proofs.Layouts.{fit_apart}
use Rattle.bits.specs.Layout.{encode, Fit, total}
use lib.Dec.{eqb, lit<, lit≤, ltb}
use borrow.Author.Tests.{eqb-true, ltb-true}
use Rattle.report.proofs.Tables.{pieces_fit_lem, pieces_fit, suited_slots}
use Rattle.report.specs.Categories.{layout, sides_of, preambles}
use lib.ListN.{length, length-map, replicate, take}
use Rattle.report.proofs.Categories.{listed, sides_filled, text_apart}
use native.Mathlib.Nat.{mod-eq_of_lt, add-zero}
use Rattle.nankai.specs.Nankai.{nankai}
use Rattle.parity.proofs.Claims.{parity_fits_its_field}
use Rattle.parity.proofs.Front.{parity_of_front_lem}
use Rattle.parity.specs.Parity.{parity_of, parity_of_front}
use lib.Pow.{shl_lt, shl-shr}
use Rattle.slots.specs.Runs.{slots_pushed}
use Rattle.slots.specs.Slots.{slots_values, tidy_slots}
use lib.Seq.{take_all}
use Rattle.report.proofs.Writing.Ends.{ended_lt}
use Rattle.report.proofs.Writing.Validity.{valid_keeps}
use Rattle.report.specs.Records.{values}
use Rattle.report.proofs.RoundTrips.WrittenThenRead.{front_fit, front_lt}
use Rattle.slots.proofs.Pushing.{slots_pushed_lem, slots_many}

-- ---- the pieces

abbrev slots_widths : Layout → List ℕ
slots_widths l = widths (slots_rows l.slots l.slots.count l.slots.first)

record Pieces (l : Layout) : Type 0 where
  ahead : all_wide (widths l.front) ≡ true
  behind : all_wide (widths l.behind) ≡ true
  whole : all_wide (front_widths l) ≡ true

coded : (n : ℕ) (b c : Bool) → eqb n 0 ≡ b → ltb 0 n ≡ true → b || c ≡ true → c ≡ true
coded n true c e k h = absurd (omega (arith, eqb-true n 0 e, ltb-true 0 n k))
coded n false c e k h = h

pieces : (b : Body) → known b ≡ true → Pieces (layout b)
pieces b k =
    let l = layout b in
    let a = and_both (all_wide (widths l.front)) _ (coded l.code (eqb l.code 0) _ refl k (listed pieces_fit pieces_fit_lem b)) in
    let c = and_both (all_wide (widths l.behind)) _ a.1 in
    record { ahead = a.0; behind = c.0; whole = c.1 }

-- a list of fields, filled up with none
fields_pushed : (x : Words) (ws vs : List ℕ) (n : ℕ) → length ws ≡ length vs → all_wide ws ≡ true → pushed_until x (filled n ws) (filled n vs) ≡ pushed_all x ws vs
fields_pushed x ws vs n l h = until_padded x ws vs (replicate (n - length vs) 0) (n - length ws) l (fieldlike ws h)

text-pushed : (rs : List Row) (x : Words) (text : List ℕ) → (rs ≡ []) ⊎ (rs ≡ nankai.text) → length text ≡ 18
    → cond (has_rows rs) (pushed_all x (widths nankai.text) text) x ≡ pushed_all x (widths rs) (take (length rs) text)
text-pushed rs x text (inl e) n =
    ap (λ (qs : List Row). cond (has_rows qs) (pushed_all x (widths nankai.text) text) x) e ∙ sym (ap (λ (qs : List Row). pushed_all x (widths qs) (take (length qs) text)) e)
text-pushed rs x text (inr e) n =
    ap (λ (qs : List Row). cond (has_rows qs) (pushed_all x (widths nankai.text) text) x) e
    ∙ ap (pushed_all x (widths nankai.text)) (sym (take_all 18 text (omega arith)))
    ∙ sym (ap (λ (qs : List Row). pushed_all x (widths qs) (take (length qs) text)) e)

-- six runs of fields
module _ (x : Words) (wc wf ws wt wb we vc vf vs vt vb ve : List ℕ) (lc : length wc ≡ length vc) (lf : length wf ≡ length vf) (ls : length ws ≡ length vs) (lt : length wt ≡ length vt) (lb : length wb ≡ length vb) where
  in_six : pushed_all x (wc ++ (wf ++ (ws ++ (wt ++ (wb ++ we))))) (vc ++ (vf ++ (vs ++ (vt ++ (vb ++ ve)))))
      ≡ pushed_all (pushed_all (pushed_all (pushed_all (pushed_all (pushed_all x wc vc) wf vf) ws vs) wt vt) wb vb) we ve
  in_six =
      pushed_append x wc vc _ _ lc
      ∙ pushed_append (pushed_all x wc vc) wf vf _ _ lf
      ∙ pushed_append (pushed_all (pushed_all x wc vc) wf vf) ws vs _ _ ls
      ∙ pushed_append (pushed_all (pushed_all (pushed_all x wc vc) wf vf) ws vs) wt vt _ _ lt
      ∙ pushed_append (pushed_all (pushed_all (pushed_all (pushed_all x wc vc) wf vf) ws vs) wt vt) wb vb we ve lb

widths_six : (a b c d e f : List Row) → widths (a ++ (b ++ (c ++ (d ++ (e ++ f))))) ≡ widths a ++ (widths b ++ (widths c ++ (widths d ++ (widths e ++ widths f))))
widths_six a b c d e f = simp map-append

all-widths : (l : Layout)
    → widths (all_rows l) ≡ widths (common l) ++ (widths l.front ++ (slots_widths l ++ (widths l.text ++ (widths l.behind ++ widths ending))))
all-widths l = widths_six (common l) l.front (slots_rows l.slots l.slots.count l.slots.first) l.text l.behind ending

many : (rs : List Row) (vs : List ℕ) → length vs ≡ length rs → length (widths rs) ≡ length vs
many rs vs e = length-map rs (λ r. r.width) ∙ sym e

-- ---- of a valid record

-- it has a category
valid_known : (r : Record) → Valid r → known r.body ≡ true
unfolding write_answer
valid_known r v = unless_fine _ Category (fine_both _ (◌then◌ (unless (tidy r) Unused) (verdict (layout r.body) (values r))) (fine_both (unless (allowed preambles r.preamble) Preamble) _ (fine_both (unless (eqb 32 32) Length) _ v).1).1).0

-- nothing stands where the category has nothing
valid_tidy : (r : Record) → Valid r → tidy r ≡ true
unfolding write_answer
valid_tidy r v = unless_fine _ Unused (fine_both _ (verdict (layout r.body) (values r)) (fine_both (unless (known r.body) Category) _ (fine_both (unless (allowed preambles r.preamble) Preamble) _ (fine_both (unless (eqb 32 32) Length) _ v).1).1).1).0

-- its values fit, piece by piece up to the slots
record Fits (r : Record) : Type 0 where
  head : Fit (8 ∷ widths (common no_category)) (r.preamble ∷ head_values r.common (layout r.body).code)
  ahead : Fit (widths (layout r.body).front) (sides_of r.body r.spares).front
  slots : Fit (slots_widths (layout r.body)) (joined (slots_values (layout r.body).slots r.slots))

module _ (r : Record) (s : Shaped r) (v : Valid r) where
  front_many : length (widths (layout r.body).front) ≡ length (sides_of r.body r.spares).front
  front_many = many (layout r.body).front (sides_of r.body r.spares).front (sides_filled r.body r.spares).0

  places_many : length (slots_widths (layout r.body)) ≡ length (joined (slots_values (layout r.body).slots r.slots))
  places_many = slots_many (layout r.body).slots (suited_slots r.body) r.slots s.slots (layout r.body).slots.first

  fits : Fits r
  unfolding values
  fits =
      let l = layout r.body in
      let sides = sides_of r.body r.spares in
      let ws = slots_widths l in
      let vs = joined (slots_values l.slots r.slots) in
      let wt = widths l.text ++ (widths l.behind ++ widths ending) in
      let vt = take (length l.text) r.text ++ (sides.behind ++ last_values r.reserved) in
      let whole = subst (λ (ws : List ℕ). Fit (8 ∷ ws) (front_values r)) (all-widths l) (front_fit r s (valid_keeps r s v)) in
      let a = fit_apart (8 ∷ widths (common l)) (widths l.front ++ (ws ++ wt)) (r.preamble ∷ head_values r.common l.code) (sides.front ++ (vs ++ vt)) refl whole in
      let b = fit_apart (widths l.front) (ws ++ wt) sides.front (vs ++ vt) front_many a.1 in
      let c = fit_apart ws wt vs vt places_many b.1 in
      record { head = a.0; ahead = b.0; slots = c.0 }

  -- bits 43 to 213
  body_pushed_lem : (x : Words) (n : ℕ) → Held x n → let l = layout r.body in let sides = sides_of r.body r.spares in (
      body_pushed x (fields_in l sides) r.slots r.text
      ≡ pushed_all (pushed_all (pushed_all (pushed_all x (widths l.front) sides.front) (slots_widths l) (joined (slots_values l.slots r.slots))) (widths l.text) (take (length l.text) r.text))
      (widths l.behind) sides.behind
      )
  unfolding body_pushed
  body_pushed_lem x n held =
      let l = layout r.body in
      let p = pieces r.body (valid_known r v) in
      let sides = sides_of r.body r.spares in
      let ws = part_widths l.slots in
      let tidy = (and_both (tidy_slots ws l.slots.count r.slots) _ (valid_tidy r v)).0 in
      let start = held_all (widths l.front) sides.front x n (fieldlike (widths l.front) p.ahead) fits.ahead held in
      fields_pushed _ (widths l.behind) sides.behind 3 (many l.behind sides.behind (sides_filled r.body r.spares).1) p.behind
      ∙ ap (λ (y : Words). pushed_all y (widths l.behind) sides.behind)
      (text-pushed l.text _ r.text (text_apart r.body) s.text
      ∙ ap (λ (y : Words). pushed_all y (widths l.text) (take (length l.text) r.text))
      (ap (λ (y : Words). slots_pushed y ws (take l.slots.count r.slots)) (fields_pushed x (widths l.front) sides.front 18 front_many p.ahead)
      ∙ slots_pushed_lem l.slots (suited_slots r.body) r.slots s.slots _ _ l.slots.first start tidy fits.slots))

  -- bits 0 to 225
  pub all-pushed : (f g h j : Words) → let l = layout r.body in (
      f ≡ pushed (words_of 0) 8 r.preamble
      → g ≡ pushed_all f (widths (common no_category)) (head_values r.common l.code)
      → h ≡ body_pushed g (fields_in l (sides_of r.body r.spares)) r.slots r.text
      → j ≡ pushed_all h (widths ending) (last_values r.reserved)
      → j ≡ pushed_all (words_of 0) (front_widths l) (front_values r)
      )
  unfolding values
  all-pushed f g h j ef eg eh ej =
      let l = layout r.body in
      let sides = sides_of r.body r.spares in
      let full = record_filled r s in
      let first = pushed (words_of 0) 8 r.preamble in
      let head = head_values r.common l.code in
      let wc = widths (common l) in
      let vs = joined (slots_values l.slots r.slots) in
      let vt = take (length l.text) r.text in
      let ve = last_values r.reserved in
      let start : g ≡ pushed_all first wc head = eg ∙ ap (λ (x : Words). pushed_all x wc head) ef in
      let held = held_all (8 ∷ wc) (r.preamble ∷ head) (words_of 0) 0 (fieldlike (8 ∷ wc) refl) fits.head held_none in
      let inner = eh ∙ ap (λ (x : Words). body_pushed x (fields_in l sides) r.slots r.text) start ∙ body_pushed_lem (pushed_all first wc head) _ held in
      ej
      ∙ ap (λ (x : Words). pushed_all x (widths ending) ve) inner
      ∙ sym (in_six first wc (widths l.front) (slots_widths l) (widths l.text) (widths l.behind) (widths ending) head sides.front vs vt sides.behind ve refl
      front_many places_many (many l.text vt full.text) (many l.behind sides.behind full.behind))
      ∙ ap (λ (ws : List ℕ). pushed_all first ws (head ++ (sides.front ++ (vs ++ (vt ++ (sides.behind ++ ve)))))) (sym (all-widths l))

-- ---- the parity behind them

together : (x y : ℕ) → x * 2 ^ 30 + (y * 2 ^ 6 + 0) ≡ (x * 2 ^ 24 + y) * 2 ^ 6
together x y = omega arith

module _ (r : Record) (s : Shaped r) (v : Valid r) where
  front_small : front r * 2 ^ 30 < 2 ^ 256
  front_small = shl_lt 226 30 (front_lt r s (valid_keeps r s v))

  -- the words of bits 0 to 225
  held_front : (x : Words) → x ≡ pushed_all (words_of 0) (front_widths (layout r.body)) (front_values r) → Held x (front r)
  unfolding front
  held_front x e =
      let ws = front_widths (layout r.body) in
      let vs = front_values r in
      let fields = held_all ws vs (words_of 0) 0 (fieldlike ws (pieces r.body (valid_known r v)).whole) (front_fit r s (valid_keeps r s v)) held_none in
      let whole : 0 * 2 ^ total ws + encode ws vs ≡ encode ws vs = omega arith in
      subst (λ (y : Words). Held y (encode ws vs)) (sym e) (subst (Held (pushed_all (words_of 0) ws vs)) whole fields)

  module _ (x : Words) (e : x ≡ pushed_all (words_of 0) (front_widths (layout r.body)) (front_values r)) where
    -- with room for the parity behind them
    pub front-number : value_of (pushed x 30 0) ≡ front r * 2 ^ 30
    front-number =
        held_whole (pushed x 30 0) (front r * 2 ^ 30)
        (subst (Held (pushed x 30 0)) (add-zero (front r * 2 ^ 30)) (held_all (30 ∷ []) (0 ∷ []) x (front r) ((lit< tt, lit≤ tt), tt) (lit< tt, tt) (held_front x e)))
        front_small

    -- with the parity of that frame behind them
    pub whole_number : (f : List ℕ) (p : ℕ) → f ≡ bytes_of (front r * 2 ^ 30) → p ≡ parity_of f → value_of (pushed (pushed x 24 p) 6 0) ≡ frame r
    unfolding frame
    whole_number f p o q =
        let n : number f ≡ front r * 2 ^ 30 = ap number o ∙ number_bytes_of (front r * 2 ^ 30) ∙ mod-eq_of_lt front_small in
        let parity : p ≡ parity_of_front (front r) = q ∙ parity_of_front_lem f ∙ ap parity_of_front (ap (λ (y : ℕ). y / 2 ^ 30) n ∙ shl-shr (front r) 30) in
        let fits : p < 2 ^ 24 = subst (λ (y : ℕ). y < 2 ^ 24) (sym q) (parity_fits_its_field f) in
        let is : front r * 2 ^ 30 + (p * 2 ^ 6 + 0) ≡ (front r * 2 ^ 24 + parity_of_front (front r)) * 2 ^ 6 = together (front r) p ∙ ap (λ (y : ℕ). (front r * 2 ^ 24 + y) * 2 ^ 6) parity in
        held_whole (pushed (pushed x 24 p) 6 0) ((front r * 2 ^ 24 + parity_of_front (front r)) * 2 ^ 6)
        (subst (Held (pushed (pushed x 24 p) 6 0)) is
        (held_all (24 ∷ 6 ∷ []) (p ∷ 0 ∷ []) x (front r) ((lit< tt, lit≤ tt), ((lit< tt, lit≤ tt), tt)) (fits, (lit< tt, tt)) (held_front x e)))
        (ended_lt (front r) (parity_of_front (front r)) (subst (λ (y : ℕ). y < 2 ^ 24) parity fits) (front_lt r s (valid_keeps r s v)))
