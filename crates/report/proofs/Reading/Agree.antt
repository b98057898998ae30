-- The values of the record of a frame are the values of the frame.
use Rattle.parity.specs.Parity.{parity_right}
use Rattle.category.specs.Text.{text_of}
use Rattle.std.specs.Prelude.{Ok}
use mathlib.Core.Path.{◌≡◌, ap, refl, sym, ◌∙◌}
use mathlib.Core.Bool.{Bool, ◌&&◌, false, true}
use mathlib.Core.Logic.{◌⊎◌, inl, inr}
use Rattle.rows.specs.declared.refusal.Refusal.TheVariants.{Category, Range, Message, Padding, Parity, Preamble, Version}
use Rattle.rows.specs.Runs.Questions.{◌then◌, unless}
use Prim.Native.Nat.{ℕ, zero, suc, zero-le, ◌+◌, ◌<◌}
use native.Mathlib.Omega.{arith}
use lib.Dec.{leb, eqb}
use mathlib.Core.List.{List, [], map}
use borrow.Author.Tests.{eqb-true, le-leb}
use Rattle.bits.specs.Frame.{Bytes, field_of}
use Rattle.bits.proofs.Frames.{field_lt}
use Rattle.rows.specs.Layout.{Layout, Row, bytes, common, ending}
use Rattle.rows.specs.Values.{Values, cut, values_of, last_values, Sides, common_of, head_values, sides_at}
use Rattle.rows.specs.Runs.Verdict.{allowed, body_verdict, verdict, walk}
use Rattle.report.specs.Records.{body_of, record_as, record_of, values}
use Rattle.report.specs.Runs.Reading.{found_as, outer_of, content_answer, inner_of, rules_find}
use Rattle.rows.specs.Kept.{In}
use Rattle.rows.proofs.Rules.Spans.{allowed_in}
use Rattle.rows.proofs.Rules.Outcomes.{both_and, fine_both, fine_then, then_fine, unless_fine, unless_true}
use Rattle.report.specs.Categories.{categories, layout, preambles}
use lib.ListN.{length, length-map, take}
use Rattle.slots.proofs.Tables.{slots_agree}
use Rattle.report.proofs.Tables.{last_walk, suited_slots}
use Rattle.report.proofs.Categories.{known_code, suits, text_apart}
use Rattle.nankai.specs.Nankai.{nankai}
use Rattle.nankai.proofs.Walks.{any-text-passes}
use lib.Seq.{take_at}

-- what 5, 6 and 7 leave
pub record Outer (s : List ℕ) : Type 0 where
  pub message : field_of s 8 6 ≡ 43
  pub version : field_of s 214 6 ≡ 1
  pub category : In categories (field_of s 17 4)

outer : (s : List ℕ) → outer_of s ≡ Ok tt → In categories (field_of s 17 4) → Outer s
unfolding outer_of
outer s e c =
    let m = fine_both _ _ (fine_both (unless (parity_right s) Parity) _ (fine_both (unless (allowed preambles (field_of s 0 8)) Preamble) _ (fine_both (unless (eqb (field_of s 250 6) 0) Padding) _ e).1).1).1 in
    record { message = eqb-true _ 43 (unless_fine _ Message m.0); version = eqb-true _ 1 (unless_fine _ Version m.1); category = c }

-- ---- part by part

head_agrees : (s : List ℕ) (l : Layout) → field_of s 8 6 ≡ 43 → l.code ≡ field_of s 17 4 → head_values (common_of s) l.code ≡ map (cut s) (common l)
head_agrees s l m e = rw (e, ← m)

-- the text of a frame, cut from the record's 18 bytes
pub text_agrees : (s : List ℕ) (l : Layout) → take (length l.text) (text_of s l) ≡ map (cut s) l.text
text_agrees s l = take_at (map (cut s) l.text) _ (length l.text) (length-map l.text (cut s))

last_agrees : (s : List ℕ) → field_of s 214 6 ≡ 1 → last_values (field_of s 220 6) ≡ map (cut s) ending
last_agrees s e = rw (← e)

-- ---- together

same : (h h' f f' : List ℕ) (t t' : List (List ℕ)) (x x' b b' e e' : List ℕ) → h ≡ h' → f ≡ f' → t ≡ t' → x ≡ x' → b ≡ b' → e ≡ e'
    → ◌≡◌ {A = Values} (record { head = h; front = f; slots = t; text = x; behind = b; last = e }) (record { head = h'; front = f'; slots = t'; text = x'; behind = b'; last = e' })
same h h' f f' t t' x x' b b' e e' p q r u v w = λ i. record { head = p i; front = q i; slots = r i; text = u i; behind = v i; last = w i }

pub agree : (s : List ℕ) → Outer s → values (record_of s) ≡ values_of s (layout (body_of s))
unfolding values values_of record_as
agree s o =
    let fits = suits s (field_of s 17 4) o.category in
    let l = layout (body_of s) in
    same _ _ _ _ _ _ _ _ _ _ _ _ (head_agrees s l o.message fits.code) (ap (λ (v : Sides). v.front) fits.sides) (slots_agree l.slots (suited_slots (body_of s)) s)
    (text_agrees s l) (ap (λ (v : Sides). v.behind) fits.sides) (last_agrees s o.version)

-- ---- what is asked of a frame

-- six bits hold any Reserved
six_bits : (x : ℕ) → x < 64 → leb 0 x && leb x 63 ≡ true
six_bits x h = both_and _ _ (le-leb 0 x zero-le) (le-leb x 63 (omega arith))

ending-passes : (s : List ℕ) → field_of s 214 6 ≡ 1 → walk [] ending (map (cut s) ending) ≡ Ok tt
ending-passes s e =
    let x = field_of s 220 6 in
    ap (walk [] ending) (sym (last_agrees s e)) ∙ last_walk x ∙ unless_true _ (Range 220 x) (six_bits x (field_lt s 220 6))

cut-bytes : (s : List ℕ) (n a : ℕ) → Bytes (map (cut s) (bytes n a))
cut-bytes s zero a i = omega arith
cut-bytes s (suc n) a zero = field_lt s a 8
cut-bytes s (suc n) a (suc i) = cut-bytes s n (a + 8) i

text-cut-passes : (s : List ℕ) (rs : List Row) → (rs ≡ []) ⊎ (rs ≡ nankai.text) → walk [] rs (map (cut s) rs) ≡ Ok tt
unfolding walk
text-cut-passes s rs (inl e) = ap (λ (qs : List Row). walk [] qs (map (cut s) qs)) e
text-cut-passes s rs (inr e) = ap (λ (qs : List Row). walk [] qs (map (cut s) qs)) e ∙ any-text-passes (map (cut s) nankai.text) (cut-bytes s 18 57)

bare : (s : List ℕ) (l : Layout) → walk [] l.text (map (cut s) l.text) ≡ Ok tt → walk [] ending (map (cut s) ending) ≡ Ok tt
    → verdict l (values_of s l) ≡ body_verdict l (map (cut s) (common l)) (sides_at s l) (values_of s l).slots
unfolding verdict values_of body_verdict
bare s l t e = simp (t, e, fine_then, then_fine)

rules_agree : (s : List ℕ) → Outer s → rules_find s (body_of s) ≡ inner_of s
unfolding values_of
rules_agree s o =
    let fits = suits s (field_of s 17 4) o.category in
    let l = layout (body_of s) in
    ◌∙◌ {b = body_verdict l (map (cut s) (common l)) (sides_at s l) (values_of s l).slots}
    (λ i. body_verdict l (head_agrees s l o.message fits.code i) (fits.sides i) (slots_agree l.slots (suited_slots (body_of s)) s i))
    (sym (bare s l (text-cut-passes s l.text (text_apart (body_of s))) (ending-passes s o.version)))

-- what is found where a frame's fields are taken out of it is what reading answers: 7 first, then its rules
pub content_agrees : (s : List ℕ) → outer_of s ≡ Ok tt → found_as s (body_of s) ≡ content_answer s
content_agrees s o =
    ap (λ (known : Bool). unless known Category then rules_find s (body_of s)) (known_code (sides_at s) (field_of s 17 4))
    ∙ by (allowed categories (field_of s 17 4)) refl
  where
    by : (b : Bool) → allowed categories (field_of s 17 4) ≡ b → unless b Category then rules_find s (body_of s) ≡ unless b Category then inner_of s
    by true a = rules_agree s (outer s o (allowed_in categories _ a))
    by false a = refl
