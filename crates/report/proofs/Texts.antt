-- The text of a record: where its category has one it is 18 bytes, and any pass; where it has none it is zeros.
use Rattle.category.specs.Text.{text_of}
use Rattle.std.specs.Prelude.{Ok}
use Rattle.bits.specs.Frame.{Bytes}
use Rattle.rows.specs.Kept.{Empty}
use Rattle.rows.specs.Layout.{Layout, Row}
use mathlib.Core.List.{List, [], ◌∷◌, append-nil, map}
use Rattle.report.specs.declared.record.Record.{Record}
use mathlib.Core.Bool.{◌&&◌, ◌||◌}
use Rattle.rows.specs.Runs.Questions.{◌then◌}
use mathlib.Core.Path.{◌∙◌, ◌≡◌, ap, ap₂, refl, subst, sym}
use mathlib.Core.Logic.{◌⊎◌, inl, inr}
use Rattle.rows.specs.Values.{cut, filled, head_values}
use Rattle.rows.specs.Runs.Fields.{has_rows}
use Rattle.nankai.proofs.Walks.{any-text-passes}
use native.Mathlib.Omega.{arith}
use Rattle.rows.specs.Runs.Verdict.{body_verdict, empty, ranged, verdict, walk}
use lib.ListN.{drop, drop_of_length-le, length, replicate, take}
use Rattle.rows.proofs.Rules.Outcomes.{fine_then, then_assoc}
use Rattle.report.proofs.Tables.{last_walk}
use Rattle.report.specs.Categories.{layout, sides_of}
use lib.Dec.{leb}
use Rattle.nankai.specs.Nankai.{nankai}
use Rattle.slots.specs.Slots.{slots_values}
use Prim.Native.Nat.{suc, zero, ℕ, ◌≤◌}
use native.Mathlib.Nat.{suc_inj, suc-ne-zero}
use lib.Seq.{take_all}
use Rattle.report.proofs.Categories.{text_apart}
use Rattle.report.specs.Records.{values}

-- ---- what is asked of it

pub text-passes : (rs : List Row) (text : List ℕ) → (rs ≡ []) ⊎ (rs ≡ nankai.text) → Bytes text → length text ≡ 18 → walk [] rs (take (length rs) text) ≡ Ok tt
unfolding walk
text-passes rs text (inl e) h n = ap (λ (qs : List Row). walk [] qs (take (length qs) text)) e
text-passes rs text (inr e) h n =
    ap (λ (qs : List Row). walk [] qs (take (length qs) text)) e
    ∙ ap (walk [] nankai.text) (take_all 18 text (omega arith))
    ∙ any-text-passes text h

-- so it plays no part in the verdict on a record
pub record_verdict : (r : Record) → Bytes r.text → length r.text ≡ 18
    → verdict (layout r.body) (values r)
    ≡ body_verdict (layout r.body) (head_values r.common (layout r.body).code) (sides_of r.body r.spares) (slots_values (layout r.body).slots r.slots)
    then ranged (leb 0 r.reserved && leb r.reserved 63) 220 r.reserved
unfolding verdict values body_verdict
record_verdict r h n = simp (text-passes (layout r.body).text r.text (text_apart r.body) h n, last_walk r.reserved, fine_then, then_assoc)

-- ---- what is behind it

-- a category without text leaves nothing out, and one with text all of it
pub text-behind : (rs : List Row) (text : List ℕ) → (rs ≡ []) ⊎ (rs ≡ nankai.text) → length text ≡ 18 → has_rows rs || empty text ≡ empty (drop (length rs) text)
unfolding empty
text-behind rs text (inl e) n = ap (λ (qs : List Row). has_rows qs || empty text) e ∙ sym (ap (λ (qs : List Row). empty (drop (length qs) text)) e)
text-behind rs text (inr e) n =
    let enough : length text ≤ 18 = omega arith in
    ap (λ (qs : List Row). has_rows qs || empty text) e ∙ sym (ap (λ (qs : List Row). empty (drop (length qs) text)) e ∙ ap empty (drop_of_length-le text enough))

-- ---- it is told by its values

all_zero : (vs : List ℕ) (n : ℕ) → length vs ≡ n → Empty vs → replicate n 0 ≡ vs
all_zero [] zero l h = refl
all_zero [] (suc n) l h = absurd (suc-ne-zero n (sym l))
all_zero (v ∷ vs) zero l h = absurd (suc-ne-zero (length vs) l)
all_zero (v ∷ vs) (suc n) l h = ap₂ (λ (a : ℕ) (b : List ℕ). a ∷ b) (sym h.0) (all_zero vs n (suc_inj l) h.1)

pub same_text : (s : List ℕ) (l : Layout) (text : List ℕ) → (l.text ≡ []) ⊎ (l.text ≡ nankai.text) → length text ≡ 18 → Empty (drop (length l.text) text)
    → map (cut s) l.text ≡ take (length l.text) text → text_of s l ≡ text
same_text s l text (inl e) n h q =
    ap (λ (rs : List Row). filled 18 (map (cut s) rs)) e
    ∙ all_zero text 18 n (subst (λ (rs : List Row). Empty (drop (length rs) text)) e h)
same_text s l text (inr e) n h q =
    ap (λ (rs : List Row). filled 18 (map (cut s) rs)) e
    ∙ append-nil (map (cut s) nankai.text)
    ∙ subst (λ (rs : List Row). map (cut s) rs ≡ take (length rs) text) e q
    ∙ take_all 18 text (omega arith)
