-- What reading a frame answers, and what the frame is.
use Rattle.std.specs.Prelude.{Ok, Err}
use mathlib.Core.Path.{◌≡◌, refl, ◌∙◌}
use Prim.Native.Nat.{ℕ, ◌≤◌}
use native.Mathlib.Omega.{arith}
use mathlib.Core.List.{List}
use lib.ListN.{length}
use lib.Dec.{eqb}
use borrow.Author.Tests.{eqb-true, eq-eqb}
use Rattle.bits.specs.Frame.{field_of}
use Rattle.parity.specs.Parity.{parity_of, parity_right}
use Rattle.rows.specs.declared.refusal.Refusal.{Refusal}
use Rattle.rows.specs.declared.refusal.Refusal.TheVariants.{Length, Padding, Preamble, Parity, Message, Version, Category, Range, Gap}
use Rattle.rows.specs.Layout.{Layout}
use Rattle.rows.specs.Values.{Values, values_of}
use Rattle.rows.specs.Runs.Verdict.{allowed}
use Rattle.report.specs.Records.{body_of}
use Rattle.report.specs.Runs.Reading.{outer_of, inner_of, read_answer}
use Rattle.rows.specs.Kept.{In}
use Rattle.report.specs.Conforms.{Conforms}
use Rattle.rows.specs.Faults.{Fault, Lowest, Met}
use Rattle.report.specs.Reasons.{read_questions, WhyNotRead}
use Rattle.rows.proofs.Rules.Outcomes.{then_assoc}
use Rattle.rows.proofs.Rules.Judged.{turn}
use Rattle.rows.proofs.Rules.Spans.{allowed_in, in_allowed}
use Rattle.rows.proofs.Rules.JudgedFrames.{JudgesAll}
use Rattle.rows.proofs.Rules.Ordered.{Answers, unquestioned, question, past}
use Rattle.rows.proofs.Rules.LowestBit.{for_a_reason, faulty_refused, faultless_fine}
use Rattle.rows.proofs.Layouts.Lengths.{length-each}
use Rattle.report.specs.Categories.{categories, layout, preambles}
use Rattle.report.proofs.Tables.{judged-all}

-- ---- 8, 10

-- the layout and the values of a frame
abbrev pub layout_of : List ℕ → Layout
layout_of s = layout (body_of s)

abbrev pub frame_values : List ℕ → Values
frame_values s = values_of s (layout_of s)

inner : (s : List ℕ) → JudgesAll (layout_of s) (frame_values s)
unfolding values_of
inner s = judged-all (body_of s) (frame_values s) (length-each (layout_of s).slots.count _)

-- ---- 1 to 7

answered : (s : List ℕ) → Answers (read_answer s) (read_questions s) (inner_of s)
unfolding outer_of
answered s = simp then_assoc
    (question (eqb (length s) 32) (length s ≡ 32) Length (eqb-true (length s) 32) (eq-eqb (length s) 32)
    (question (eqb (field_of s 250 6) 0) (field_of s 250 6 ≡ 0) Padding (eqb-true (field_of s 250 6) 0) (eq-eqb (field_of s 250 6) 0)
    (question (allowed preambles (field_of s 0 8)) (In preambles (field_of s 0 8)) Preamble (allowed_in preambles _) (in_allowed preambles _)
    (question (parity_right s) (parity_of s ≡ field_of s 226 24) Parity (eqb-true (parity_of s) _) (eq-eqb (parity_of s) _)
    (question (eqb (field_of s 8 6) 43) (field_of s 8 6 ≡ 43) Message (eqb-true (field_of s 8 6) 43) (eq-eqb (field_of s 8 6) 43)
    (question (eqb (field_of s 214 6) 1) (field_of s 214 6 ≡ 1) Version (eqb-true (field_of s 214 6) 1) (eq-eqb (field_of s 214 6) 1)
    (question (allowed categories (field_of s 17 4)) (In categories (field_of s 17 4)) Category (allowed_in categories _) (in_allowed categories _)
    (unquestioned (inner_of s)))))))))

-- ---- both ways

pub met : (s : List ℕ) → Conforms s → Met (read_questions s)
met s c = (c.long, (c.padding, (c.preamble, (c.parity, (c.message, (c.version, (c.category, tt)))))))

pub conforming_fine : (s : List ℕ) → Conforms s → read_answer s ≡ Ok tt
conforming_fine s c = (answered s).met (met s c) ∙ (inner s).passes c.rows

pub fine_conforming : (s : List ℕ) → read_answer s ≡ Ok tt → Conforms s
fine_conforming s e =
    let a = (answered s).fine e in
    let m = a.0 in
    record {
      long = m.0;
      padding = m.1.0;
      preamble = m.1.1.0;
      parity = m.1.1.1.0;
      message = m.1.1.1.1.0;
      version = m.1.1.1.1.1.0;
      category = m.1.1.1.1.1.1.0;
      rows = (inner s).passed a.1;
    }

-- ---- reasons

module _ (s : List ℕ) where
  pub reason : (x : Refusal) → read_answer s ≡ Err x → WhyNotRead s x
  reason = for_a_reason (read_answer s) (read_questions s) (layout_of s) (frame_values s) (answered s) (inner s)

  pub faulty : (y : Refusal) → Met (read_questions s) → Fault (layout_of s) (frame_values s) y
      → (x : Refusal) × (read_answer s ≡ Err x) × Lowest (layout_of s) (frame_values s) x
  faulty = faulty_refused (read_answer s) (read_questions s) (layout_of s) (frame_values s) (answered s) (inner s)

  pub faultless : Met (read_questions s) → ((x : Refusal) → Fault (layout_of s) (frame_values s) x → ⊥) → read_answer s ≡ Ok tt
  faultless = faultless_fine (read_answer s) (read_questions s) (layout_of s) (frame_values s) (answered s) (inner s)

-- an 8 comes from the values
refused_by_values : (s : List ℕ) (p v : ℕ) → read_answer s ≡ Err (Range p v) → inner_of s ≡ Err (Range p v)
refused_by_values s p v e = past 8 (read_questions s) (Range p v) (inner_of s ≡ Err (Range p v)) refl (omega arith) ((answered s).refused (Range p v) _ e (λ i. i))

pub fault_of_8 : (s : List ℕ) (p v : ℕ) → read_answer s ≡ Err (Range p v) → Fault (layout_of s) (frame_values s) (Range p v)
fault_of_8 s p v e = (inner s).found (Range p v) (refused_by_values s p v e)

pub no_gap : (s : List ℕ) (p v : ℕ) → read_answer s ≡ Err (Range p v) → Fault (layout_of s) (frame_values s) (Gap p) → ⊥
no_gap s p v e f = late ((inner s).earliest (Range p v) (Gap p) (refused_by_values s p v e) f)
  where
    late : turn (Range p v) ≤ turn (Gap p) → ⊥
    late h = omega arith
