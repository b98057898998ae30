-- Why a frame is refused: its faults, wherever they are, and the order in which document 01 asks.
use Rattle.std.specs.Prelude.{ℕ, ◌≡◌, List, [], ◌∷◌, length}
use Rattle.bits.specs.Frame.{field_of}
use Rattle.parity.specs.Parity.{parity_of}
use Rattle.rows.specs.declared.refusal.Refusal.{Refusal}
use Rattle.rows.specs.declared.refusal.Refusal.TheVariants.{Length, Padding, Preamble, Parity, Message, Version, Category, Unused}
use Rattle.report.specs.declared.record.Record.{Record}
use Rattle.report.specs.Records.{body_of, values}
use Rattle.rows.specs.Values.{values_of}
use Rattle.rows.specs.Kept.{In}
use Rattle.rows.specs.Faults.{Lowest, ◌or◌, First, Question}
use Rattle.report.specs.Rules.{Tidy}
use Rattle.report.specs.declared.body.Body.TheVariants.{NoCategory}
use Rattle.report.specs.Categories.{categories, layout, preambles}

-- ---- the order of 1 to 7

abbrev pub read_questions : List ℕ → List Question
read_questions s =
    (length s ≡ 32) or Length
    ∷ (field_of s 250 6 ≡ 0) or Padding
    ∷ In preambles (field_of s 0 8) or Preamble
    ∷ (parity_of s ≡ field_of s 226 24) or Parity
    ∷ (field_of s 8 6 ≡ 43) or Message
    ∷ (field_of s 214 6 ≡ 1) or Version
    ∷ In categories (field_of s 17 4) or Category
    ∷ []

abbrev pub WhyNotRead : List ℕ → Refusal → Type 0
WhyNotRead s x = First (read_questions s) x (Lowest (layout (body_of s)) (values_of s (layout (body_of s))) x)

-- ---- writing: the order of 1, 3, 7, 11

abbrev pub write_questions : Record → ℕ → List Question
write_questions r size =
    (size ≡ 32) or Length
    ∷ In preambles r.preamble or Preamble
    ∷ (r.body ≡ NoCategory → ⊥) or Category
    ∷ Tidy r or Unused
    ∷ []

abbrev pub WhyNotWritten : Record → ℕ → Refusal → Type 0
WhyNotWritten r size x = First (write_questions r size) x (Lowest (layout r.body) (values r) x)
