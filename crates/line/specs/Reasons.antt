-- Why a line is refused where it is read or written: the order in which document 01 asks.
use Rattle.std.specs.Prelude.{◌≡◌, List, [], ◌∷◌, ℕ, ◌≤◌, ◌<◌, length, get_or}
use Rattle.bits.specs.Frame.{field_of}
use Rattle.rows.specs.declared.refusal.Refusal.{Refusal}
use Rattle.rows.specs.declared.refusal.Refusal.TheVariants.{Length, Padding, Short, Line}
use Rattle.rows.specs.Kept.{In}
use Rattle.rows.specs.Faults.{◌or◌, First, Question}
use Rattle.report.specs.Reasons.{WhyNotRead}
use Rattle.line.specs.Lines.{digits, frame_of_line}

-- "63 hexadecimal digits, either case"
pub record SixtyThreeDigits (l : List ℕ) : Type 0 where
  pub long : length l ≡ 63
  pub each : (i : ℕ) → i < 63 → In digits (get_or l i 0)

-- "A line: 17, then as its frame"
abbrev pub WhyNotReadAsLine : List ℕ → Refusal → Type 0
WhyNotReadAsLine l x = First (SixtyThreeDigits l or Line ∷ []) x (WhyNotRead (frame_of_line l) x)

-- a line is written to a buffer of so many bytes: 1, 2, then 16
abbrev pub print_questions : List ℕ → ℕ → List Question
print_questions s room = (length s ≡ 32) or Length ∷ (field_of s 250 6 ≡ 0) or Padding ∷ (63 ≤ room) or Short ∷ []

abbrev pub WhyNotPrinted : List ℕ → ℕ → Refusal → Type 0
WhyNotPrinted s room x = First (print_questions s room) x ⊥
