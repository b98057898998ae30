-- Why a sentence is refused where it is read or written: the order in which document 02 asks.
use Rattle.std.specs.Prelude.{◌≡◌, List, [], ◌∷◌, ◌⊎◌, ℕ, ◌+◌, ◌/◌, ◌%◌, ◌≤◌, ◌<◌, length, get_or}
use Rattle.rows.specs.declared.refusal.Refusal.{Refusal}
use Rattle.rows.specs.declared.refusal.Refusal.TheVariants.{Short, Sentence, Checksum, Satellite}
use Rattle.rows.specs.Kept.{In}
use Rattle.rows.specs.Faults.{◌or◌, First, Question}
use Rattle.report.specs.Reasons.{WhyNotRead}
use Rattle.report.specs.Conforms.{Conforms}
use Rattle.line.specs.Lines.{digits}
use Rattle.line.specs.Reasons.{WhyNotReadAsLine}
use Rattle.sentence.specs.Sentences.{head, comma, star, satellites, checksum, between, digits_in, told_in}

-- not 18: the length, and what stands at fixed places
pub record Formed (s : List ℕ) : Type 0 where
  pub long : length s ≡ 78
  pub headed : (i : ℕ) → i < 7 → get_or s i 0 ≡ get_or head i 0
  pub parted : get_or s 9 0 ≡ comma
  pub starred : get_or s 73 0 ≡ star
  pub checked : In digits (get_or s 74 0) × In digits (get_or s 75 0)
  pub ended : (get_or s 76 0 ≡ 0x0D) × (get_or s 77 0 ≡ 0x0A)

-- the two characters are the decimal digits of n
abbrev pub Names : List ℕ → ℕ → Type 0
Names s n = (get_or s 7 0 ≡ 0x30 + n / 10) × (get_or s 8 0 ≡ 0x30 + n % 10)

-- not 20: they are those of a satellite that is listed
abbrev pub Listed : List ℕ → Type 0
Listed s = (n : ℕ) × In satellites n × Names s n

abbrev pub sentence_questions : List ℕ → List Question
sentence_questions s = Formed s or Sentence ∷ (checksum (between s) ≡ told_in s) or Checksum ∷ Listed s or Satellite ∷ []

-- "then 17, then the frame's own"
abbrev pub WhyNotReadAsSentence : List ℕ → Refusal → Type 0
WhyNotReadAsSentence s x = First (sentence_questions s) x (WhyNotReadAsLine (digits_in s) x)

-- writing: 20, "then all that reading the frame refuses, then 16"
abbrev pub WhyNotSent : ℕ → List ℕ → ℕ → Refusal → Type 0
WhyNotSent n f room x =
    First (In satellites n or Satellite ∷ []) x (WhyNotRead f x ⊎ (Conforms f × First ((78 ≤ room) or Short ∷ []) x ⊥))
