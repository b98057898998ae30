-- What a store reports and tells, defined from the frames that it took (document 01, "The page store").
use Rattle.std.specs.Prelude.{◌≡◌, List, [], ◌∷◌, ◌++◌, ◌⊎◌, ℕ, zero, suc, ◌≤◌, ◌<◌, length, drop, replicate, Ok, Err}
use Rattle.rows.specs.declared.refusal.Refusal.{Refusal}
use Rattle.rows.specs.declared.refusal.Refusal.TheVariants.{Short}
use Rattle.pages.specs.declared.name.Name.{Name}
use Rattle.bulletin.specs.declared.store.Store.{Store}
use Rattle.bulletin.specs.Counts.{Counted as Count}
use Rattle.bulletin.specs.Text.{text_answer, text_buffer}
use Rattle.histories.specs.Frames.{Frame, Absent, Held, Disputed}

-- ---- "how many pages are held, how many are disputed, and the lowest page that is not held (0 if none)"

-- of the pages 1 to n, k have the property
pub data Counted (P : ℕ → Type 0) : ℕ → ℕ → Type 0 where
  none : Counted P 0 0
  one_more : {n k : ℕ} → Counted P n k → P (suc n) → Counted P (suc n) (suc k)
  no_more : {n k : ℕ} → Counted P n k → (P (suc n) → ⊥) → Counted P (suc n) k

-- all pages 1 to n have the property
abbrev pub All : (ℕ → Type 0) → ℕ → Type 0
All P n = (p : ℕ) → 1 ≤ p → p ≤ n → P p

-- of the pages 1 to n, k is the lowest that lacks the property
pub record LowestWithout (P : ℕ → Type 0) (n k : ℕ) : Type 0 where
  pub low : 1 ≤ k
  pub high : k ≤ n
  pub lacks : P k → ⊥
  pub before : (p : ℕ) → 1 ≤ p → p < k → P p

-- the page is held, with whatever text
abbrev pub IsHeld : Name → List Frame → ℕ → Type 0
IsHeld n frames p = (t : List ℕ) × Held n frames p t

pub record Reports (n : Name) (frames : List Frame) (c : Count) : Type 0 where
  pub answer : c.answer ≡ Ok tt
  pub held : Counted (IsHeld n frames) n.total c.held
  pub disputed : Counted (Disputed n frames) n.total c.disputed
  pub lowest : ((c.lowest ≡ 0) × All (IsHeld n frames) n.total) ⊎ LowestWithout (IsHeld n frames) n.total c.lowest

-- ---- "The text is the pages' bytes in order, less all zero bytes at its end"

-- the texts of the pages 1 to n, one behind the other
abbrev pub in_order : (ℕ → List ℕ) → ℕ → List ℕ
in_order t zero = []
in_order t (suc n) = in_order t n ++ t (suc n)

pub record Trimmed (whole text : List ℕ) : Type 0 where
  pub zeros : ℕ
  pub is : whole ≡ text ++ replicate zeros 0
  pub ends : (l : List ℕ) → text ≡ l ++ (0 ∷ []) → ⊥

-- a store tells the text: "Text leaves the bytes after its length untouched", and 16 where the buffer is too short
pub record Tells (s : Store) (text : List ℕ) : Type 0 where
  pub answer : (out : List ℕ) → length text ≤ length out → text_answer s (length out) ≡ record { answer = Ok tt; length = length text }
  pub written : (out : List ℕ) → length text ≤ length out → text_buffer s out ≡ text ++ drop (length text) out
  pub short : (out : List ℕ) → length out < length text → text_answer s (length out) ≡ record { answer = Err Short; length = 0 }
  pub untouched : (out : List ℕ) → length out < length text → text_buffer s out ≡ out

-- a store tells nothing, for this reason
pub record TellsNothing (s : Store) (x : Refusal) : Type 0 where
  pub answer : (size : ℕ) → text_answer s size ≡ record { answer = Err x; length = 0 }
  pub untouched : (out : List ℕ) → text_buffer s out ≡ out

-- "15: a page is not held; with the lowest such page and whether it is absent or disputed": mark 1 is absent, 2 disputed
pub record NotHeldBecause (n : Name) (frames : List Frame) (k mark : ℕ) : Type 0 where
  pub lowest : LowestWithout (IsHeld n frames) n.total k
  pub why : ((mark ≡ 1) × Absent n frames k) ⊎ ((mark ≡ 2) × Disputed n frames k)
