-- Why a store refuses: the order in which document 01 asks ("What each number says").
use Rattle.std.specs.Prelude.{◌≡◌, List, [], ◌∷◌, ◌⊎◌, ℕ, ◌≤◌, length, Err}
use Rattle.rows.specs.declared.refusal.Refusal.{Refusal}
use Rattle.rows.specs.declared.refusal.Refusal.TheVariants.{NoPage, OtherBulletin, Unsound, NotHeld, Short}
use Rattle.rows.specs.Faults.{◌or◌, First, Question}
use Rattle.nankai.specs.declared.PageNumbers.{PageNumbers}
use Rattle.report.specs.declared.record.Record.{Record}
use Rattle.report.specs.declared.body.Body.TheVariants.{Nankai}
use Rattle.report.specs.Runs.Writing.{write_answer, Valid}
use Rattle.pages.specs.declared.name.Name.{Name}
use Rattle.pages.specs.Pages.{absent_page, held_page, disputed_page}
use Rattle.bulletin.specs.declared.store.Store.{Store}
use Rattle.bulletin.specs.Takings.{bulletin_of}
use Rattle.histories.specs.Soundness.{open_questions, Sound}
use Rattle.histories.specs.Frames.{page_numbered}
use Rattle.histories.specs.Reports.{All, LowestWithout, in_order, Trimmed}

-- ---- "Opening: 8 at the first bad value in frame order"

abbrev pub WhyNotOpened : Name → Refusal → Type 0
WhyNotOpened n x = First (open_questions n) x ⊥

-- ---- "Merging: 14, 13"

abbrev pub merge_questions : Store → Store → List Question
merge_questions a b = Sound a or Unsound ∷ Sound b or Unsound ∷ (a.name ≡ b.name) or OtherBulletin ∷ []

abbrev pub WhyNotMerged : Store → Store → Refusal → Type 0
WhyNotMerged a b x = First (merge_questions a b) x ⊥

-- ---- "The reports of a store: 14"

abbrev pub report_questions : Store → List Question
report_questions s = Sound s or Unsound ∷ []

abbrev pub WhyNotReported : Store → Refusal → Type 0
WhyNotReported s x = First (report_questions s) x ⊥

-- ---- "Taking: 14, then what writing that record to 32 bytes would refuse, 12, 13"

-- the record is a Nankai page ..
abbrev pub IsPage : Record → Type 0
IsPage r = (p : PageNumbers) × (r.body ≡ Nankai p)

-- .. and names this bulletin
abbrev pub IsPageOf : Name → Record → Type 0
IsPageOf n r = (p : PageNumbers) × (r.body ≡ Nankai p) × (bulletin_of r.common p ≡ n)

abbrev pub page_questions : Name → Record → List Question
page_questions n r = IsPage r or NoPage ∷ IsPageOf n r or OtherBulletin ∷ []

abbrev pub WhyNotTaken : Store → Record → Refusal → Type 0
WhyNotTaken s r x = First (Sound s or Unsound ∷ []) x ((write_answer r 32 ≡ Err x) ⊎ (Valid r × First (page_questions s.name r) x ⊥))

-- ---- "Text: 14, 15, 16"

abbrev pub PageHeld : Store → ℕ → Type 0
PageHeld s p = (t : List ℕ) × (page_numbered s p ≡ held_page t)

-- "the lowest such page and whether it is absent or disputed": mark 1 is absent, 2 disputed
pub record LowestNotHeld (s : Store) (k mark : ℕ) : Type 0 where
  pub lowest : LowestWithout (PageHeld s) s.name.total k
  pub why : ((mark ≡ 1) × (page_numbered s k ≡ absent_page)) ⊎ ((mark ≡ 2) × (page_numbered s k ≡ disputed_page))

-- "the pages' bytes in order, less all zero bytes at its end"
abbrev pub TextOf : Store → List ℕ → Type 0
TextOf s text = Trimmed (in_order (λ p. (page_numbered s p).text) s.name.total) text

-- a buffer of so many bytes is not shorter than the text
abbrev pub TextFits : Store → ℕ → Type 0
TextFits s size = (text : List ℕ) × TextOf s text × (length text ≤ size)

abbrev pub WhyNotTold : Store → ℕ → Refusal → Type 0
WhyNotTold s size x =
    First (Sound s or Unsound ∷ []) x
    (((k : ℕ) × (mark : ℕ) × LowestNotHeld s k mark × (x ≡ NotHeld k mark))
    ⊎ (All (PageHeld s) s.name.total × First (TextFits s size or Short ∷ []) x ⊥))
