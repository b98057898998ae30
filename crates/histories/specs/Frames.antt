-- A store from its opening on, and the frames that it took (document 01, "The page store").
use Rattle.std.specs.Prelude.{◌≡◌, List, [], ◌∷◌, ◌⊎◌, ℕ, ◌-◌, length}
use Rattle.report.specs.declared.record.Record.{Record}
use Rattle.report.specs.Runs.Writing.{Valid}
use Rattle.pages.specs.declared.page.Page.{Page}
use Rattle.pages.specs.declared.name.Name.{Name}
use Rattle.bulletin.specs.declared.store.Store.{Store}
use Rattle.bulletin.specs.Stores.{open_of, page_behind}
use Rattle.bulletin.specs.Takings.{take_of}
use Rattle.report.specs.declared.body.Body.TheVariants.{Nankai}

-- a frame is what its record says: "sixteen slots (hour, strength or intensity, place) and 18 text bytes"
pub record Frame : Type 0 where
  pub came : Record
  pub slots : length came.slots ≡ 16
  pub text : length came.text ≡ 18

-- the store that took these frames one after the other; "a refused taking takes nothing"
abbrev pub takes : Store → List Frame → Store
takes s [] = s
takes s (f ∷ fs) = takes (take_of s f.came).store fs

-- "A store is opened for one bulletin", and takes these frames
abbrev pub store_after : Name → List Frame → Store
store_after n frames = takes (open_of n).store frames

-- page p of a store
abbrev pub page_numbered : Store → ℕ → Page
page_numbered s p = page_behind s (p - 1)

-- the record is one of the frames
abbrev pub Among : Record → List Frame → Type 0
Among r [] = ⊥
Among r (f ∷ fs) = (r ≡ f.came) ⊎ Among r fs

-- the same frames came, in whatever order and however often
pub record SameFrames (a b : List Frame) : Type 0 where
  pub there : (r : Record) → Among r a → Among r b
  pub back : (r : Record) → Among r b → Among r a

-- a "valid page of its bulletin": the record can be written, and is page p of the bulletin n, with the text t
pub record Brings (n : Name) (r : Record) (p : ℕ) (t : List ℕ) : Type 0 where
  pub valid : Valid r
  pub common : r.common ≡ n.common
  pub body : r.body ≡ Nankai (record { serial = n.serial; number = p; total = n.total })
  pub text : r.text ≡ t

-- the two differ in preamble, Reserved and spares alone
pub record Alike (r q : Record) : Type 0 where
  pub common : r.common ≡ q.common
  pub body : r.body ≡ q.body
  pub slots : r.slots ≡ q.slots
  pub text : r.text ≡ q.text

-- one of the frames brought the text t for page p
abbrev pub Came : Name → List Frame → ℕ → List ℕ → Type 0
Came n frames p t = (r : Record) × Among r frames × Brings n r p t

-- the same texts came for the same pages, in whatever frames: preambles, Reserved, spares and frames that are refused may differ
pub record SamePages (n : Name) (a b : List Frame) : Type 0 where
  pub there : (p : ℕ) (t : List ℕ) → Came n a p t → Came n b p t
  pub back : (p : ℕ) (t : List ℕ) → Came n b p t → Came n a p t

-- ---- "Each page from 1 to the total is absent, held with its 18 bytes, or disputed"

-- no frame brought the page
abbrev pub Absent : Name → List Frame → ℕ → Type 0
Absent n frames p = (t : List ℕ) → Came n frames p t → ⊥

-- a frame brought it with the text t, and no frame brought it with another
pub record Held (n : Name) (frames : List Frame) (p : ℕ) (t : List ℕ) : Type 0 where
  pub came : Came n frames p t
  pub alone : (u : List ℕ) → Came n frames p u → u ≡ t

-- two frames brought it with texts that differ
pub record Disputed (n : Name) (frames : List Frame) (p : ℕ) : Type 0 where
  pub one : List ℕ
  pub other : List ℕ
  pub came : Came n frames p one
  pub came_too : Came n frames p other
  pub differ : one ≡ other → ⊥

-- each of the frames is a page of the bulletin, so each is taken
abbrev pub AllTaken : Name → List Frame → Type 0
AllTaken n frames = (r : Record) → Among r frames → (p : ℕ) × Brings n r p r.text
