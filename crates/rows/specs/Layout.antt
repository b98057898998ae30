-- The tables of a frame (document 01, "The frame on the wire"): first bit, width, and what may stand there. Bits 0 to 7 are
-- the preamble, bits 226 to 249 the parity. What each category has is for its own crate.
use Rattle.std.specs.Prelude.{ℕ, zero, suc, ◌+◌, ◌-◌, ◌^◌, Bool, true, false, ◌&&◌, List, ◌∷◌, ◌++◌, [], leb, eqb, ltb}

-- from one number to another, both included
infixl 70 ◌to◌
pub data Span : Type 0 where
  ◌to◌ : ℕ → ℕ → Span

-- codes that speak for a group of fields at once, as one of the fields sees them: those of the fields before it, the latest first,
-- its own, and those of the fields behind it
pub record Codes : Type 0 where
  pub before : List ℕ
  pub own : ℕ
  pub behind : List ℕ

-- what a field may hold: a value in one of these spans; one from the value before it up to this one; one in one of these spans, or
-- all fields of its group have their codes; anything of so many bits, since nobody knows yet what it says
pub data Rule : Type 0 where
  among : List Span → Rule
  rising : ℕ → Rule
  in_group : List Span → Codes → Rule
  spare : ℕ → Rule

pub record Row : Type 0 where
  pub first : ℕ
  pub width : ℕ
  pub rule : Rule

abbrev pub row : ℕ → ℕ → Rule → Row
row a w r = record { first = a; width = w; rule = r }

abbrev pub spare_row : ℕ → ℕ → Row
spare_row a w = row a w (spare w)

abbrev pub within : ℕ → ℕ → Rule
within lo hi = among (lo to hi ∷ [])

abbrev pub only : ℕ → Rule
only v = within v v

-- ---- groups: "An arrival code that speaks for hour and minute together must have both"

-- a field of a group: its bits, its normal range, and its code
pub record Member : Type 0 where
  pub width : ℕ
  pub normal : List Span
  pub code : ℕ

abbrev pub member : ℕ → ℕ → ℕ → ℕ → Member
member w lo hi code = record { width = w; normal = lo to hi ∷ []; code = code }

abbrev pub codes_of : List Member → List ℕ
codes_of [] = []
codes_of (m ∷ ms) = m.code ∷ codes_of ms

-- the rows of the fields from the bit a on, behind fields of the same group with the codes `past`, the latest first
abbrev pub grouped : ℕ → List ℕ → List Member → List Row
grouped a past [] = []
grouped a past (m ∷ ms) =
    row a m.width (in_group m.normal (record { before = past; own = m.code; behind = codes_of ms }))
    ∷ grouped (a + m.width) (m.code ∷ past) ms

abbrev pub group : ℕ → List Member → List Row
group a ms = grouped a [] ms

-- the same fields without their codes
abbrev pub ungrouped : ℕ → List Member → List Row
ungrouped a [] = []
ungrouped a (m ∷ ms) = row a m.width (among m.normal) ∷ ungrouped (a + m.width) ms

-- which of its fields a slot of the record has in a category
pub record Parts : Type 0 where
  pub day : Bool
  pub hour : Bool
  pub minute : Bool
  pub strength : Bool
  pub place : Bool

-- slots: how many, the first bit of the first one, how many bits each has, its rows counted from its own first bit, and which
-- fields they fill, in that order
pub record Slots : Type 0 where
  pub count : ℕ
  pub first : ℕ
  pub bits : ℕ
  pub rows : List Row
  pub parts : Parts

-- a category: its code (Dc), its classifications (Rc), its information types (It), and what stands from bit 43 up to bit 213:
-- rows in front, slots, the rows of a text, and rows behind. Spares are rows like any other: Spare1 is among the rows in front,
-- Spare2, where there is one, among those behind.
pub record Layout : Type 0 where
  pub code : ℕ
  pub rcs : List Span
  pub types : List Span
  pub front : List Row
  pub slots : Slots
  pub text : List Row
  pub behind : List Row

-- ---- what every category has

-- bits 8 to 42
abbrev pub common : Layout → List Row
common l =
    row 8 6 (only 43)  -- message type
    ∷ row 14 3 (among l.rcs)  -- report classification (Rc)
    ∷ row 17 4 (only l.code)  -- category (Dc)
    ∷ row 21 4 (within 1 12)  -- issue: month
    ∷ row 25 5 (within 1 31)  -- issue: day
    ∷ row 30 5 (within 0 23)  -- issue: hour
    ∷ row 35 6 (within 0 59)  -- issue: minute
    ∷ row 41 2 (among l.types) ∷ []  -- information type (It)

-- bits 214 to 225
abbrev pub ending : List Row
ending =
    row 214 6 (only 1)  -- version (Vn)
    ∷ row 220 6 (within 0 63) ∷ []  -- Reserved

-- ---- what several categories have

-- "Rc: 2 or 7"
abbrev pub two_or_seven : List Span
two_or_seven = 2 to 2 ∷ 7 to 7 ∷ []

-- "Rc: 2, 3, 7" of volcano and flood
abbrev pub two_three_or_seven : List Span
two_three_or_seven = 2 to 2 ∷ 3 to 3 ∷ 7 to 7 ∷ []

-- "Three notifications at 53, 62, 71, 9 bits each: 0 or 101-500"
abbrev pub notified : List Span
notified = 0 to 0 ∷ 101 to 500 ∷ []

abbrev pub notifications : List Row
notifications =
    row 53 9 (among notified)  -- notification
    ∷ row 62 9 (among notified)  -- notification
    ∷ row 71 9 (among notified) ∷ []  -- notification

-- "It: 0 or 2; in category 9 also 1": issue, cancellation, and correction
abbrev pub uncorrected : List Span
uncorrected = 0 to 0 ∷ 2 to 2 ∷ []

abbrev pub corrected : List Span
corrected = 0 to 2 ∷ []

-- "Spare1 at 43, 10 long"
abbrev pub spare1 : Row
spare1 = spare_row 43 10  -- first spare

-- when something was
abbrev pub time : ℕ → List Row
time a =
    row a 5 (within 1 31)  -- day
    ∷ row (a + 5) 5 (within 0 23)  -- hour
    ∷ row (a + 10) 6 (within 0 59) ∷ []  -- minute

-- n bytes, any
abbrev pub bytes : ℕ → ℕ → List Row
bytes zero a = []
bytes (suc n) a = row a 8 (within 0 255) ∷ bytes n (a + 8)

abbrev pub no_slots : Slots
no_slots = record { count = 0; first = 0; bits = 0; rows = []; parts = record { day = false; hour = false; minute = false; strength = false; place = false } }

-- no category: of bits 53 to 213 nothing is known
abbrev pub no_category : Layout
no_category = record { code = 0; rcs = two_or_seven; types = uncorrected; front = spare1 ∷ []; slots = no_slots; text = []; behind = row 53 161 (within 0 (2 ^ 161 - 1)) ∷ [] }

-- ---- slots on the wire

abbrev pub shifted : ℕ → List Row → List Row
shifted a [] = []
shifted a (r ∷ rs) = row (a + r.first) r.width r.rule ∷ shifted a rs

-- the rows of the slot at the bit a
abbrev pub slot_rows : Slots → ℕ → List Row
slot_rows k a = shifted a k.rows

-- the rows of n slots from the bit a on
abbrev pub slots_rows : Slots → ℕ → ℕ → List Row
slots_rows k zero a = []
slots_rows k (suc n) a = slot_rows k a ++ slots_rows k n (a + k.bits)

-- ---- what is asked of a table

abbrev pub all_rows : Layout → List Row
all_rows l = common l ++ (l.front ++ (slots_rows l.slots l.slots.count l.slots.first ++ (l.text ++ (l.behind ++ ending))))

-- each row starts where the one before it ends
abbrev pub tiles : ℕ → ℕ → List Row → Bool
tiles a e [] = eqb a e
tiles a e (r ∷ rs) = eqb r.first a && tiles (a + r.width) e rs

-- the lowest value of a span
abbrev pub lowest : Span → ℕ
lowest (lo to hi) = lo

-- the greatest value of a rule fits the width, and no span ends before it starts
abbrev pub all_below : ℕ → List Span → Bool
all_below n [] = true
all_below n ((lo to hi) ∷ ss) = leb lo hi && (ltb hi n && all_below n ss)

abbrev pub bounded : Rule → ℕ → Bool
bounded (among ss) n = all_below n ss
bounded (rising hi) n = ltb hi n
bounded (in_group ss c) n = all_below n ss && ltb c.own n
bounded (spare w) n = leb (2 ^ w) n

abbrev pub all_fit : List Row → Bool
all_fit [] = true
all_fit (r ∷ rs) = bounded r.rule (2 ^ r.width) && all_fit rs
