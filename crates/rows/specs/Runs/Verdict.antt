-- What is found in a frame's or a record's values: 8 and 10 by lowest bit. The rows of a table rise, so the first thing
-- found on the way is the one with the lowest bit.
use Rattle.rows.specs.Refusals.{Verdict}
use Rattle.std.specs.Prelude.{ℕ, ◌+◌, ◌^◌, Bool, true, false, ◌&&◌, ◌||◌, not, cond, List, ◌∷◌, [], leb, eqb, ltb, Ok}
use Rattle.rows.specs.declared.refusal.Refusal.TheVariants.{Range, Gap}
use Rattle.rows.specs.Runs.Questions.{◌then◌, unless}
use Rattle.rows.specs.Layout.{Span, ◌to◌, Codes, Rule, among, rising, in_group, spare, Row, Slots, Layout, common, ending, slot_rows}
use Rattle.rows.specs.Kept.{latest}
use Rattle.rows.specs.Values.{Values, Sides}
use Rattle.rows.specs.declared.common.Common.{Common}

-- ---- one field

unfoldable pub allowed : List Span → ℕ → Bool
allowed [] v = false
allowed ((lo to hi) ∷ ss) v = leb lo v && leb v hi || allowed ss v

-- 8 at the bit `at` with the value v there, unless that is allowed
abbrev pub ranged : Bool → ℕ → ℕ → Verdict
ranged met at v = unless met (Range at v)

-- the values start with the codes
abbrev pub starts_with : List ℕ → List ℕ → Bool
starts_with [] vs = true
starts_with (c ∷ cs) [] = false
starts_with (c ∷ cs) (v ∷ vs) = eqb v c && starts_with cs vs

-- each field of a group has its code
abbrev pub together : Codes → List ℕ → ℕ → List ℕ → Bool
together c past v next = starts_with c.before past && (eqb v c.own && starts_with c.behind next)

-- the value v keeps the rule, behind the values `past`, the latest first, and before the values `next`
abbrev pub meets : Rule → List ℕ → ℕ → List ℕ → Bool
meets (among ss) past v next = allowed ss v
meets (rising hi) past v next = leb (latest past) v && leb v hi
meets (in_group ss c) past v next = allowed ss v || together c past v next
meets (spare w) past v next = ltb v (2 ^ w)

-- the value v at the bit `at`, behind the values `past`, the latest first, and before the values `next`
unfoldable pub judge : Rule → ℕ → List ℕ → ℕ → List ℕ → Verdict
judge r at past v next = ranged (meets r past v next) at v

-- fields one behind the other; each row has its value (`values_never_run_short`)
unfoldable pub walk : List ℕ → List Row → List ℕ → Verdict
walk past (r ∷ rs) (v ∷ vs) = judge r.rule r.first past v vs then walk (v ∷ past) rs vs
walk past [] vs = Ok tt
walk past (r ∷ rs) [] = Ok tt

-- ---- slots (document 01, "Silence in a slot")

-- all bits are zero
unfoldable pub empty : List ℕ → Bool
empty [] = true
empty (v ∷ vs) = eqb v 0 && empty vs

-- the slots behind the first one, from the bit `at` on; `gap`: an empty one has been seen
unfoldable pub later : Slots → Bool → ℕ → List (List ℕ) → Verdict
later k gap at [] = Ok tt
later k gap at (v ∷ vs) =
    cond (empty v) (later k true (at + k.bits) vs)
    (unless (not gap) (Gap at) then walk [] (slot_rows k at) v then later k gap (at + k.bits) vs)

-- the first slot is used
unfoldable pub slots_verdict : Slots → List (List ℕ) → Verdict
slots_verdict k [] = Ok tt
slots_verdict k (v ∷ vs) = walk [] (slot_rows k k.first) v then later k false (k.first + k.bits) vs

-- ---- what every category has

-- bits 8 to 42, where it is known whether Rc and It are allowed: message type and category are what they are
abbrev pub common_verdict : Common → Bool → Bool → Verdict
common_verdict c rc it =
    ranged rc 14 c.rc
    then ranged (leb 1 c.month && leb c.month 12) 21 c.month
    then ranged (leb 1 c.day && leb c.day 31) 25 c.day
    then ranged (leb 0 c.hour && leb c.hour 23) 30 c.hour
    then ranged (leb 0 c.minute && leb c.minute 59) 35 c.minute
    then ranged it 41 c.it

-- ---- all of them

-- bits 8 to 213 less a text, of which nothing is asked: "Text at 57: 18 bytes, any"
unfoldable pub body_verdict : Layout → List ℕ → Sides → List (List ℕ) → Verdict
body_verdict l head sides slots =
    walk [] (common l) head
    then walk [] l.front sides.front
    then slots_verdict l.slots slots
    then walk [] l.behind sides.behind

unfoldable pub verdict : Layout → Values → Verdict
verdict l v =
    walk [] (common l) v.head
    then walk [] l.front v.front
    then slots_verdict l.slots v.slots
    then walk [] l.text v.text
    then walk [] l.behind v.behind
    then walk [] ending v.last
