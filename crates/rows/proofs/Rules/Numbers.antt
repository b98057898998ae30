-- The numbers of refusals, and those that a walk over rows answers.
use Rattle.std.specs.Prelude.{Ok, Err}
use mathlib.Core.Path.{◌≡◌, refl, sym, ap, ◌∙◌}
use mathlib.Core.Bool.{Bool, true, false, not, cond}
use Prim.Native.Nat.{ℕ, ◌+◌, ◌-◌, ◌≤◌}
use mathlib.Core.List.{List, [], ◌∷◌}
use lib.ListN.{get_or}
use lib.Dec.{lit≤}
use native.Mathlib.Omega.{arith}
use Rattle.rows.specs.declared.refusal.Refusal.{Refusal}
use Rattle.rows.specs.declared.refusal.Refusal.TheVariants.{Length, Padding, Preamble, Parity, Message, Version, Category, Range, Gap, Unused, NoPage, OtherBulletin, Unsound, NotHeld, Short, Line, Sentence, Checksum, Satellite}
use Rattle.rows.specs.declared.refusal.Said.{Said}
use Rattle.rows.specs.Refusals.{says, answers, Verdict}
use Rattle.rows.specs.Runs.Questions.{◌then◌, unless}
use Rattle.rows.specs.Layout.{Rule, Row, Layout, common, ending, slot_rows, Slots}
use Rattle.rows.specs.Values.{Values}
use Rattle.rows.specs.Runs.Verdict.{judge, walk, empty, later, slots_verdict, verdict}

unsaid : Said → Refusal
unsaid a =
    get_or
    (Length
    ∷ Padding
    ∷ Preamble
    ∷ Parity
    ∷ Message
    ∷ Version
    ∷ Category
    ∷ Range a.place a.value
    ∷ Line  -- no refusal has the number 9
    ∷ Gap a.place
    ∷ Unused
    ∷ NoPage
    ∷ OtherBulletin
    ∷ Unsound
    ∷ NotHeld a.page a.mark
    ∷ Short
    ∷ Line
    ∷ Sentence
    ∷ Checksum
    ∷ Satellite ∷ [])
    (a.number - 1) Line

unsaid_says : (x : Refusal) → unsaid (says x) ≡ x
unfolding unsaid
unsaid_says Length = refl
unsaid_says Padding = refl
unsaid_says Preamble = refl
unsaid_says Parity = refl
unsaid_says Message = refl
unsaid_says Version = refl
unsaid_says Category = refl
unsaid_says (Range p v) = refl
unsaid_says (Gap p) = refl
unsaid_says Unused = refl
unsaid_says NoPage = refl
unsaid_says OtherBulletin = refl
unsaid_says Unsound = refl
unsaid_says (NotHeld page mark) = refl
unsaid_says Short = refl
unsaid_says Line = refl
unsaid_says Sentence = refl
unsaid_says Checksum = refl
unsaid_says Satellite = refl

pub says_apart : (x y : Refusal) → says x ≡ says y → x ≡ y
says_apart x y e = sym (unsaid_says x) ∙ ap unsaid e ∙ unsaid_says y

-- ---- 1 to 20, and 0 where nothing is refused

pub says-numbered : (x : Refusal) → (1 ≤ (says x).number) × ((says x).number ≤ 20)
says-numbered Length = (lit≤ tt, lit≤ tt)
says-numbered Padding = (lit≤ tt, lit≤ tt)
says-numbered Preamble = (lit≤ tt, lit≤ tt)
says-numbered Parity = (lit≤ tt, lit≤ tt)
says-numbered Message = (lit≤ tt, lit≤ tt)
says-numbered Version = (lit≤ tt, lit≤ tt)
says-numbered Category = (lit≤ tt, lit≤ tt)
says-numbered (Range p v) = (lit≤ tt, lit≤ tt)
says-numbered (Gap p) = (lit≤ tt, lit≤ tt)
says-numbered Unused = (lit≤ tt, lit≤ tt)
says-numbered NoPage = (lit≤ tt, lit≤ tt)
says-numbered OtherBulletin = (lit≤ tt, lit≤ tt)
says-numbered Unsound = (lit≤ tt, lit≤ tt)
says-numbered (NotHeld page mark) = (lit≤ tt, lit≤ tt)
says-numbered Short = (lit≤ tt, lit≤ tt)
says-numbered Line = (lit≤ tt, lit≤ tt)
says-numbered Sentence = (lit≤ tt, lit≤ tt)
says-numbered Checksum = (lit≤ tt, lit≤ tt)
says-numbered Satellite = (lit≤ tt, lit≤ tt)

-- of a frame, a record and a store it is 1 to 17: three more speak of a receiver's sentence
said_of_sentence : (a : Said) → a.number ≡ 18 → unsaid a ≡ Sentence
unfolding unsaid
said_of_sentence a e = rw e

said_of_checksum : (a : Said) → a.number ≡ 19 → unsaid a ≡ Checksum
unfolding unsaid
said_of_checksum a e = rw e

said_of_satellite : (a : Said) → a.number ≡ 20 → unsaid a ≡ Satellite
unfolding unsaid
said_of_satellite a e = rw e

pub numbered_without_sentences : (x : Refusal) → (x ≡ Sentence → ⊥) → (x ≡ Checksum → ⊥) → (x ≡ Satellite → ⊥) → (1 ≤ (says x).number) × ((says x).number ≤ 17)
numbered_without_sentences x s c t =
    let n = says-numbered x in
    let not_18 : (says x).number ≡ 18 → ⊥ = λ e. s (sym (unsaid_says x) ∙ said_of_sentence (says x) e) in
    let not_19 : (says x).number ≡ 19 → ⊥ = λ e. c (sym (unsaid_says x) ∙ said_of_checksum (says x) e) in
    let not_20 : (says x).number ≡ 20 → ⊥ = λ e. t (sym (unsaid_says x) ∙ said_of_satellite (says x) e) in
    (n.0, omega arith)

-- "9 no longer occurs": its place in the list stands for another
unsaid_nine : (a : Said) → a.number ≡ 9 → unsaid a ≡ Line
unfolding unsaid
unsaid_nine a e = rw e

pub not_nine : (x : Refusal) → (says x).number ≡ 9 → ⊥
not_nine x e = let line = sym (unsaid_says x) ∙ unsaid_nine (says x) e in omega (arith, e, ap (λ (y : Refusal). (says y).number) line)

pub answers_not_nine : (v : Verdict) → (answers v).number ≡ 9 → ⊥
answers_not_nine (Ok tt) e = omega arith
answers_not_nine (Err x) e = not_nine x e

-- no refusal answers 0
pub zero_fine : (v : Verdict) → (answers v).number ≡ 0 → v ≡ Ok tt
zero_fine (Ok tt) e = refl
zero_fine (Err x) e = absurd (omega (arith, (says-numbered x).0, e))

-- ---- the value: no number but 8 has one

pub value_with_8 : (x : Refusal) → ((says x).number ≡ 8 → ⊥) → (says x).value ≡ 0
value_with_8 Length h = refl
value_with_8 Padding h = refl
value_with_8 Preamble h = refl
value_with_8 Parity h = refl
value_with_8 Message h = refl
value_with_8 Version h = refl
value_with_8 Category h = refl
value_with_8 (Range p v) h = absurd (h refl)
value_with_8 (Gap p) h = refl
value_with_8 Unused h = refl
value_with_8 NoPage h = refl
value_with_8 OtherBulletin h = refl
value_with_8 Unsound h = refl
value_with_8 (NotHeld page mark) h = refl
value_with_8 Short h = refl
value_with_8 Line h = refl
value_with_8 Sentence h = refl
value_with_8 Checksum h = refl
value_with_8 Satellite h = refl

pub answered_value : (v : Verdict) → ((answers v).number ≡ 8 → ⊥) → (answers v).value ≡ 0
answered_value (Ok tt) h = refl
answered_value (Err x) h = value_with_8 x h

-- ---- a promise of an answer, and of what it says: alone, and beside what is promised of a buffer

pub also_said : {v w : Verdict} → v ≡ w → (v ≡ w) × (answers v ≡ answers w)
also_said e = (e, ap answers e)

pub beside_said : {B : Type 0} {v w : Verdict} → (v ≡ w) × B → ((v ≡ w) × B) × (answers v ≡ answers w)
beside_said p = (p, ap answers p.0)

-- ---- up to 10

abbrev pub UpToTen : Verdict → Type 0
UpToTen v = (answers v).number ≤ 10

pub then_ten : (a b : Verdict) → UpToTen a → UpToTen b → UpToTen (a then b)
then_ten (Ok tt) b h k = k
then_ten (Err r) b h k = h

pub unless_ten : (b : Bool) (r : Refusal) → (says r).number ≤ 10 → UpToTen (unless b r)
unless_ten true r h = lit≤ tt
unless_ten false r h = h

pub cond_ten : (b : Bool) (v w : Verdict) → UpToTen v → UpToTen w → UpToTen (cond b v w)
cond_ten true v w h k = h
cond_ten false v w h k = k

judge_ten : (r : Rule) (at : ℕ) (past : List ℕ) (v : ℕ) (next : List ℕ) → UpToTen (judge r at past v next)
unfolding judge
judge_ten r at past v next = unless_ten _ (Range at v) (lit≤ tt)

pub walk_ten : (past : List ℕ) (rs : List Row) (vs : List ℕ) → UpToTen (walk past rs vs)
unfolding walk
walk_ten past [] vs = lit≤ tt
walk_ten past (r ∷ rs) [] = lit≤ tt
walk_ten past (r ∷ rs) (v ∷ vs) = then_ten _ _ (judge_ten r.rule r.first past v vs) (walk_ten (v ∷ past) rs vs)

later_ten : (k : Slots) (gap : Bool) (at : ℕ) (vs : List (List ℕ)) → UpToTen (later k gap at vs)
unfolding later
later_ten k gap at [] = lit≤ tt
later_ten k gap at (v ∷ vs) =
    cond_ten (empty v) _ _ (later_ten k true (at + k.bits) vs)
    (then_ten _ _ (unless_ten (not gap) (Gap at) (lit≤ tt)) (then_ten _ _ (walk_ten [] (slot_rows k at) v) (later_ten k gap (at + k.bits) vs)))

slots_ten : (k : Slots) (vs : List (List ℕ)) → UpToTen (slots_verdict k vs)
unfolding slots_verdict
slots_ten k [] = lit≤ tt
slots_ten k (v ∷ vs) = then_ten _ _ (walk_ten [] (slot_rows k k.first) v) (later_ten k false (k.first + k.bits) vs)

pub verdict_ten : (l : Layout) (v : Values) → UpToTen (verdict l v)
unfolding verdict
verdict_ten l v =
    then_ten _ _ (walk_ten [] (common l) v.head)
    (then_ten _ _ (walk_ten [] l.front v.front)
    (then_ten _ _ (slots_ten l.slots v.slots)
    (then_ten _ _ (walk_ten [] l.text v.text) (then_ten _ _ (walk_ten [] l.behind v.behind) (walk_ten [] ending v.last)))))
