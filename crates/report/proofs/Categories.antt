-- What is known of each category: its table is listed, and a body and its values tell each other. A category that is added has its
-- lines here; the other laws go by these.
use Rattle.std.specs.Prelude.{Ok, Err, None, Some}
use Rattle.report.specs.declared.body.Body.TheVariants.{AshFall, Flood, Hypocenter, Intensity, Nankai, NoCategory, Tsunami, Volcano}
use Rattle.report.specs.declared.body.Body.{Body}
use mathlib.Core.Bool.{Bool, ◌&&◌, ◌||◌, cond, false, true, not}
use lib.Dec.{eqb}
use borrow.Author.Tests.{ne_eqb}
use Rattle.rows.specs.Runs.Verdict.{allowed, walk}
use Rattle.rows.specs.declared.refusal.Refusal.TheVariants.{Range}
use Rattle.rows.proofs.Rules.Spares.{behind-two, not_ranged, spare_bit, spare_width, too_wide}
use Rattle.nankai.proofs.Walks.{behind-walk}
use Rattle.rows.proofs.Rules.Spans.{allowed_in, in_allowed, not_allowed, singles}
use Rattle.rows.specs.Kept.{In}
use Rattle.rows.specs.Layout.{Layout, no_category}
use mathlib.Core.List.{List, [], ◌∷◌, ◌++◌}
use Rattle.rows.specs.declared.fields.Spares.{Spares}
use Rattle.rows.specs.Values.{Sides, each, has_spare, no_spares, sides_at, spares_at, spares_from}
use mathlib.Core.Path.{◌∙◌, ◌≡◌, ap, refl, subst, sym}
use Prim.Native.Nat.{◌≤◌, ◌-◌, ◌^◌, suc, zero, ℕ}
use mathlib.Core.Logic.{◌⊎◌, inl, inr, ⊎_elim}
use Rattle.rows.proofs.Rules.Outcomes.{and_both, false_not_true}
use native.Mathlib.Omega.{arith}
use Rattle.ash_fall.specs.AshFall.{ash_fall, eruption_from}
use Rattle.report.specs.declared.record.Record.{Record}
use Rattle.rows.specs.declared.time.Time.{Time}
use Rattle.hypocenter.specs.declared.angle.Angle.{Angle}
use Rattle.slots.specs.declared.slot.Slot.{Slot}
use Rattle.slots.specs.Slots.{no_slot}
use Rattle.report.specs.Records.{body_by}
use Rattle.bits.specs.Frame.{field_of}
use lib.ListN.{get_or, length, replicate}
use Rattle.hypocenter.specs.Hypocenter.{hypocenter, quake_from}
use Rattle.intensity.specs.Intensity.{intensity, shaking_from}
use Rattle.nankai.specs.Nankai.{nankai, numbers_from}
use Rattle.tsunami.specs.Tsunami.{tsunami, warning_from}
use Rattle.volcano.specs.Volcano.{volcano, activity_from}
use Rattle.flood.specs.Flood.{flood}
use Rattle.report.specs.Categories.{body_from, categories, layout, sides_of, paged_of}
use Rattle.nankai.specs.declared.PageNumbers.{PageNumbers}

-- ---- tables

abbrev pub layouts : List Layout
layouts = no_category ∷ hypocenter ∷ intensity ∷ nankai ∷ tsunami ∷ volcano ∷ ash_fall ∷ flood ∷ []

abbrev pub all : (Layout → Bool) → List Layout → Bool
all test [] = true
all test (l ∷ ls) = test l && all test ls

-- something of each in a list
abbrev pub Each : {A : Type 0} → (A → Type 0) → List A → Type 0
Each P [] = Unit
Each P (x ∷ xs) = P x × Each P xs

-- where a table stands in the list
abbrev place_of : Body → ℕ
place_of NoCategory = 0
place_of (Hypocenter q) = 1
place_of (Intensity t) = 2
place_of (Nankai p) = 3
place_of (Tsunami w) = 4
place_of (Volcano a) = 5
place_of (AshFall e) = 6
place_of Flood = 7

in_list : (b : Body) → get_or layouts (place_of b) no_category ≡ layout b
in_list NoCategory = refl
in_list (Hypocenter q) = refl
in_list (Intensity t) = refl
in_list (Nankai p) = refl
in_list (Tsunami w) = refl
in_list (Volcano a) = refl
in_list (AshFall e) = refl
in_list Flood = refl

one_of_all : (test : Layout → Bool) (ls : List Layout) (i : ℕ) (d : Layout) → all test ls ≡ true → test d ≡ true → test (get_or ls i d) ≡ true
one_of_all test [] i d e f = f
one_of_all test (l ∷ ls) zero d e f = (and_both (test l) (all test ls) e).0
one_of_all test (l ∷ ls) (suc i) d e f = one_of_all test ls i d (and_both (test l) (all test ls) e).1 f

-- what was computed of all tables holds of the table of any body
pub listed : (test : Layout → Bool) → all test layouts ≡ true → (b : Body) → test (layout b) ≡ true
listed test e b = ap test (sym (in_list b)) ∙ one_of_all test layouts (place_of b) no_category e (and_both (test no_category) _ e).0

-- ---- values

-- each row has its value
pub sides_filled : (b : Body) (z : Spares) → (length (sides_of b z).front ≡ length (layout b).front) × (length (sides_of b z).behind ≡ length (layout b).behind)
sides_filled NoCategory z = (refl, refl)
sides_filled (Hypocenter q) z = (refl, refl)
sides_filled (Intensity t) z = (refl, refl)
sides_filled (Nankai p) z = (refl, refl)
sides_filled (Tsunami w) z = (refl, refl)
sides_filled (Volcano a) z = (refl, refl)
sides_filled (AshFall e) z = (refl, refl)
sides_filled Flood z = (refl, refl)

-- a body is what its values say
pub body_again : (b : Body) (z : Spares) (v : Layout → Sides) → v (layout b) ≡ sides_of b z → body_from v (layout b).code ≡ b
unfolding body_from
body_again NoCategory z v e = refl
body_again (Hypocenter q) z v e = ap (λ (s : Sides). Hypocenter (quake_from s)) e
body_again (Intensity t) z v e = ap (λ (s : Sides). Intensity (shaking_from s)) e
body_again (Nankai p) z v e = ap (λ (s : Sides). Nankai (numbers_from s)) e
body_again (Tsunami w) z v e = ap (λ (s : Sides). Tsunami (warning_from s)) e
body_again (Volcano a) z v e = ap (λ (s : Sides). Volcano (activity_from s)) e
body_again (AshFall u) z v e = ap (λ (s : Sides). AshFall (eruption_from s)) e
body_again Flood z v e = refl

-- so are spares, where nothing stands in a second one that the category does not have
pub spares_again : (b : Body) (z : Spares) → (has_spare (layout b).behind ≡ false → z.second ≡ 0) → spares_from (layout b) (sides_of b z) ≡ z
spares_again NoCategory z h = λ i. record { first = z.first; second = sym (h refl) i }
spares_again (Hypocenter q) z h = refl
spares_again (Intensity t) z h = refl
spares_again (Nankai p) z h = refl
spares_again (Tsunami w) z h = λ i. record { first = z.first; second = sym (h refl) i }
spares_again (Volcano a) z h = refl
spares_again (AshFall e) z h = refl
spares_again Flood z h = refl

not_paged : (p : PageNumbers) → None ≡ Some p → ⊥
not_paged p e = let z : ◌≡◌ {A = ℕ} 0 1 = cc in apart z
  where
    apart : ◌≡◌ {A = ℕ} 0 1 → ⊥
    apart z = omega arith

-- a body has a category or none
pub told_apart : (b : Body) → (b ≡ NoCategory) ⊎ In categories (layout b).code
unfolding allowed
told_apart NoCategory = inl refl
told_apart (Hypocenter q) = inr (allowed_in categories 2 refl)
told_apart (Intensity t) = inr (allowed_in categories 3 refl)
told_apart (Nankai p) = inr (allowed_in categories 4 refl)
told_apart (Tsunami w) = inr (allowed_in categories 5 refl)
told_apart (Volcano a) = inr (allowed_in categories 8 refl)
told_apart (AshFall e) = inr (allowed_in categories 9 refl)
told_apart Flood = inr (allowed_in categories 11 refl)

-- category 4 alone brings a page
pub page_or_none : (b : Body) → ((p : PageNumbers) × (b ≡ Nankai p)) ⊎ (paged_of b ≡ None)
page_or_none NoCategory = inr refl
page_or_none (Hypocenter q) = inr refl
page_or_none (Intensity t) = inr refl
page_or_none (Nankai p) = inl (p, refl)
page_or_none (Tsunami w) = inr refl
page_or_none (Volcano a) = inr refl
page_or_none (AshFall e) = inr refl
page_or_none Flood = inr refl

pub paged_back : (b : Body) (p : PageNumbers) → paged_of b ≡ Some p → b ≡ Nankai p
paged_back b p e = ⊎_elim (λ k. k.1 ∙ ap Nankai (same k.0 (sym (ap paged_of k.1) ∙ e))) (λ n. absurd (not_paged p (sym n ∙ e))) (page_or_none b)
  where
    same : (q : PageNumbers) → Some q ≡ Some p → q ≡ p
    same q h = cc

-- a category has no text, or one where category 4 has it
pub text_apart : (b : Body) → ((layout b).text ≡ []) ⊎ ((layout b).text ≡ nankai.text)
text_apart NoCategory = inl refl
text_apart (Hypocenter q) = inl refl
text_apart (Intensity t) = inl refl
text_apart (Nankai p) = inr refl
text_apart (Tsunami w) = inl refl
text_apart (Volcano a) = inl refl
text_apart (AshFall e) = inl refl
text_apart Flood = inl refl

-- ---- codes

abbrev codes : List ℕ
codes = 2 ∷ 3 ∷ 4 ∷ 5 ∷ 8 ∷ 9 ∷ 11 ∷ []

by_codes : (P : ℕ → Type 0) (ks : List ℕ) → Each P ks → (dc : ℕ) → In (singles ks) dc → P dc
by_codes P [] e dc h = absurd h
by_codes P (k ∷ ks) e dc h = ⊎_elim (λ q. subst P (only k dc q) e.0) (λ q. by_codes P ks e.1 dc q) h
  where
    only : (n dc : ℕ) → (n ≤ dc) × (dc ≤ n) → n ≡ dc
    only n dc k = omega arith

-- what holds of each category holds of all
by_category : (P : ℕ → Type 0) → P 2 → P 3 → P 4 → P 5 → P 8 → P 9 → P 11 → (dc : ℕ) → In categories dc → P dc
by_category P two three four five eight nine eleven = by_codes P codes (two, (three, (four, (five, (eight, (nine, (eleven, tt)))))))

-- ---- a body that was made by the code dc from values

no_category_lem : (v : Layout → Sides) (dc : ℕ) → (In categories dc → ⊥) → body_from v dc ≡ NoCategory
unfolding body_from allowed
no_category_lem v dc h = simp (other 2 refl, other 3 refl, other 4 refl, other 5 refl, other 8 refl, other 9 refl, other 11 refl)
  where
    other : (k : ℕ) → allowed categories k ≡ true → eqb dc k ≡ false
    other k a = ne_eqb dc k (λ e. h (subst (In categories) (sym e) (allowed_in categories k a)))

-- what holds of each category and of no category holds of every code
by_code : (P : ℕ → Type 0) → P 2 → P 3 → P 4 → P 5 → P 8 → P 9 → P 11 → ((dc : ℕ) → (In categories dc → ⊥) → P dc) → (dc : ℕ) → P dc
by_code P two three four five eight nine eleven none dc = by (allowed categories dc) refl
  where
    by : (b : Bool) → allowed categories dc ≡ b → P dc
    by true e = by_category P two three four five eight nine eleven dc (allowed_in categories dc e)
    by false e = none dc (λ h. false_not_true (sym e ∙ in_allowed categories dc h))

-- it has a category exactly where the code is a category's
pub known_code : (v : Layout → Sides) (dc : ℕ) → not (eqb (layout (body_from v dc)).code 0) ≡ allowed categories dc
unfolding body_from allowed
known_code v = by_code (λ (dc : ℕ). not (eqb (layout (body_from v dc)).code 0) ≡ allowed categories dc) refl refl refl refl refl refl refl
    (λ dc h. ap (λ (b : Body). not (eqb (layout b).code 0)) (no_category_lem v dc h) ∙ sym (not_allowed categories dc h))

-- its table goes by the code alone, and it by the values that the table's rows have
pub made_alike : (v w : Layout → Sides) (dc : ℕ) → layout (body_from v dc) ≡ layout (body_from w dc)
unfolding body_from
made_alike v w = by_code (λ (dc : ℕ). layout (body_from v dc) ≡ layout (body_from w dc)) refl refl refl refl refl refl refl
    (λ dc h. ap layout (no_category_lem v dc h ∙ sym (no_category_lem w dc h)))

pub same_body : (v w : Layout → Sides) (dc : ℕ) → v (layout (body_from v dc)) ≡ w (layout (body_from v dc)) → body_from v dc ≡ body_from w dc
unfolding body_from
same_body v w = by_code (λ (dc : ℕ). v (layout (body_from v dc)) ≡ w (layout (body_from v dc)) → body_from v dc ≡ body_from w dc)
    (λ e. ap (λ (s : Sides). Hypocenter (quake_from s)) e)
    (λ e. ap (λ (s : Sides). Intensity (shaking_from s)) e)
    (λ e. ap (λ (s : Sides). Nankai (numbers_from s)) e)
    (λ e. ap (λ (s : Sides). Tsunami (warning_from s)) e)
    (λ e. ap (λ (s : Sides). Volcano (activity_from s)) e)
    (λ e. ap (λ (s : Sides). AshFall (eruption_from s)) e)
    (λ e. refl)
    (λ dc h e. no_category_lem v dc h ∙ sym (no_category_lem w dc h))

-- its values are those that it was made from, but that without a category there is no field to keep one behind the slots
abbrev MadeFrom : (Layout → Sides) → Body → Type 0
MadeFrom v b =
    let l = layout b in
    sides_of b (spares_from l (v l))
    ≡ record { front = each (length l.front) (λ i. get_or (v l).front i 0); behind = each (length l.behind) (λ i. cond (eqb l.code 0) 0 (get_or (v l).behind i 0)) }

pub values_again : (v : Layout → Sides) (dc : ℕ) → MadeFrom v (body_from v dc)
unfolding body_from
values_again v = by_code (λ (dc : ℕ). MadeFrom v (body_from v dc)) refl refl refl refl refl refl refl (λ dc h. subst (MadeFrom v) (sym (no_category_lem v dc h)) refl)

-- ---- the same from a frame

pub record Suits (s : List ℕ) (dc : ℕ) : Type 0 where
  pub code : (layout (body_by s dc)).code ≡ dc
  pub sides : sides_of (body_by s dc) (spares_at s (layout (body_by s dc))) ≡ sides_at s (layout (body_by s dc))

pub suits : (s : List ℕ) (dc : ℕ) → In categories dc → Suits s dc
unfolding body_from
suits s =
    let each : (dc : ℕ) → (layout (body_by s dc)).code ≡ dc → sides_of (body_by s dc) (spares_at s (layout (body_by s dc))) ≡ sides_at s (layout (body_by s dc)) → Suits s dc = λ dc c v. record { code = c; sides = v } in
    by_category (Suits s) (each 2 refl refl) (each 3 refl refl) (each 4 refl refl) (each 5 refl refl) (each 8 refl refl) (each 9 refl refl) (each 11 refl refl)

-- ---- the spares of a frame, by the code of its category

abbrev pub first_spare : List ℕ → ℕ → ℕ
first_spare s dc = field_of s 43 (cond (eqb dc 8) 7 10)

abbrev pub second_spare : List ℕ → ℕ → ℕ
second_spare s dc =
    cond (eqb dc 2) (field_of s 163 51)
    (cond (eqb dc 3 || eqb dc 4) (field_of s 213 1)
    (cond (eqb dc 8) (field_of s 203 11) (cond (eqb dc 9) (field_of s 199 15) (cond (eqb dc 11) (field_of s 185 29) 0))))

pub spares_told : (s : List ℕ) (dc : ℕ) → In categories dc → spares_at s (layout (body_by s dc)) ≡ record { first = first_spare s dc; second = second_spare s dc }
unfolding body_from
spares_told s = by_category (λ (dc : ℕ). spares_at s (layout (body_by s dc)) ≡ record { first = first_spare s dc; second = second_spare s dc }) refl refl refl refl refl refl refl

-- ---- a spare that is too wide

pub first_refused : (b : Body) (z : Spares) → 2 ^ spare_width (layout b).front ≤ z.first → walk [] (layout b).front (sides_of b z).front ≡ Err (Range (spare_bit (layout b).front) z.first)
first_refused NoCategory z h = too_wide _ _ 43 10 z.first h
first_refused (Hypocenter q) z h = too_wide _ _ 43 10 z.first h
first_refused (Intensity t) z h = too_wide _ _ 43 10 z.first h
first_refused (Nankai p) z h = too_wide _ _ 43 10 z.first h
first_refused (Tsunami w) z h = too_wide _ _ 43 10 z.first h
first_refused (Volcano a) z h = too_wide _ _ 43 7 z.first h
first_refused (AshFall e) z h = too_wide _ _ 43 10 z.first h
first_refused Flood z h = too_wide _ _ 43 10 z.first h

pub second_refused : (b : Body) (z y : Spares) → has_spare (layout b).behind ≡ true → walk [] (layout b).behind (sides_of b z).behind ≡ Ok tt → 2 ^ spare_width (layout b).behind ≤ y.second
    → walk [] (layout b).behind (sides_of b y).behind ≡ Err (Range (spare_bit (layout b).behind) y.second)
unfolding walk
second_refused NoCategory z y s f h = absurd (false_not_true s)
second_refused (Hypocenter q) z y s f h = too_wide [] [] 163 51 y.second h
second_refused (Intensity t) z y s f h = too_wide [] [] 213 1 y.second h
second_refused (Nankai p) z y s f h = behind-walk p y ∙ behind-two _ _ _ _ (Range 213 y.second) (sym (behind-walk p z) ∙ f) (not_ranged 213 1 y.second h)
second_refused (Tsunami w) z y s f h = absurd (false_not_true s)
second_refused (Volcano a) z y s f h = too_wide [] [] 203 11 y.second h
second_refused (AshFall e) z y s f h = too_wide [] [] 199 15 y.second h
second_refused Flood z y s f h = too_wide [] [] 185 29 y.second h

-- the fields in front do not know of the second spare
pub front_alike : (b : Body) (z : Spares) (n : ℕ) → (sides_of b (record { first = z.first; second = n })).front ≡ (sides_of b z).front
front_alike NoCategory z n = refl
front_alike (Hypocenter q) z n = refl
front_alike (Intensity t) z n = refl
front_alike (Nankai p) z n = refl
front_alike (Tsunami w) z n = refl
front_alike (Volcano a) z n = refl
front_alike (AshFall e) z n = refl
front_alike Flood z n = refl

-- ---- a record of each category, so that there is one

-- 7, training, is an Rc of every category
abbrev sample : Body → List Slot → List ℕ → Record
sample b ss t = record {
  preamble = 0x53;
  reserved = 0;
  common = record { rc = 7; month = 1; day = 1; hour = 0; minute = 0; it = 0 };
  body = b;
  slots = ss ++ replicate (16 - length ss) no_slot;
  text = t;
  spares = no_spares;
}

abbrev midnight : Time
midnight = record { day = 1; hour = 0; minute = 0 }

abbrev somewhere : Angle
somewhere = record { side = 0; degrees = 35; minutes = 0; seconds = 0 }

abbrev pub samples : List Record
samples =
    sample (Hypocenter (record {
      notification1 = 101;
      notification2 = 0;
      notification3 = 0;
      time = midnight;
      depth = 10;
      magnitude = 50;
      epicenter = 100;
      latitude = somewhere;
      longitude = somewhere;
    })) [] (replicate 18 0)
    ∷ sample (Intensity (record { time = midnight })) (record { day = 0; hour = 0; minute = 0; strength = 4; place = 44 } ∷ []) (replicate 18 0)
    ∷ sample (Nankai (record { serial = 1; number = 1; total = 1 })) [] (replicate 18 65)
    ∷ sample (Tsunami (record { notification1 = 101; notification2 = 0; notification3 = 0; code = 3 })) (record { day = 0; hour = 31; minute = 63; strength = 3; place = 600 } ∷ []) (replicate 18 0)
    ∷ sample (Volcano (record { ambiguity = 7; time = record { day = 0; hour = 31; minute = 63 }; warning = 52; volcano = 503 })) (record { day = 0; hour = 0; minute = 0; strength = 0; place = 4321400 } ∷ []) (replicate 18 0)
    ∷ sample (AshFall (record { time = midnight; warning = 1; volcano = 101 })) (record { day = 0; hour = 1; minute = 0; strength = 1; place = 110000 } ∷ []) (replicate 18 0)
    ∷ sample Flood (record { day = 0; hour = 0; minute = 0; strength = 2; place = 830303020300 } ∷ []) (replicate 18 0) ∷ []
