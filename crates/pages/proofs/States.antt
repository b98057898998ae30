-- The laws of a page, over what a page stands for; `join_to` carries them over to pages.
use mathlib.Core.Path.{◌≡◌, refl, ap, sym, ◌∙◌}
use mathlib.Core.Bool.{Bool, true, false, cond}
use mathlib.Core.List.{List, [], ◌∷◌, ◌++◌}
use mathlib.Core.Logic.{◌⊎◌, inl, inr, ⊎_elim}
use Prim.Native.Nat.{ℕ}
use native.Mathlib.Omega.{arith}
use Rattle.pages.specs.declared.page.Page.{Page}
use Rattle.pages.specs.Pages.{join, absent_page, held_page, disputed_page}
use Rattle.rows.specs.Values.{same_bytes}
use Rattle.rows.proofs.Rules.Tests.{eq_same, ne_same, same?}

abbrev pub Text : Type 0
Text = List ℕ

pub data Mark : Type 0 where
  absent : Mark
  held : Text → Mark
  disputed : Mark

abbrev pub to_page : Mark → Page
to_page absent = absent_page
to_page (held t) = held_page t
to_page disputed = disputed_page

abbrev pub join_marks : Mark → Mark → Mark
join_marks absent y = y
join_marks (held t) absent = held t
join_marks (held t) (held u) = cond (same_bytes t u) (held t) disputed
join_marks (held t) disputed = disputed
join_marks disputed absent = disputed
join_marks disputed (held u) = disputed
join_marks disputed disputed = disputed

pub join_to : (x y : Mark) → join (to_page x) (to_page y) ≡ to_page (join_marks x y)
unfolding join
join_to absent y = refl
join_to (held t) absent = refl
join_to (held t) (held u) = go (same_bytes t u)
  where
    go : (b : Bool) → cond b (held_page t) disputed_page ≡ to_page (cond b (held t) disputed)
    go true = refl
    go false = refl
join_to (held t) disputed = refl
join_to disputed absent = refl
join_to disputed (held u) = refl
join_to disputed disputed = refl

pub join_marks_none : (x : Mark) → join_marks x absent ≡ x
join_marks_none absent = refl
join_marks_none (held t) = refl
join_marks_none disputed = refl

dis_left : (y : Mark) → join_marks disputed y ≡ disputed
dis_left absent = refl
dis_left (held u) = refl
dis_left disputed = refl

dis_right : (y : Mark) → join_marks y disputed ≡ disputed
dis_right absent = refl
dis_right (held u) = refl
dis_right disputed = refl

pub join_marks_idem : (x : Mark) → join_marks x x ≡ x
join_marks_idem absent = refl
join_marks_idem (held t) = rw (eq_same t t refl)
join_marks_idem disputed = refl

pub join_marks_comm : (x y : Mark) → join_marks x y ≡ join_marks y x
join_marks_comm absent y = sym (join_marks_none y)
join_marks_comm (held t) absent = refl
join_marks_comm (held t) (held u) =
    ⊎_elim
    (λ e. rw (eq_same t u e, eq_same u t (sym e)) (ap held e))
    (λ n. rw (ne_same t u n, ne_same u t (λ e. n (sym e))))
    (same? t u)
join_marks_comm (held t) disputed = refl
join_marks_comm disputed absent = refl
join_marks_comm disputed (held u) = refl
join_marks_comm disputed disputed = refl

assoc_held : (t u v : Text) → join_marks (join_marks (held t) (held u)) (held v) ≡ join_marks (held t) (join_marks (held u) (held v))
assoc_held t u v =
    ⊎_elim
    (λ e. ⊎_elim
    (λ f. simp (eq_same t u e, eq_same u v f, eq_same t v (e ∙ f)))
    (λ n. simp (eq_same t u e, ne_same u v n, ne_same t v (λ q. n (sym e ∙ q))))
    (same? u v))
    (λ m. ⊎_elim
    (λ f. simp (ne_same t u m, eq_same u v f))
    (λ n. simp (ne_same t u m, ne_same u v n))
    (same? u v))
    (same? t u)

pub join_marks_assoc : (x y z : Mark) → join_marks (join_marks x y) z ≡ join_marks x (join_marks y z)
join_marks_assoc absent y z = refl
join_marks_assoc (held t) absent z = refl
join_marks_assoc (held t) (held u) absent = join_marks_none (join_marks (held t) (held u))
join_marks_assoc (held t) (held u) (held v) = assoc_held t u v
join_marks_assoc (held t) (held u) disputed = dis_right (join_marks (held t) (held u))
join_marks_assoc (held t) disputed z = simp dis_left
join_marks_assoc disputed y z = simp dis_left

-- a page stands for one mark
pub to_page_inj : (x y : Mark) → to_page x ≡ to_page y → x ≡ y
to_page_inj absent absent e = refl
to_page_inj absent (held u) e = absurd (omega (arith, ap (λ (p : Page). p.mark) e))
to_page_inj absent disputed e = absurd (omega (arith, ap (λ (p : Page). p.mark) e))
to_page_inj (held t) absent e = absurd (omega (arith, ap (λ (p : Page). p.mark) e))
to_page_inj (held t) (held u) e = ap (λ (p : Page). held p.text) e
to_page_inj (held t) disputed e = absurd (omega (arith, ap (λ (p : Page). p.mark) e))
to_page_inj disputed absent e = absurd (omega (arith, ap (λ (p : Page). p.mark) e))
to_page_inj disputed (held u) e = absurd (omega (arith, ap (λ (p : Page). p.mark) e))
to_page_inj disputed disputed e = refl

-- the mark of a page for which these texts came
abbrev pub mark_of : List Text → Mark
mark_of [] = absent
mark_of (t ∷ ts) = join_marks (held t) (mark_of ts)

pub mark_of_append : (a b : List Text) → mark_of (a ++ b) ≡ join_marks (mark_of a) (mark_of b)
mark_of_append [] b = refl
mark_of_append (t ∷ a) b = ap (join_marks (held t)) (mark_of_append a b) ∙ sym (join_marks_assoc (held t) (mark_of a) (mark_of b))

-- ---- what the marks mean
abbrev pub In : Text → List Text → Type 0
In t [] = ⊥
In t (u ∷ ts) = (t ≡ u) ⊎ In t ts

-- absent: none came; held t: t came, and nothing else; disputed: two that differ came
abbrev pub Says : List Text → Mark → Type 0
Says ts absent = (t : Text) → In t ts → ⊥
Says ts (held t) = In t ts × ((u : Text) → In u ts → u ≡ t)
Says ts disputed = (u : Text) × (v : Text) × In u ts × In v ts × (u ≡ v → ⊥)

says_more : (t : Text) (ts : List Text) (m : Mark) → Says ts m → Says (t ∷ ts) (join_marks (held t) m)
says_more t ts absent s = (inl refl, λ u i. ⊎_elim (λ e. e) (λ h. absurd (s u h)) i)
says_more t ts (held u) s =
    ⊎_elim
    (λ e. rw (eq_same t u e) (inl refl, λ v i. ⊎_elim (λ q. q) (λ h. s.1 v h ∙ sym e) i))
    (λ n. rw (ne_same t u n) (t, u, inl refl, inr s.0, n))
    (same? t u)
says_more t ts disputed s = (s.0, s.1, inr s.2, inr s.3, s.4)

pub says : (ts : List Text) → Says ts (mark_of ts)
says [] = λ t i. i
says (t ∷ ts) = says_more t ts (mark_of ts) (says ts)

pub says_unique : (ts : List Text) (m n : Mark) → Says ts m → Says ts n → m ≡ n
says_unique ts absent absent p q = refl
says_unique ts absent (held u) p q = absurd (p u q.0)
says_unique ts absent disputed p q = absurd (p q.0 q.2)
says_unique ts (held t) absent p q = absurd (q t p.0)
says_unique ts (held t) (held u) p q = ap held (q.1 t p.0)
says_unique ts (held t) disputed p q = absurd (q.4 (p.1 q.0 q.2 ∙ sym (p.1 q.1 q.3)))
says_unique ts disputed absent p q = absurd (q p.0 p.2)
says_unique ts disputed (held t) p q = absurd (p.4 (q.1 p.0 p.2 ∙ sym (q.1 p.1 p.3)))
says_unique ts disputed disputed p q = refl

-- what came decides the mark, in whatever order and however often it came
says_same : (a b : List Text) (m : Mark) → ((t : Text) → In t a → In t b) → ((t : Text) → In t b → In t a) → Says a m → Says b m
says_same a b absent f g s = λ t i. s t (g t i)
says_same a b (held t) f g s = (f t s.0, λ u i. s.1 u (g u i))
says_same a b disputed f g s = (s.0, s.1, f _ s.2, f _ s.3, s.4)

pub mark_of_same : (a b : List Text) → ((t : Text) → In t a → In t b) → ((t : Text) → In t b → In t a) → mark_of a ≡ mark_of b
mark_of_same a b f g = says_unique b (mark_of a) (mark_of b) (says_same a b (mark_of a) f g (says a)) (says b)
