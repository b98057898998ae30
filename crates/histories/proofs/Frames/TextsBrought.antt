-- What a record brings for a page, as the store's test admits it and as `Brings` says it.
use Rattle.std.specs.Prelude.{Err}
use mathlib.Core.Path.{◌≡◌, refl, ap, sym, ◌∙◌}
use mathlib.Core.Bool.{Bool, true, false, ◌&&◌, cond}
use mathlib.Core.List.{List, [], ◌∷◌, ◌++◌, append_assoc}
use mathlib.Core.Logic.{◌⊎◌, inl, inr, ⊎_elim}
use Prim.Native.Nat.{ℕ, ◌-◌, ◌≤◌}
use lib.Dec.{eqb}
use borrow.Author.Tests.{eqb-true, eq-eqb}
use Rattle.nankai.specs.declared.PageNumbers.{PageNumbers}
use Rattle.report.specs.declared.record.Record.{Record}
use Rattle.rows.specs.declared.refusal.Refusal.{Refusal}
use Rattle.rows.proofs.Rules.Outcomes.{and_both}
use Rattle.pages.specs.declared.name.Name.{Name}
use Rattle.bulletin.specs.declared.store.Store.{Store}
use Rattle.pages.specs.Names.{same_common, same_name}
use Rattle.bulletin.specs.Stores.{no_pages, sound_store}
use Rattle.bulletin.specs.Takings.{bulletin_of, put_page, take_of, Taking}
use Rattle.bulletin.proofs.Taking.TakingOutcomes.{Admits}
use Rattle.pages.proofs.Numbered.{numbered}
use Rattle.bulletin.proofs.Taking.TakenOrRefused.{taken_or_refused, put_answer}
use Rattle.bulletin.proofs.Claims.{a_sound_store_takes_every_page}
use Rattle.pages.proofs.States.{Text, In}
use Rattle.histories.specs.Soundness.{InRange}
use Rattle.histories.specs.Frames.{Frame, Alike, Brings, Came}
use Rattle.report.specs.Runs.Writing.{Valid}
use Rattle.histories.proofs.Soundness.Tested.{sound_tested}
use Rattle.histories.proofs.Frames.StoreStates.{opened_stands, stands_sound}
use Rattle.rows.specs.declared.common.Common.{Common}
use Rattle.report.specs.declared.body.Body.TheVariants.{Nankai}

-- ---- names compared

one_value : (u v : ℕ) (others : Bool) → eqb u v && others ≡ true → (u ≡ v) × (others ≡ true)
one_value u v others h = let both = and_both (eqb u v) others h in (eqb-true u v both.0, both.1)

pub same_name_lem : (a b : Name) → same_name a b ≡ true → a ≡ b
unfolding same_name same_common
same_name_lem a b h =
    let x = a.common in
    let y = b.common in
    let parts = and_both (same_common x y) _ h in
    let rc = one_value x.rc y.rc _ parts.0 in
    let month = one_value x.month y.month _ rc.1 in
    let day = one_value x.day y.day _ month.1 in
    let hour = one_value x.hour y.hour _ day.1 in
    let minute = one_value x.minute y.minute _ hour.1 in
    let it = eqb-true x.it y.it minute.1 in
    let serial = one_value a.serial b.serial _ parts.1 in
    let total = eqb-true a.total b.total serial.1 in
    λ j. record {
      common = record { rc = rc.0 j; month = month.0 j; day = day.0 j; hour = hour.0 j; minute = minute.0 j; it = it j };
      serial = serial.0 j;
      total = total j;
    }

pub name_same : (a : Name) → same_name a a ≡ true
unfolding same_name same_common
name_same a =
    let c = a.common in
    simp (eq-eqb c.rc c.rc refl, eq-eqb c.month c.month refl, eq-eqb c.day c.day refl, eq-eqb c.hour c.hour refl, eq-eqb c.minute c.minute refl, eq-eqb c.it c.it refl, eq-eqb a.serial a.serial refl, eq-eqb a.total a.total refl)

pub named_same : (a b : Name) → a ≡ b → same_name a b ≡ true
named_same a b e = ap (λ (n : Name). same_name a n) (sym e) ∙ name_same a

-- ---- what one record brings

pub opened_sound : (n : Name) → InRange n → sound_store (no_pages n) ≡ true
opened_sound n r = sound_tested (no_pages n) (stands_sound (no_pages n) n _ r (opened_stands n))

-- what a store admits is a page of its bulletin, and the other way round
pub admits_brings : (s : Store) (r : Record) (k : ℕ) → Admits s r k → Brings s.name r k r.text
admits_brings s r k a =
    let e = same_name_lem _ _ a.same in
    record {
      valid = a.valid;
      common = ap (λ (m : Name). m.common) e;
      body = a.is ∙ (λ j. Nankai (record { serial = (e j).serial; number = a.number j; total = (e j).total }));
      text = refl;
    }

pub brings_taken : (s : Store) (r : Record) (p : ℕ) (t : Text) → sound_store s ≡ true → Brings s.name r p t → take_of s r ≡ put_page s (p - 1) r.text
brings_taken s r p t h b =
    let n = s.name in
    let numbers : PageNumbers = record { serial = n.serial; number = p; total = n.total } in
    a_sound_store_takes_every_page s r numbers h b.valid b.body (ap (λ (c : Common). same_name (bulletin_of c numbers) n) b.common ∙ name_same n)

-- "Page number at 201 (6, 1-63). Page total at 207 (6): at least the page number"
pub brings_page : (n : Name) (f : Frame) (p : ℕ) (t : Text) → Brings n f.came p t → (1 ≤ p) × (p ≤ n.total)
brings_page n f p t b =
    let k = numbered f.came _ b.valid b.body in
    (k.low, k.high)

-- a record is one page, with one text
-- what plays no part may differ
pub alike_brings : (n : Name) (r q : Record) (p : ℕ) (t : Text) → Valid q → Alike r q → Brings n r p t → Brings n q p t
alike_brings n r q p t v a b = record { valid = v; common = sym a.common ∙ b.common; body = sym a.body ∙ b.body; text = sym a.text ∙ b.text }

pub same_page : (n : Name) (r : Record) (p q : ℕ) (t u : Text) → Brings n r p t → Brings n r q u → p ≡ q
same_page n r p q t u a b = ap (λ (x : PageNumbers). x.number) (same_numbers _ _ (sym a.body ∙ b.body))
  where
    same_numbers : (x y : PageNumbers) → Nankai x ≡ Nankai y → x ≡ y
    same_numbers x y e = cc

-- it is a page of the bulletin, or it is none
abbrev pub Page? : Name → Record → Type 0
Page? n r = ((k : ℕ) × Brings n r k r.text) ⊎ ((k : ℕ) (t : Text) → Brings n r k t → ⊥)

pub page? : (n : Name) (r : Record) → InRange n → Page? n r
page? n r i =
    ⊎_elim
    (λ a. inl (a.0, admits_brings (no_pages n) r a.0 a.1))
    (λ x. inr (λ k t b. answered (no_pages n) k x.0 (sym (brings_taken (no_pages n) r k t (opened_sound n i) b) ∙ x.1)))
    (taken_or_refused (no_pages n) r)
  where
    -- a page that is put answers one of the three
    answered : (s : Store) (k : ℕ) (x : Refusal) → put_page s (k - 1) r.text ≡ record { answer = Err x; store = s } → ⊥
    answered s k x e = put_answer s (k - 1) r.text x (ap (λ (z : Taking). z.answer) e)

abbrev pub brought_by : {n : Name} {r : Record} → Page? n r → ℕ → Text → List Text
brought_by (inl a) p t = cond (eqb a.0 p) (t ∷ []) []
brought_by (inr x) p t = []

abbrev pub brought : (n : Name) → InRange n → ℕ → Record → List Text
brought n i p r = brought_by (page? n r i) p r.text

-- ---- both ways

in_brings : (n : Name) (r : Record) (p : ℕ) (t : Text) (d : Page? n r) → In t (brought_by d p r.text) → Brings n r p t
in_brings n r p t (inr x) h = absurd h
in_brings n r p t (inl a) h = at (eqb a.0 p) refl h
  where
    at : (b : Bool) → eqb a.0 p ≡ b → In t (cond b (r.text ∷ []) []) → Brings n r p t
    at false q i = absurd i
    at true q i =
        let b = a.1 in
        let same = eqb-true a.0 p q in
        ⊎_elim
        (λ s. record { valid = b.valid; common = b.common; body = b.body ∙ (λ j. Nankai (record { serial = n.serial; number = same j; total = n.total })); text = sym s })
        (λ z. absurd z)
        i

brings_in : (n : Name) (r : Record) (p : ℕ) (t : Text) (d : Page? n r) → Brings n r p t → In t (brought_by d p r.text)
brings_in n r p t (inr x) b = absurd (x p t b)
brings_in n r p t (inl a) b = rw (eq-eqb a.0 p (same_page n r a.0 p r.text t a.1 b)) (inl (sym b.text))

-- ---- membership in lists one behind the other

in_append : (t : Text) (a b : List Text) → In t (a ++ b) → In t a ⊎ In t b
in_append t [] b h = inr h
in_append t (u ∷ a) b h = ⊎_elim (λ e. inl (inl e)) (λ k. ⊎_elim (λ x. inl (inr x)) (λ y. inr y) (in_append t a b k)) h

in_left : (t : Text) (a b : List Text) → In t a → In t (a ++ b)
in_left t [] b h = absurd h
in_left t (u ∷ a) b h = ⊎_elim (λ e. inl e) (λ k. inr (in_left t a b k)) h

in_right : (t : Text) (a b : List Text) → In t b → In t (a ++ b)
in_right t [] b h = h
in_right t (u ∷ a) b h = inr (in_right t a b h)

-- ---- what a list of frames brings

module _ (n : Name) (i : InRange n) where
  abbrev pub texts : ℕ → List Frame → List Text
  texts p [] = []
  texts p (f ∷ fs) = brought n i p f.came ++ texts p fs

  pub texts_append : (p : ℕ) (a b : List Frame) → texts p (a ++ b) ≡ texts p a ++ texts p b
  texts_append p [] b = refl
  texts_append p (f ∷ a) b = ap (λ (l : List Text). brought n i p f.came ++ l) (texts_append p a b) ∙ sym (append_assoc (brought n i p f.came) (texts p a) (texts p b))

  pub in_came : (p : ℕ) (fs : List Frame) (t : Text) → In t (texts p fs) → Came n fs p t
  in_came p [] t h = absurd h
  in_came p (f ∷ fs) t h =
      ⊎_elim
      (λ k. (f.came, inl refl, in_brings n f.came p t (page? n f.came i) k))
      (λ k. let c = in_came p fs t k in (c.0, inr c.1, c.2))
      (in_append t (brought n i p f.came) (texts p fs) h)

  pub came_in : (p : ℕ) (fs : List Frame) (t : Text) → Came n fs p t → In t (texts p fs)
  came_in p [] t c = absurd c.1
  came_in p (f ∷ fs) t c =
      ⊎_elim
      (λ e. in_left t (brought n i p f.came) (texts p fs) (brings_in n f.came p t (page? n f.came i) (rw e at c.2)))
      (λ k. in_right t (brought n i p f.came) (texts p fs) (came_in p fs t (c.0, k, c.2)))
      c.1
