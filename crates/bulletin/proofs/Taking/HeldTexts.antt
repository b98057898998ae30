-- A held text is never replaced by another: joined with whatever comes, it stays or is disputed.
use Rattle.std.specs.Prelude.{Ok, Err}
use mathlib.Core.Path.{◌≡◌, refl, ap, sym, ◌∙◌}
use mathlib.Core.Bool.{Bool, true, false}
use mathlib.Core.List.{List}
use mathlib.Core.Logic.{◌⊎◌, inl, inr, ⊎_elim}
use Prim.Native.Nat.{ℕ, ◌-◌, ◌<◌}
use native.Mathlib.Omega.{arith}
use lib.Dec.{eqb}
use lib.ListN.{length, get_or, set}
use lib.Seq.{get_or-set_same, get_or-set_other}
use borrow.Author.Tests.{eqb-true, eqb-false}
use Rattle.pages.specs.declared.page.Page.{Page}
use Rattle.pages.specs.Pages.{no_page, join, held_page, disputed_page}
use Rattle.pages.proofs.States.{Text, Mark, absent, held, disputed, to_page, join_marks, join_to}
use Rattle.rows.proofs.Rules.Tests.{same?, eq_same, ne_same}
use Rattle.bulletin.specs.declared.store.Store.{Store}
use Rattle.bulletin.specs.Stores.{page_behind}
use Rattle.bulletin.specs.Takings.{put_page, taking, Admission}

held_stays : (t : Text) (n : Mark) → (join_marks (held t) n ≡ held t) ⊎ (join_marks (held t) n ≡ disputed)
held_stays t absent = inl refl
held_stays t (held u) = ⊎_elim (λ e. inl (rw (eq_same t u e))) (λ n. inr (rw (ne_same t u n))) (same? t u)
held_stays t disputed = inr refl

pub joined_held : (p : Page) (t : Text) (n : Mark) → p ≡ to_page (join_marks (held t) n) → (p ≡ held_page t) ⊎ (p ≡ disputed_page)
joined_held p t n e = ⊎_elim (λ k. inl (e ∙ ap to_page k)) (λ k. inr (e ∙ ap to_page k)) (held_stays t n)

pub taking_keeps : (s : Store) (a : Admission) (x : List ℕ) (i : ℕ) (t : List ℕ) → i < length s.pages → page_behind s i ≡ held_page t
    → (page_behind (taking a s x).store i ≡ held_page t) ⊎ (page_behind (taking a s x).store i ≡ disputed_page)
unfolding taking put_page
taking_keeps s (Err y) x i t h e = inl e
taking_keeps s (Ok k) x i t h e = go (eqb i (k - 1)) refl
  where
    after : List Page
    after = set s.pages (k - 1) (join (page_behind s (k - 1)) (held_page x))

    go : (b : Bool) → eqb i (k - 1) ≡ b → (get_or after i no_page ≡ held_page t) ⊎ (get_or after i no_page ≡ disputed_page)
    go true q =
        let same : k - 1 ≡ i = sym (eqb-true i (k - 1) q) in
        joined_held (get_or after i no_page) t (held x)
        (ap (λ (j : ℕ). get_or (set s.pages j (join (page_behind s j) (held_page x))) i no_page) same
        ∙ get_or-set_same s.pages i (join (page_behind s i) (held_page x)) no_page h
        ∙ ap (λ (p : Page). join p (held_page x)) e
        ∙ join_to (held t) (held x))
    go false q = inl (get_or-set_other s.pages (k - 1) i _ no_page (λ z. eqb-false i (k - 1) q (omega (arith, z))) ∙ e)
