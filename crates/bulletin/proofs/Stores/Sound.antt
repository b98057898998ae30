-- The test of a store's pages, as a law of lists; and what passing it tells.
use Rattle.std.specs.Prelude.{Ok}
use mathlib.Core.Path.{◌≡◌, refl, ap, ◌∙◌}
use mathlib.Core.Bool.{Bool, true, false, cond, ◌&&◌}
use mathlib.Core.List.{List, [], ◌∷◌}
use Prim.Native.Nat.{ℕ, suc}
use native.Mathlib.Numerals.{add-one}
use Rattle.std.specs.List.{list_all, enumerate_from}
use Rattle.pages.specs.declared.page.Page.{Page}
use Rattle.pages.specs.Pages.{sound_at}
use Rattle.bulletin.specs.Stores.{sound_from, sound_store}
use Rattle.rows.proofs.Rules.Outcomes.{false_not_true}
use Rattle.bulletin.specs.declared.store.Store.{Store}
use Rattle.pages.specs.Names.{name_verdict, name_in_range}
use Rattle.pages.proofs.Ranges.{is_fine_lem}

-- each page is sound, behind i others
pub all_sound : (t i : ℕ) (ps : List Page) → list_all (λ (j, p). sound_at t j p) (enumerate_from i ps) ≡ sound_from t i ps
unfolding sound_from
all_sound t i [] = refl
all_sound t i (p ∷ ps) =
    by (sound_at t i p) (ap (λ (n : ℕ). list_all (λ (j, p). sound_at t j p) (enumerate_from n ps)) (add-one i) ∙ all_sound t (suc i) ps)
  where
    by : (b : Bool) {c d : Bool} → c ≡ d → (b && c) ≡ cond b d false
    by true e = e
    by false e = refl

-- soundness taken apart
pub sound_parts : (s : Store) → sound_store s ≡ true → (name_verdict s.name ≡ Ok tt) × (sound_from s.name.total 0 s.pages ≡ true)
unfolding sound_store
sound_parts s h = go (name_in_range s.name) refl h
  where
    go : (b : Bool) → name_in_range s.name ≡ b → cond b (sound_from s.name.total 0 s.pages) false ≡ true
        → (name_verdict s.name ≡ Ok tt) × (sound_from s.name.total 0 s.pages ≡ true)
    go true e h = (is_fine_lem _ e, h)
    go false e h = absurd (false_not_true h)
