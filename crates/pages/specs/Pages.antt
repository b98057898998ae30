-- One page of a store (document 01, "The page store"): "absent, held with its 18 bytes, or disputed".
use Rattle.std.specs.Prelude.{◌≡◌, Bool, true, false, cond, List, [], ℕ, ◌<◌, length, get_or, replicate, eqb, ltb}
use Rattle.rows.specs.Values.{same_bytes}
use Rattle.pages.specs.declared.page.Page.{Page}
use Rattle.pages.specs.declared.page.Kept.{Kept}
use Rattle.pages.specs.declared.page.Kept.TheVariants.{Own, Other, Neither}

abbrev pub no_text : List ℕ
no_text = replicate 18 0

abbrev pub absent_page : Page
absent_page = record { mark = 0; text = no_text }

abbrev pub held_page : List ℕ → Page
held_page t = record { mark = 1; text = t }

abbrev pub disputed_page : Page
disputed_page = record { mark = 2; text = no_text }

-- what a list of pages has past its end
abbrev pub no_page : Page
no_page = record { mark = 0; text = [] }

-- "absent with anything gives the other; held with held of the same bytes stays held; all else is disputed"
unfoldable pub join : Page → Page → Page
join p q =
    cond (eqb p.mark 0) q
    (cond (eqb q.mark 0) p
    (cond (eqb p.mark 1)
    (cond (eqb q.mark 1) (cond (same_bytes p.text q.text) p disputed_page) disputed_page)
    disputed_page))

-- which of the two that is, the first or the other one; neither where it is disputed
unfoldable pub kept_of : Page → Page → Kept
kept_of p q =
    cond (eqb p.mark 0) Other
    (cond (eqb q.mark 0) Own
    (cond (eqb p.mark 1)
    (cond (eqb q.mark 1) (cond (same_bytes p.text q.text) Own Neither) Neither)
    Neither))

-- ---- "each page's state is one of the three, absent and disputed pages hold zero bytes, and pages past the total are absent"

unfoldable pub sound_page : Page → Bool
sound_page p =
    cond (eqb p.mark 1) true
    (cond (eqb p.mark 0) (same_bytes p.text no_text) (cond (eqb p.mark 2) (same_bytes p.text no_text) false))

-- the page behind i others, in a bulletin of so many
unfoldable pub sound_at : ℕ → ℕ → Page → Bool
sound_at total i p = cond (sound_page p) (cond (ltb i total) true (eqb p.mark 0)) false

-- what the type of a page tells: 18 bytes
pub record Shaped (p : Page) : Type 0 where
  pub long : length p.text ≡ 18
  pub bytes : (k : ℕ) → get_or p.text k 0 < 256
