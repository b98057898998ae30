-- A page that is kept is what a join gives.
use mathlib.Core.Path.{◌≡◌, refl, ap, sym, ◌∙◌}
use mathlib.Core.Bool.{Bool, true, false, cond}
use lib.Dec.{eqb}
use Rattle.rows.specs.Values.{same_bytes}
use Rattle.pages.specs.declared.page.Page.{Page}
use Rattle.pages.specs.declared.page.Kept.{Kept}
use Rattle.pages.specs.declared.page.Kept.TheVariants.{Own, Other, Neither}
use Rattle.pages.specs.Pages.{disputed_page, join, kept_of}

abbrev pub kept_page : Kept → Page → Page → Page
kept_page Own p q = p
kept_page Other p q = q
kept_page Neither p q = disputed_page

joins_by_kept : (p q : Page) → kept_page (kept_of p q) p q ≡ join p q
unfolding kept_of join
joins_by_kept p q = by (eqb p.mark 0) (eqb q.mark 0) (eqb p.mark 1) (eqb q.mark 1) (same_bytes p.text q.text)
  where
    by : (a b c d e : Bool) → kept_page (cond a Other (cond b Own (cond c (cond d (cond e Own Neither) Neither) Neither))) p q
        ≡ cond a q (cond b p (cond c (cond d (cond e p disputed_page) disputed_page) disputed_page))
    by true b c d e = refl
    by false true c d e = refl
    by false false true true true = refl
    by false false true true false = refl
    by false false true false e = refl
    by false false false d e = refl

-- where the answer is w
pub joined_by : (p q : Page) {k : Kept} (w : Kept) → k ≡ kept_of p q → k ≡ w → kept_page w p q ≡ join p q
joined_by p q w e f = ap (λ (x : Kept). kept_page x p q) (sym f ∙ e) ∙ joins_by_kept p q
