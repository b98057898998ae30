-- What owning an array of pages tells of each page in it: its text is 18 bytes.
use mathlib.Core.List.{List, [], ◌∷◌}
use Prim.Native.Nat.{ℕ, zero, suc, ◌<◌}
use native.Mathlib.Omega.{arith}
use lib.ListN.{length, get_or}
use mir.Syntax.{w8}
use mir.Val.{Val}
use denote.Shadow.{shadow}
use denote.Array.{each}
use borrow.Author.Rules.{elem_Fits}
use Rattle.pages.specs.declared.page.Page.{Page}
use Rattle.pages.specs.Pages.{Shaped, no_page}
use Rattle.pages.specs.contracts.page.Page as P

pub shapes : (l : List Page) (us : List Val) → shadow (each (P.the_row).Denot (P.the_row).own_val l us) → (i : ℕ) → i < length l → Shaped (get_or l i no_page)
shapes [] us p i h = absurd (no h)
  where
    no : i < 0 → ⊥
    no h = omega arith
shapes (x ∷ l) [] p i h = absurd p
shapes (x ∷ l) (u ∷ us) p zero h = record {
  long = p.0.1.1.1.0.1.0.1;
  bytes = λ k. (elem_Fits w8 w8 x.text _ k p.0.1.1.1.0.1.1 tt).fits;
}
shapes (x ∷ l) (u ∷ us) p (suc i) h = shapes l us p.1 i (omega arith)
