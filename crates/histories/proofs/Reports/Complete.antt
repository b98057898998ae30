-- A bulletin of two pages comes to be complete, and tells its text.
use Rattle.std.specs.Prelude.{Ok}
use mathlib.Core.Path.{◌≡◌, refl, sym, ap, ◌∙◌, subst}
use mathlib.Core.List.{List, [], ◌∷◌, ◌++◌}
use mathlib.Core.Logic.{◌⊎◌, inl, inr, ⊎_elim}
use Prim.Native.Nat.{ℕ, zero, suc, ◌≤◌}
use native.Mathlib.Omega.{arith}
use lib.ListN.{length, get_or, length-append, replicate}
use lib.Seq.{get_or_at}
use Rattle.report.specs.declared.record.Record.{Record}
use Rattle.bulletin.specs.Counts.{count_of, Counted}
use Rattle.pages.proofs.States.{Text}
use Rattle.histories.specs.Frames.{store_after, Among, Came, Held, Disputed}
use Rattle.histories.specs.Reports.{none, one_more, no_more, Tells, in_order}
use Rattle.histories.specs.Examples.{of_two_pages, frame_paged, came_both}
use Rattle.histories.proofs.Reports.OnePageTwice.{in_range, letters, page_brings}
use Rattle.histories.proofs.Reports.Reported.{reported, reported_once}
use Rattle.histories.proofs.Reports.Trimming.{trimmed_once}
use Rattle.histories.proofs.Reports.TextFromFrames.{whole_text}

one_of : (r : Record) → Among r came_both → (r ≡ (frame_paged 1).came) ⊎ (r ≡ (frame_paged 2).came)
one_of r h = ⊎_elim (λ e. inl e) (λ k. ⊎_elim (λ e. inr e) (λ z. absurd z) k) h

letters_alone : (p : ℕ) (t : Text) → Came of_two_pages came_both p t → t ≡ letters
letters_alone p t c =
    ⊎_elim (λ e. sym c.2.text ∙ ap (λ (r : Record). r.text) e) (λ e. sym c.2.text ∙ ap (λ (r : Record). r.text) e) (one_of c.0 c.1)

both_held_lem : (p : ℕ) → 1 ≤ p → p ≤ 2 → Held of_two_pages came_both p letters
both_held_lem zero low high = absurd (omega arith)
both_held_lem (suc zero) low high = record { came = ((frame_paged 1).came, inl refl, page_brings 1 low high); alone = λ u c. letters_alone 1 u c }
both_held_lem (suc (suc zero)) low high = record { came = ((frame_paged 2).came, inr (inl refl), page_brings 2 low high); alone = λ u c. letters_alone 2 u c }
both_held_lem (suc (suc (suc p))) low high = absurd (omega arith)

none_disputed : (p : ℕ) → Disputed of_two_pages came_both p → ⊥
none_disputed p d = d.differ (letters_alone p d.one d.came ∙ sym (letters_alone p d.other d.came_too))

abbrev both_held : Counted
both_held = record { answer = Ok tt; held = 2; disputed = 0; lowest = 0 }

pub complete_reported : count_of (store_after of_two_pages came_both) ≡ both_held
complete_reported =
    reported_once of_two_pages came_both (count_of (store_after of_two_pages came_both)) both_held (reported of_two_pages in_range came_both)
    (record {
      answer = refl;
      held = one_more (one_more none (letters, both_held_lem 1 (omega arith) (omega arith))) (letters, both_held_lem 2 (omega arith) (omega arith));
      disputed = no_more (no_more none (none_disputed 1)) (none_disputed 2);
      lowest = inl (refl, λ p low high. (letters, both_held_lem p low high));
    })

-- no zero stands at the end of the letters
ends : (l : List ℕ) → replicate 36 65 ≡ l ++ (0 ∷ []) → ⊥
ends l e =
    let long : length l ≡ 35 = omega (arith, ap length e, length-append l (0 ∷ [])) in
    let last : ◌≡◌ {A = ℕ} 65 0 = ap (λ (x : List ℕ). get_or x 35 0) e ∙ get_or_at l 0 [] 0 35 long in
    omega (arith, last)

pub complete_told : Tells (store_after of_two_pages came_both) (replicate 36 65)
complete_told =
    let w = whole_text of_two_pages in_range came_both (λ p. letters) both_held_lem in
    let whole : List ℕ = in_order (λ p. letters) 2 in
    let same : w.0 ≡ replicate 36 65 = trimmed_once whole w.0 (replicate 36 65) w.1 (record { zeros = 0; is = refl; ends = ends }) in
    subst (Tells (store_after of_two_pages came_both)) same w.2
