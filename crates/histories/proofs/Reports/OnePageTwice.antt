-- A page that came twice does not stand for another.
use Rattle.std.specs.Prelude.{Ok}
use mathlib.Core.Path.{◌≡◌, refl, sym, ◌∙◌, subst}
use mathlib.Core.Logic.{inl, inr, ⊎_elim}
use Prim.Native.Nat.{ℕ, ◌≤◌}
use native.Mathlib.Omega.{arith}
use lib.ListN.{replicate}
use Rattle.report.specs.declared.record.Record.{Record}
use Rattle.rows.specs.declared.refusal.Refusal.TheVariants.{NotHeld}
use Rattle.bulletin.specs.Counts.{count_of, Counted}
use Rattle.pages.proofs.States.{Text}
use Rattle.histories.specs.Soundness.{InRange}
use Rattle.histories.specs.Frames.{store_after, Among, Brings, Came, Held, Disputed, AllTaken}
use Rattle.histories.specs.Reports.{none, one_more, no_more, LowestWithout, IsHeld, TellsNothing}
use Rattle.histories.specs.Examples.{of_two_pages, frame_paged, sent_again, came_twice}
use Rattle.histories.proofs.Frames.TextsBrought.{alike_brings, same_page}
use Rattle.report.specs.Records.{values}
use Rattle.report.specs.Runs.Writing.{Valid, write_answer}
use Rattle.rows.specs.Runs.Verdict.{allowed, empty, judge, later, slots_verdict, verdict, walk}
use Rattle.slots.specs.Slots.{tidy_slots, vacant}
use Rattle.histories.proofs.Histories.PageFrames.{frame_brings}
use Rattle.histories.proofs.Soundness.KeptRules.{all_alike}
use Rattle.histories.proofs.Reports.Reported.{reported, reported_once}
use Rattle.histories.proofs.Reports.TextFromFrames.{no_text_lem}

pub in_range : InRange of_two_pages
in_range =
    (inr refl, ((omega arith, omega arith), ((omega arith, omega arith), (omega arith, (omega arith, (inl refl, ((omega arith, omega arith), ((omega arith, omega arith), tt))))))))

abbrev pub letters : Text
letters = replicate 18 65

pub page_brings : (p : ℕ) → 1 ≤ p → p ≤ 2 → Brings of_two_pages (frame_paged p).came p letters
page_brings p low high = frame_brings of_two_pages in_range p letters low high (all_alike 65 (omega arith))

first_brings : Brings of_two_pages (frame_paged 1).came 1 letters
first_brings = page_brings 1 (omega arith) (omega arith)

-- what came again can be written too, and is like what came first
again_valid : Valid (sent_again 1).came
unfolding write_answer allowed judge walk empty later slots_verdict verdict values tidy_slots vacant
again_valid = refl

again_brings : Brings of_two_pages (sent_again 1).came 1 letters
again_brings = alike_brings of_two_pages (frame_paged 1).came (sent_again 1).came 1 letters again_valid (record { common = refl; body = refl; slots = refl; text = refl }) first_brings

all_bring : (r : Record) → Among r came_twice → Brings of_two_pages r 1 letters
all_bring r h =
    ⊎_elim (λ e. subst (λ (x : Record). Brings of_two_pages x 1 letters) (sym e) first_brings)
    (λ k. ⊎_elim (λ e. subst (λ (x : Record). Brings of_two_pages x 1 letters) (sym e) again_brings) (λ z. absurd z) k) h

pub all-taken : AllTaken of_two_pages came_twice
all-taken r h = let b = all_bring r h in (1, subst (Brings of_two_pages r 1) (sym b.text) b)

only-page_one : (p : ℕ) (t : Text) → Came of_two_pages came_twice p t → (p ≡ 1) × (t ≡ letters)
only-page_one p t c =
    let b = all_bring c.0 c.1 in
    (same_page of_two_pages c.0 p 1 t letters c.2 b, sym c.2.text ∙ b.text)

first_held : Held of_two_pages came_twice 1 letters
first_held = record { came = ((frame_paged 1).came, inl refl, first_brings); alone = λ u c. (only-page_one 1 u c).1 }

second_not_held : IsHeld of_two_pages came_twice 2 → ⊥
second_not_held h = omega (arith, (only-page_one 2 h.0 h.1.came).0)

none_disputed : (p : ℕ) → Disputed of_two_pages came_twice p → ⊥
none_disputed p d = d.differ ((only-page_one p d.one d.came).1 ∙ sym (only-page_one p d.other d.came_too).1)

second-lowest : LowestWithout (IsHeld of_two_pages came_twice) 2 2
second-lowest = record {
  low = omega arith;
  high = omega arith;
  lacks = second_not_held;
  before = λ p low high. let one : 1 ≡ p = omega arith in subst (IsHeld of_two_pages came_twice) one (letters, first_held);
}

abbrev one_of_two : Counted
one_of_two = record { answer = Ok tt; held = 1; disputed = 0; lowest = 2 }

pub twice_reported : count_of (store_after of_two_pages came_twice) ≡ one_of_two
twice_reported =
    reported_once of_two_pages came_twice (count_of (store_after of_two_pages came_twice)) one_of_two (reported of_two_pages in_range came_twice)
    (record {
      answer = refl;
      held = no_more (one_more none (letters, first_held)) second_not_held;
      disputed = no_more (no_more none (none_disputed 1)) (none_disputed 2);
      lowest = inr second-lowest;
    })

pub twice_told : TellsNothing (store_after of_two_pages came_twice) (NotHeld 2 1)
twice_told =
    let t = no_text_lem of_two_pages in_range came_twice 2 second-lowest in
    let mark : t.0 ≡ 1 = ⊎_elim (λ a. a.0) (λ d. absurd (none_disputed 2 d.1)) t.1.why in
    subst (λ (m : ℕ). TellsNothing (store_after of_two_pages came_twice) (NotHeld 2 m)) mark t.2
