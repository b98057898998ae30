-- When a text is told, and how long it is at most.
use Rattle.std.specs.Prelude.{Ok, Err, None, Some}
use mathlib.Core.Path.{◌≡◌, sym, ap, ◌∙◌, refl}
use Prim.Native.Nat.{ℕ, ◌+◌, ◌-◌, ◌*◌, ◌≤◌}
use native.Mathlib.Omega.{arith}
use borrow.Author.Tests.{ne_eqb}
use Rattle.rows.specs.declared.refusal.Refusal.TheVariants.{NotHeld, Unsound}
use Rattle.rows.specs.Refusals.{Verdict}
use Rattle.bulletin.specs.declared.store.Store.{Store}
use Rattle.bulletin.specs.Text.{bytes_in_order, text_length_of, text_verdict, why_not_held}
use mathlib.Core.Bool.{Bool, true, false, cond}
use Rattle.rows.proofs.Rules.Outcomes.{not_both}
use Rattle.bulletin.specs.Stores.{sound_store, page_behind}
use Rattle.pages.proofs.Ranges.{total-most}
use Rattle.bulletin.proofs.Stores.Counted.{number_of, unheld, found}
use Rattle.bulletin.proofs.Stores.Sound.{sound_parts}
use Rattle.bulletin.proofs.Telling.PageBytes.{text_length-most}

pub all_held : (s : Store) → sound_store s ≡ true → None ≡ unheld s.name.total s.pages → Ok tt ≡ text_verdict s
unfolding text_verdict
all_held s e f = sym (simp (e, sym (ap number_of f ∙ found s.name.total s.pages)))

pub one_not_held : (s : Store) {k mark : ℕ} → sound_store s ≡ true → Some k ≡ unheld s.name.total s.pages → mark ≡ why_not_held (page_behind s k) → Err (NotHeld (k + 1) mark) ≡ text_verdict s
unfolding text_verdict
one_not_held s {k} e f g =
    let number = sym (ap number_of f ∙ found s.name.total s.pages) in
    let same : k + 1 - 1 ≡ k = omega arith in
    sym (simp (e, number, same, ne_eqb (k + 1) 0 (λ z. omega arith), sym g))

-- where a text is told the store is sound
pub fine_sound : (s : Store) → text_verdict s ≡ Ok tt → sound_store s ≡ true
unfolding text_verdict
fine_sound s h = go (sound_store s) refl _ h
  where
    go : (b : Bool) → sound_store s ≡ b → (w : Verdict) → cond b w (Err Unsound) ≡ Ok tt → sound_store s ≡ true
    go true e w h = e
    go false e w h = absurd (not_both (Err Unsound) Unsound h refl)

-- and its text is short
pub fine_most : (s : Store) → text_verdict s ≡ Ok tt → s.name.total ≤ 63
fine_most s h = total-most _ (sound_parts s (fine_sound s h)).0

pub fine_short : (s : Store) (n : ℕ) → text_verdict s ≡ Ok tt → n ≡ text_length_of s → n ≤ 1134
fine_short s n h e = omega (arith, e, fine_most s h, text_length-most (18 * s.name.total) (bytes_in_order s.pages))
