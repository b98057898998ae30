-- Bytes that are not those of the body that they give are refused, in their turn.
use Rattle.std.specs.Prelude.{Err}
use mathlib.Core.Path.{◌≡◌, refl, ap, ◌∙◌}
use mathlib.Core.Bool.{Bool, true, false, ◌&&◌, ◌||◌, not}
use lib.Dec.{eqb}
use Prim.Native.Nat.{ℕ, zero, suc, ◌+◌, ◌*◌}
use mathlib.Core.List.{List, [], ◌∷◌, ◌++◌}
use lib.ListN.{length, get_or, drop}
use Rattle.rows.specs.declared.refusal.Refusal.TheVariants.{Unused}
use Rattle.slots.specs.declared.slot.Slot.{Slot}
use Rattle.rows.specs.Runs.Verdict.{allowed, empty}
use Rattle.rows.specs.Values.{each, has_spare, part_widths}
use Rattle.report.specs.Runs.Writing.{known, tidy, write_answer}
use Rattle.slots.specs.Slots.{tidy_slots, slot_parts, vacant}
use Rattle.record_bytes.specs.Unpacked.{slot_at, body_in_bytes, spares_in_bytes, stray, slots_from, misplaced, slots_or_misplaced, text_in_bytes, unpacked_as, unpacked}
use Rattle.report.specs.declared.body.Body.{Body}
use Rattle.rows.specs.Layout.{Layout, Slots}
use Rattle.report.proofs.Categories.{all, layouts, listed}
use Rattle.report.specs.Categories.{layout, preambles}
use borrow.Author.Tests.{not-true}

and-false : (a b : Bool) → b ≡ false → a && b ≡ false
and-false true b e = e
and-false false b e = refl

-- how many of n slots are left behind m
abbrev left : ℕ → ℕ → ℕ
left zero m = zero
left (suc n) zero = suc n
left (suc n) (suc m) = left n m

-- a last slot is asked what its place asks
last_asked : (ws : List ℕ) (n : ℕ) (ss : List Slot) (x : Slot) → tidy_slots ws (left n (length ss)) (x ∷ []) ≡ false → tidy_slots ws n (ss ++ x ∷ []) ≡ false
unfolding tidy_slots
last_asked ws zero [] x e = e
last_asked ws (suc n) [] x e = e
last_asked ws zero (s ∷ ss) x e = and-false (empty (slot_parts s)) (tidy_slots ws zero (ss ++ x ∷ [])) (last_asked ws zero ss x e)
last_asked ws (suc n) (s ∷ ss) x e = and-false (vacant ws (slot_parts s)) (tidy_slots ws n (ss ++ x ∷ [])) (last_asked ws n ss x e)

-- computed of all tables: slot 15 is behind the category's slots, or has no bits for an hour
abbrev refuses_misplaced : Layout → Bool
refuses_misplaced l = not (tidy_slots (part_widths l.slots) (left l.slots.count 15) (misplaced ∷ []))

all_refuse : all refuses_misplaced layouts ≡ true
unfolding tidy_slots vacant empty
all_refuse = refl

untidy : (l : List ℕ) (b : Body) → stray b l ≡ true → tidy (unpacked_as l b) ≡ false
unfolding unpacked_as
untidy l b e =
    let k : Slots = (layout b).slots in
    let blank : Bool = (has_spare (layout b).behind || eqb (spares_in_bytes l b).second 0) && empty (drop (length (layout b).text) (text_in_bytes l)) in
    let ss : List Slot = each 15 (λ i. slot_at l (41 + 12 * i)) in
    let last : slots_or_misplaced (stray b l) (slots_from l) ≡ ss ++ misplaced ∷ [] = ap (λ (x : Bool). slots_or_misplaced x (slots_from l)) e in
    ap (λ (x : List Slot). tidy_slots (part_widths k) k.count x && blank) last
    ∙ ap (λ (x : Bool). x && blank) (last_asked (part_widths k) k.count ss misplaced (not-true _ (listed refuses_misplaced all_refuse b)))

pub stray_refused : (l : List ℕ) → stray (body_in_bytes l) l ≡ true → allowed preambles (get_or l 1 0) ≡ true → known (body_in_bytes l) ≡ true → write_answer (unpacked l) 32 ≡ Err Unused
unfolding write_answer unpacked_as
stray_refused l e p d = simp (p, d, untidy l (body_in_bytes l) e)
