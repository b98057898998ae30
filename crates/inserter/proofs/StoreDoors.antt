-- The ways through the functions on page stores.
use Rattle.std.specs.Prelude.{Ok, Err}
use mathlib.Core.Path.{◌≡◌, refl, sym}
use mathlib.Core.Bool.{Bool, true, false, ◌&&◌, cond}
use Prim.Native.Nat.{ℕ, ◌*◌, ◌≤◌}
use native.Mathlib.Omega.{arith}
use mathlib.Core.List.{List}
use lib.ListN.{length}
use lib.Dec.{eqb, ltb}
use borrow.Author.Tests.{eq-eqb}
use Rattle.rows.specs.declared.refusal.Refusal.TheVariants.{Short}
use Rattle.rows.specs.Refusals.{outcome, Verdict}
use Rattle.rows.proofs.Rules.Outcomes.{made_outcome}
use Rattle.pages.specs.declared.name.Name.{Name}
use Rattle.bulletin.specs.declared.store.Store.{Store}
use Rattle.bulletin.specs.Stores.{open_of}
use Rattle.bulletin.specs.Text.{bytes_in_order, text_length_of, text_verdict, with_room, text_answer_by, text_answer}
use Rattle.bulletin.proofs.Telling.PageBytes.{text_length-most}
use Rattle.pages.proofs.Ranges.{total-most}
use Rattle.bulletin.proofs.Stores.Sound.{sound_parts}
use Rattle.bulletin.proofs.Telling.TextOutcomes.{fine_sound}
use Rattle.store_bytes.specs.Stores.{store_bytes, store_into, name_from}
use Rattle.inserter.proofs.HandedOver.{fits}
use Rattle.inserter.specs.Answers.{call_result, handed_over, open_into}

-- ---- opening

both : {m a n b : ℕ} → m ≡ a → n ≡ b → eqb m a && eqb n b ≡ true
both {m} {a} {n} {b} e f = rw (eq-eqb m a e) (eq-eqb n b f)

pub into_whole : (s : Store) (l : List ℕ) → length l ≡ 1205 → store_into s l ≡ store_bytes s
unfolding store_into
into_whole s l e = rw (eq-eqb (length l) 1205 e)

pub opening_whole : (name buffer : List ℕ) → length name ≡ 8 → length buffer ≡ 1205
    → open_into name buffer ≡ handed_over (open_of (name_from name)).answer (store_bytes (open_of (name_from name)).store) buffer
unfolding open_into
opening_whole name buffer e f = fits (eqb (length name) 8 && eqb (length buffer) 1205) _ buffer (both e f)

-- what an opening hands back goes into the buffer
pub opened : (n : Name) (s : Store) (buffer : List ℕ) → outcome (open_of n).answer (open_of n).store ≡ Ok s
    → handed_over (open_of n).answer (store_bytes (open_of n).store) buffer ≡ call_result 0 (store_bytes s)
opened n s buffer e =
    let made = made_outcome (open_of n).answer (open_of n).store s e in
    λ i. handed_over (made.0 i) (store_bytes (sym made.1 i)) buffer

-- ---- the text

-- a text has at most 63 pages of 18 bytes
pub text_is_small : (s : Store) (size : ℕ) → (text_answer s size).length ≤ 1134
text_is_small s size = by_verdict (text_verdict s) refl
  where
    n : ℕ
    n = text_length_of s

    by_room : (b : Bool) → n ≤ 1134 → (text_answer_by (cond b (Err Short) (Ok tt)) n).length ≤ 1134
    by_room true h = omega arith
    by_room false h = h

    by_verdict : (v : Verdict) → text_verdict s ≡ v → (text_answer_by (with_room v n size) n).length ≤ 1134
    by_verdict (Ok tt) e =
        let most : s.name.total ≤ 63 = total-most s.name (sound_parts s (fine_sound s e)).0 in
        by_room (ltb size n) (omega (arith, text_length-most (18 * s.name.total) (bytes_in_order s.pages), most))
    by_verdict (Err x) e = omega arith
