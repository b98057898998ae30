-- The numbers that are answered in place of a refusal do not reach the high byte.
use Rattle.std.specs.Prelude.{Ok, Err}
use Rattle.rows.specs.Refusals.{Verdict}
use mathlib.Core.Path.{◌≡◌, refl}
use mathlib.Core.Bool.{Bool, true, false, cond}
use Prim.Native.Nat.{ℕ, suc, ◌^◌, ◌≤◌, ◌<◌}
use native.Mathlib.Omega.{arith}
use mathlib.Core.List.{List, [], ◌∷◌}
use lib.ListN.{length}
use lib.Dec.{eqb}
use Rattle.rows.specs.declared.refusal.Refusal.TheVariants.{Unsound}
use Rattle.pages.specs.declared.page.Page.{Page}
use Rattle.bulletin.specs.declared.store.Store.{Store}
use Rattle.bulletin.specs.Stores.{sound_store, zero_store}
use Rattle.bulletin.specs.Counts.{count_marked, count_of, lowest_not_held, Counted}
use Rattle.bulletin.specs.Text.{text_answer}
use Rattle.bulletin.proofs.Stores.Counted.{lowest-most}
use Rattle.store_bytes.specs.Stores.{store_from, store_or_zeros}
use Rattle.parity.specs.Parity.{parity_of}
use Rattle.parity.proofs.Claims.{parity_fits_its_field}
use Rattle.inserter.specs.Answers.{count_answer, count_word_by, word_bytes}
use Rattle.inserter.proofs.Refusing.{four_bytes}
use Rattle.inserter.proofs.StoreDoors.{text_is_small}

-- ---- a report

one_more : (b : Bool) (m n : ℕ) → m ≤ n → cond b (suc m) m ≤ suc n
one_more true m n h = omega arith
one_more false m n h = omega arith

marked_most : (k : ℕ) (ps : List Page) → count_marked k ps ≤ length ps
unfolding count_marked
marked_most k [] = omega arith
marked_most k (p ∷ ps) = one_more (eqb p.mark k) (count_marked k ps) (length ps) (marked_most k ps)

record Few (c : Counted) : Type 0 where
  held : c.held ≤ 63
  disputed : c.disputed ≤ 63
  lowest : c.lowest ≤ 63

few : (s : Store) → length s.pages ≡ 63 → Few (count_of s)
unfolding count_of
few s n = by (sound_store s)
  where
    told : Counted
    told = record { answer = Ok tt; held = count_marked 1 s.pages; disputed = count_marked 2 s.pages; lowest = lowest_not_held s.name.total 0 s.pages }

    none : Counted
    none = record { answer = Err Unsound; held = 0; disputed = 0; lowest = 0 }

    by : (b : Bool) → Few (cond b told none)
    by true = record {
      held = omega (arith, n, marked_most 1 s.pages);
      disputed = omega (arith, n, marked_most 2 s.pages);
      lowest = omega (arith, n, lowest-most s.name.total s.pages 0);
    }
    by false = record { held = omega arith; disputed = omega arith; lowest = omega arith }

pages_long : (store : List ℕ) → length (store_or_zeros store).pages ≡ 63
unfolding store_or_zeros
pages_long store = by (eqb (length store) 1205)
  where
    by : (b : Bool) → length (cond b (store_from store) zero_store).pages ≡ 63
    by true = refl
    by false = refl

low : (v : Verdict) (c : Counted) → v ≡ Ok tt → Few c → count_word_by v c < 2 ^ 24
low v c e f = rw e (omega (arith, f.held, f.disputed, f.lowest))

pub report_is_low : (store : List ℕ) → (count_of (store_or_zeros store)).answer ≡ Ok tt
    → ((count_of (store_or_zeros store)).held ≤ 63) × ((count_of (store_or_zeros store)).disputed ≤ 63) × ((count_of (store_or_zeros store)).lowest ≤ 63) × (count_answer store < 2 ^ 24)
report_is_low store e =
    let c = count_of (store_or_zeros store) in
    let f = few (store_or_zeros store) (pages_long store) in
    (f.held, f.disputed, f.lowest, low c.answer c e f)

told : (v : Verdict) (c : Counted) → v ≡ Ok tt → Few c → word_bytes (count_word_by v c) ≡ 0 ∷ c.held ∷ c.disputed ∷ c.lowest ∷ []
told v c e f =
    rw e (four_bytes (record { number = 0; place = c.held; value = 0; page = c.disputed; mark = c.lowest })
    (record { place = omega (arith, f.held); page = omega (arith, f.disputed); mark = omega (arith, f.lowest) }))

pub report_in_bytes : (store : List ℕ) → (count_of (store_or_zeros store)).answer ≡ Ok tt
    → word_bytes (count_answer store) ≡ 0 ∷ (count_of (store_or_zeros store)).held ∷ (count_of (store_or_zeros store)).disputed ∷ (count_of (store_or_zeros store)).lowest ∷ []
report_in_bytes store e = told (count_of (store_or_zeros store)).answer (count_of (store_or_zeros store)) e (few (store_or_zeros store) (pages_long store))

-- ---- a text, a parity

pub text_is_low : (store : List ℕ) (size : ℕ) → (text_answer (store_or_zeros store) size).length ≤ 1134
text_is_low store size = text_is_small (store_or_zeros store) size

pub parity_is_low : (frame : List ℕ) → parity_of frame < 2 ^ 24
parity_is_low = parity_fits_its_field
