-- The form of a sentence, test by test, and what is answered of what stands around its digits.
use Rattle.std.specs.Prelude.{Ok}
use Rattle.rows.specs.Refusals.{Verdict}
use mathlib.Core.Path.{◌≡◌, refl, sym, ap}
use mathlib.Core.Bool.{true, false, ◌&&◌}
use mathlib.Core.List.{List, [], ◌∷◌}
use Prim.Native.Nat.{ℕ, zero, suc, ◌≤◌, ◌<◌}
use native.Mathlib.Omega.{arith}
use borrow.Author.Tests.{eq-eqb, ne_eqb, eqb-true}
use lib.Dec.{eqb}
use lib.ListN.{length, get_or}
use Rattle.rows.specs.declared.refusal.Refusal.TheVariants.{Sentence, Checksum, Satellite}
use Rattle.rows.specs.Runs.Verdict.{allowed}
use Rattle.rows.proofs.Rules.Outcomes.{and_both, both_and, false_not_true}
use Rattle.rows.proofs.Rules.Spans.{allowed_in, in_allowed}
use Rattle.line.specs.Lines.{digits}
use Rattle.sentence.specs.Sentences.{head, comma, star, satellites, checksum, between, begins, satellite_in, told_in, has_form, around_refused, around_as, around_answer, around_of, Around}
use Rattle.sentence.specs.Reasons.{Formed}

-- ---- what a sentence begins with

begins-at : (h s : List ℕ) → begins h s ≡ true → (i : ℕ) → i < length h → get_or s i 0 ≡ get_or h i 0
unfolding begins
begins-at [] s e i k = absurd (none k)
  where
    none : i < 0 → ⊥
    none k = omega arith
begins-at (x ∷ h) [] e i k = absurd (false_not_true e)
begins-at (x ∷ h) (b ∷ s) e zero k = eqb-true b x (and_both (eqb b x) (begins h s) e).0
begins-at (x ∷ h) (b ∷ s) e (suc i) k = begins-at h s (and_both (eqb b x) (begins h s) e).1 i (omega arith)

pub at-begins : (h s : List ℕ) → length h ≤ length s → ((i : ℕ) → i < length h → get_or s i 0 ≡ get_or h i 0) → begins h s ≡ true
unfolding begins
at-begins [] s n f = refl
at-begins (x ∷ h) [] n f = absurd (omega arith)
at-begins (x ∷ h) (b ∷ s) n f = both_and (eqb b x) (begins h s) (eq-eqb b x (f 0 (omega arith))) (at-begins h s (omega arith) (λ i k. f (suc i) (omega arith)))

-- ---- 18

pub formed : (s : List ℕ) → has_form s ≡ true → Formed s
unfolding has_form
formed s e =
    let feed = and_both (eqb (length s) 78 && begins head s && (eqb (get_or s 9 0) comma && eqb (get_or s 73 0) star && eqb (get_or s 76 0) 0x0D) && (allowed digits (get_or s 74 0) && allowed digits (get_or s 75 0))) (eqb (get_or s 77 0) 0x0A) e in
    let sums = and_both (eqb (length s) 78 && begins head s && (eqb (get_or s 9 0) comma && eqb (get_or s 73 0) star && eqb (get_or s 76 0) 0x0D)) (allowed digits (get_or s 74 0) && allowed digits (get_or s 75 0)) feed.0 in
    let two = and_both (allowed digits (get_or s 74 0)) (allowed digits (get_or s 75 0)) sums.1 in
    let marks = and_both (eqb (length s) 78 && begins head s) (eqb (get_or s 9 0) comma && eqb (get_or s 73 0) star && eqb (get_or s 76 0) 0x0D) sums.0 in
    let end = and_both (eqb (get_or s 9 0) comma && eqb (get_or s 73 0) star) (eqb (get_or s 76 0) 0x0D) marks.1 in
    let inner = and_both (eqb (get_or s 9 0) comma) (eqb (get_or s 73 0) star) end.0 in
    let front = and_both (eqb (length s) 78) (begins head s) marks.0 in
    record {
      long = eqb-true (length s) 78 front.0;
      headed = begins-at head s front.1;
      parted = eqb-true (get_or s 9 0) comma inner.0;
      starred = eqb-true (get_or s 73 0) star inner.1;
      checked = (allowed_in digits (get_or s 74 0) two.0, allowed_in digits (get_or s 75 0) two.1);
      ended = (eqb-true (get_or s 76 0) 0x0D end.1, eqb-true (get_or s 77 0) 0x0A feed.1);
    }

pub form_of : (s : List ℕ) → Formed s → has_form s ≡ true
unfolding has_form
form_of s f =
    let long : eqb (length s) 78 ≡ true = eq-eqb (length s) 78 f.long in
    let front : begins head s ≡ true = at-begins head s (omega (arith, f.long)) f.headed in
    simp (long, front, eq-eqb (get_or s 9 0) comma f.parted, eq-eqb (get_or s 73 0) star f.starred, eq-eqb (get_or s 76 0) 0x0D f.ended.0, eq-eqb (get_or s 77 0) 0x0A f.ended.1, in_allowed digits (get_or s 74 0) f.checked.0, in_allowed digits (get_or s 75 0) f.checked.1)

-- ---- 18, 19, 20, or the satellite

module _ (s : List ℕ) where
  pub is_18 : has_form s ≡ false → around_refused Sentence ≡ around_of s
  unfolding around_of around_answer
  is_18 e = simp e

  pub is_19 : has_form s ≡ true → (checksum (between s) ≡ told_in s → ⊥) → around_refused Checksum ≡ around_of s
  unfolding around_of around_answer
  is_19 e n = simp (e, ne_eqb (checksum (between s)) (told_in s) n)

  pub is_20 : has_form s ≡ true → checksum (between s) ≡ told_in s → allowed satellites (satellite_in s) ≡ false → around_refused Satellite ≡ around_of s
  unfolding around_of around_answer
  is_20 e m n = simp (e, eq-eqb (checksum (between s)) (told_in s) m, n)

  pub all_three : has_form s ≡ true → checksum (between s) ≡ told_in s → allowed satellites (satellite_in s) ≡ true → around_answer s ≡ Ok tt
  unfolding around_answer
  all_three e m n = simp (e, eq-eqb (checksum (between s)) (told_in s) m, n)

  pub is_fine_lem : has_form s ≡ true → checksum (between s) ≡ told_in s → allowed satellites (satellite_in s) ≡ true → ◌≡◌ {A = Around} (record { answer = Ok tt; satellite = satellite_in s }) (around_of s)
  unfolding around_of
  is_fine_lem e m n = sym (ap (λ (v : Verdict). around_as v s) (all_three e m n))
