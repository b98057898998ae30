-- A sentence with one character between `$` and `*` changed to another.
use Rattle.std.specs.Prelude.{Err}
use mathlib.Core.Path.{◌≡◌, refl, sym, ap, ap₂, ◌∙◌}
use mathlib.Core.Bool.{Bool, true, false}
use mathlib.Core.List.{List, [], ◌∷◌}
use mathlib.Core.Logic.{◌⊎◌, inl, inr}
use Prim.Native.Nat.{ℕ, zero, suc, ◌+◌, ◌*◌, ◌<◌}
use native.Mathlib.Omega.{arith}
use lib.ListN.{length, take, drop, get_or, set, length-take, length-drop}
use lib.Seq.{get_or-set_other, get_or-take}
use Rattle.rows.specs.declared.refusal.Refusal.TheVariants.{Sentence, Checksum}
use Rattle.line.specs.Lines.{worth}
use Rattle.sentence.specs.Sentences.{checksum, between, told_in, has_form, sentence_answer}
use Rattle.sentence.proofs.Checksums.{sum_changed}
use Rattle.sentence.proofs.Forms.{is_18, is_19}
use Rattle.sentence.proofs.Hearing.{around_refused_lem}

take-set : (n : ℕ) (l : List ℕ) (i b : ℕ) → i < n → take n (set l i b) ≡ set (take n l) i b
take-set zero l i b h = absurd (omega arith)
take-set (suc n) [] i b h = refl
take-set (suc n) (x ∷ l) zero b h = refl
take-set (suc n) (x ∷ l) (suc i) b h = ap (λ (r : List ℕ). x ∷ r) (take-set n l i b (omega arith))

between-set : (s : List ℕ) (i b : ℕ) → i < 72 → between (set s (suc i) b) ≡ set (between s) i b
between-set [] i b h = refl
between-set (x ∷ s) i b h = take-set 72 s i b h

between-at : (s : List ℕ) (i : ℕ) → i < 72 → get_or (between s) i 0 ≡ get_or s (suc i) 0
between-at [] i h = refl
between-at (x ∷ s) i h = get_or-take 72 s i 0 h

told_set : (s : List ℕ) (i b : ℕ) → i < 72 → told_in (set s (suc i) b) ≡ told_in s
unfolding told_in
told_set s i b h = ap₂ (λ (x y : ℕ). worth x * 16 + worth y) (get_or-set_other s (suc i) 74 b 0 (λ e. omega arith)) (get_or-set_other s (suc i) 75 b 0 (λ e. omega arith))

module _ (s : List ℕ) (i b : ℕ) (h : i < 72) (other : b ≡ get_or s (suc i) 0 → ⊥) (long : length s ≡ 78) where
  sum_differs : checksum (between (set s (suc i) b)) ≡ checksum (between s) → ⊥
  sum_differs e =
      let there : i < length (between s) = omega (arith, length-take 72 (drop 1 s), length-drop 1 s) in
      other (sum_changed (between s) i b there (sym (ap checksum (between-set s i b h)) ∙ e) ∙ between-at s i h)

  pub changed_refused : checksum (between s) ≡ told_in s → (sentence_answer (set s (suc i) b) ≡ Err Sentence) ⊎ (sentence_answer (set s (suc i) b) ≡ Err Checksum)
  changed_refused told = by (has_form t) refl
    where
      t : List ℕ
      t = set s (suc i) b

      by : (f : Bool) → has_form t ≡ f → (sentence_answer t ≡ Err Sentence) ⊎ (sentence_answer t ≡ Err Checksum)
      by false e = inl (around_refused_lem t Sentence (is_18 t e))
      by true e = inr (around_refused_lem t Checksum (is_19 t e (λ q. sum_differs (q ∙ told_set s i b h ∙ sym told))))
