-- Questions that are asked in an order (1 to 7), before the rest.
use Rattle.std.specs.Prelude.{Ok, Err}
use mathlib.Core.Path.{◌≡◌, refl, sym, ap, ◌∙◌, subst}
use mathlib.Core.Bool.{Bool, true, ◌&&◌}
use mathlib.Core.Logic.{inl, inr, ⊎_elim, ◌↔◌}
use Prim.Native.Nat.{ℕ, ◌≤◌, ◌<◌}
use native.Mathlib.Omega.{arith}
use mathlib.Core.List.{List, [], ◌∷◌}
use lib.Dec.{ltb}
use borrow.Author.Tests.{ltb-true}
use Rattle.rows.specs.declared.refusal.Refusal.{Refusal}
use Rattle.rows.specs.Refusals.{says, Verdict}
use Rattle.rows.specs.Runs.Questions.{◌then◌, unless}
use Rattle.rows.specs.Faults.{Question, ◌or◌, First, Met}
use Rattle.rows.proofs.Rules.Outcomes.{unless_fine, unless_refused, fine_both, refused_one, met_then, then_fine, not_both, false_not_true, and_both}

-- v is what these questions answer, and w where all are met
pub record Answers (v : Verdict) (qs : List Question) (w : Verdict) : Type 1 where
  pub met : Met qs → v ≡ w
  pub fine : v ≡ Ok tt → Met qs × (w ≡ Ok tt)
  pub refused : (x : Refusal) (rest : Type 0) → v ≡ Err x → (w ≡ Err x → rest) → First qs x rest

pub unquestioned : (w : Verdict) → Answers w [] w
unquestioned w = record { met = λ m. refl; fine = λ e. (tt, e); refused = λ x rest e f. f e }

-- one question before the others
pub question : {v w : Verdict} {qs : List Question} (b : Bool) (q : Type 0) (r : Refusal) → (b ≡ true → q) → (q → b ≡ true)
    → Answers v qs w → Answers (unless b r then v) (q or r ∷ qs) w
question {v} {w} {qs} b q r f g a = record {
  met = λ m. met_then b r v (g m.0) ∙ a.met m.1;
  fine = λ e.
      let h = fine_both (unless b r) v e in
      let k = a.fine h.1 in
      ((f (unless_fine b r h.0), k.0), k.1);
  refused = λ x rest e k. ⊎_elim
      (λ h. inl (λ y. false_not_true (sym (unless_refused b r x h).0 ∙ g y), (unless_refused b r x h).1))
      (λ h. inr (f (unless_fine b r h.0), a.refused x rest h.1 k))
      (refused_one (unless b r) v x e);
}

-- one question with nothing behind it
pub last_question : (b : Bool) (q : Type 0) (r : Refusal) → (b ≡ true → q) → (q → b ≡ true) → Answers (unless b r) (q or r ∷ []) (Ok tt)
last_question b q r f g = subst (λ (v : Verdict). Answers v (q or r ∷ []) (Ok tt)) (then_fine (unless b r)) (question b q r f g (unquestioned (Ok tt)))

-- ---- where nothing comes behind the questions

pub met_exactly : {v : Verdict} {qs : List Question} → Answers v qs (Ok tt) → v ≡ (Ok tt) ↔ Met qs
met_exactly a = (λ e. (a.fine e).0, λ m. a.met m)

pub first_not_met : {v : Verdict} {qs : List Question} → Answers v qs (Ok tt) → (x : Refusal) → v ≡ Err x → First qs x ⊥
first_not_met a x e = a.refused x ⊥ e (not_both (Ok tt) x refl)

-- ---- by number

-- the numbers of the questions are below n
abbrev pub numbers_below : ℕ → List Question → Bool
numbers_below n [] = true
numbers_below n ((q or r) ∷ qs) = ltb (says r).number n && numbers_below n qs

-- so a refusal with the number n or more comes from the rest
pub past : (n : ℕ) (qs : List Question) (x : Refusal) (rest : Type 0) → numbers_below n qs ≡ true → n ≤ (says x).number
    → First qs x rest → rest
past n [] x rest b h f = f
past n ((q or r) ∷ qs) x rest b h f =
    let k = and_both (ltb (says r).number n) (numbers_below n qs) b in
    ⊎_elim
    (λ u. absurd (other (ltb-true (says r).number n k.0) (ap (λ (y : Refusal). (says y).number) u.1)))
    (λ u. past n qs x rest k.1 h u.1)
    f
  where
    other : (says r).number < n → (says x).number ≡ (says r).number → ⊥
    other p e = omega arith
