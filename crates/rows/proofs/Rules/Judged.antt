-- A stretch of a frame: its verdict, what must hold there, and the faults that may stand there.
use Rattle.std.specs.Prelude.{Ok, Err}
use mathlib.Core.Path.{◌≡◌, refl}
use mathlib.Core.Bool.{Bool, true, false, cond}
use mathlib.Core.Logic.{◌⊎◌, inl, inr, ⊎_elim}
use Prim.Native.Nat.{ℕ, ◌+◌, ◌≤◌}
use native.Mathlib.Omega.{arith}
use lib.Dec.{eqb}
use Rattle.rows.specs.declared.refusal.Refusal.{Refusal}
use Rattle.rows.specs.Refusals.{says, Verdict}
use Rattle.rows.specs.Runs.Questions.{◌then◌, unless}
use Rattle.rows.specs.Faults.{place}
use Rattle.rows.proofs.Rules.Outcomes.{not_both, unless_true, unless_fine, unless_refused, both_fine, fine_both, refused_one, false_not_true}

-- when a fault is asked for: two turns a bit, the first for the gap (10), the second for a field (8)
abbrev pub turn : Refusal → ℕ
turn x = place x + place x + cond (eqb (says x).number 10) 0 1

-- from bit a up to bit e, of which e is not part
pub record Judges (a e : ℕ) (v : Verdict) (Good : Type 0) (Bad : Refusal → Type 0) : Type 0 where
  pub ordered : a ≤ e
  pub passes : Good → v ≡ Ok tt
  pub passed : v ≡ Ok tt → Good
  pub found : (x : Refusal) → v ≡ Err x → Bad x
  pub earliest : (x y : Refusal) → v ≡ Err x → Bad y → turn x ≤ turn y
  pub lower : (y : Refusal) → Bad y → a + a ≤ turn y
  pub upper : (y : Refusal) → Bad y → turn y ≤ e + e
  pub clean : (y : Refusal) → Good → Bad y → ⊥

-- nothing is asked
pub unasked : (a e : ℕ) → a ≤ e → Judges a e (Ok tt) Unit (λ y. ⊥)
unasked a e h = record {
  ordered = h;
  passes = λ g. refl;
  passed = λ f. tt;
  found = λ x f. not_both (Ok tt) x refl f;
  earliest = λ x y f b. absurd b;
  lower = λ y b. absurd b;
  upper = λ y b. absurd b;
  clean = λ y g b. b;
}

-- one question
pub asked : (a e : ℕ) (b : Bool) (x : Refusal) (P : Type 0) → (b ≡ true → P) → (P → b ≡ true) → a + a ≤ turn x → turn x ≤ e + e
    → Judges a e (unless b x) P (λ y. (P → ⊥) × (y ≡ x))
asked a e b x P f g h k = record {
  ordered = omega arith;
  passes = λ p. unless_true b x (g p);
  passed = λ q. f (unless_fine b x q);
  found = λ y q. (λ p. not_both (unless b x) y (unless_true b x (g p)) q, (unless_refused b x y q).1);
  earliest = λ y z q c. same y z (unless_refused b x y q).1 c.1;
  lower = λ y c. above y c.1;
  upper = λ y c. under y c.1;
  clean = λ y p c. c.0 p;
}
  where
    same : (y z : Refusal) → y ≡ x → z ≡ x → turn y ≤ turn z
    same y z p q = rw (p, q) (omega arith)

    above : (y : Refusal) → y ≡ x → a + a ≤ turn y
    above y p = rw p h

    under : (y : Refusal) → y ≡ x → turn y ≤ e + e
    under y p = rw p k

-- one stretch behind the other
pub join : {a m e : ℕ} {v w : Verdict} {G H : Type 0} {B C : Refusal → Type 0} → Judges a m v G B → Judges m e w H C
    → Judges a e (v then w) (G × H) (λ x. B x ⊎ C x)
join {a} {m} {e} {v} {w} {G} {H} {B} {C} j k = record {
  ordered = omega arith;
  passes = λ g. both_fine v w (j.passes g.0) (k.passes g.1);
  passed = λ f. (j.passed (fine_both v w f).0, k.passed (fine_both v w f).1);
  found = λ x f. ⊎_elim (λ p. inl (j.found x p)) (λ p. inr (k.found x p.1)) (refused_one v w x f);
  earliest = λ x y f. ⊎_elim (first x y (refused_one v w x f)) (second x y (refused_one v w x f));
  lower = λ y. ⊎_elim (λ b. j.lower y b) (λ c. low y (k.lower y c));
  upper = λ y. ⊎_elim (λ b. high y (j.upper y b)) (λ c. k.upper y c);
  clean = λ y g. ⊎_elim (λ b. j.clean y g.0 b) (λ c. k.clean y g.1 c);
}
  where
    low : (y : Refusal) → m + m ≤ turn y → a + a ≤ turn y
    low y h = omega (arith, j.ordered)

    high : (y : Refusal) → turn y ≤ m + m → turn y ≤ e + e
    high y h = omega (arith, k.ordered)

    across : (x y : Refusal) → turn x ≤ m + m → m + m ≤ turn y → turn x ≤ turn y
    across x y p q = omega arith

    first : (x y : Refusal) → (v ≡ Err x) ⊎ ((v ≡ Ok tt) × (w ≡ Err x)) → B y → turn x ≤ turn y
    first x y (inl p) b = j.earliest x y p b
    first x y (inr p) b = absurd (j.clean y (j.passed p.0) b)

    second : (x y : Refusal) → (v ≡ Err x) ⊎ ((v ≡ Ok tt) × (w ≡ Err x)) → C y → turn x ≤ turn y
    second x y (inl p) c = across x y (j.upper x (j.found x p)) (k.lower y c)
    second x y (inr p) c = k.earliest x y p.1 c

-- one of two, by a test
pub choice : {a e : ℕ} {v w : Verdict} {G H : Type 0} {B C : Refusal → Type 0} (b : Bool) (P : Type 0) → (b ≡ true → P) → (P → b ≡ true)
    → Judges a e v G B → Judges a e w H C
    → Judges a e (cond b v w) ((P × G) ⊎ ((P → ⊥) × H)) (λ x. (P × B x) ⊎ ((P → ⊥) × C x))
choice {a} {e} {v} {w} {G} {H} {B} {C} true P f g j k = let p = f refl in record {
  ordered = j.ordered;
  passes = ⊎_elim (λ q. j.passes q.1) (λ q. absurd (q.0 p));
  passed = λ q. inl (p, j.passed q);
  found = λ x q. inl (p, j.found x q);
  earliest = λ x y q. ⊎_elim (λ b. j.earliest x y q b.1) (λ c. absurd (c.0 p));
  lower = λ y. ⊎_elim (λ b. j.lower y b.1) (λ c. absurd (c.0 p));
  upper = λ y. ⊎_elim (λ b. j.upper y b.1) (λ c. absurd (c.0 p));
  clean = λ y. ⊎_elim (λ q. ⊎_elim (λ b. j.clean y q.1 b.1) (λ c. c.0 p)) (λ q. absurd (q.0 p));
}
choice {a} {e} {v} {w} {G} {H} {B} {C} false P f g j k = let n : P → ⊥ = λ p. false_not_true (g p) in record {
  ordered = k.ordered;
  passes = ⊎_elim (λ q. absurd (n q.0)) (λ q. k.passes q.1);
  passed = λ q. inr (n, k.passed q);
  found = λ x q. inr (n, k.found x q);
  earliest = λ x y q. ⊎_elim (λ b. absurd (n b.0)) (λ c. k.earliest x y q c.1);
  lower = λ y. ⊎_elim (λ b. absurd (n b.0)) (λ c. k.lower y c.1);
  upper = λ y. ⊎_elim (λ b. absurd (n b.0)) (λ c. k.upper y c.1);
  clean = λ y. ⊎_elim (λ q. absurd (n q.0)) (λ q. ⊎_elim (λ b. n b.0) (λ c. k.clean y q.1 c.1));
}

-- the same in other words
pub restated : {a e : ℕ} {v : Verdict} {G H : Type 0} {B C : Refusal → Type 0} → Judges a e v G B → (G → H) → (H → G)
    → ((x : Refusal) → B x → C x) → ((x : Refusal) → C x → B x) → Judges a e v H C
restated j f g p q = record {
  ordered = j.ordered;
  passes = λ h. j.passes (g h);
  passed = λ e. f (j.passed e);
  found = λ x e. p x (j.found x e);
  earliest = λ x y e c. j.earliest x y e (q y c);
  lower = λ y c. j.lower y (q y c);
  upper = λ y c. j.upper y (q y c);
  clean = λ y h c. j.clean y (g h) (q y c);
}

-- the same of a wider stretch
pub widened : {a e : ℕ} {v : Verdict} {G : Type 0} {B : Refusal → Type 0} (b f : ℕ) → b ≤ a → e ≤ f → Judges a e v G B → Judges b f v G B
widened {a} {e} {v} {G} {B} b f h k j = record {
  ordered = omega arith;
  passes = j.passes;
  passed = j.passed;
  found = j.found;
  earliest = j.earliest;
  lower = λ y c. low y (j.lower y c);
  upper = λ y c. high y (j.upper y c);
  clean = j.clean;
}
  where
    low : (y : Refusal) → a + a ≤ turn y → b + b ≤ turn y
    low y p = omega arith

    high : (y : Refusal) → turn y ≤ e + e → turn y ≤ f + f
    high y p = omega arith

by_place : (p q i j : ℕ) → j ≤ 1 → p + p + i ≤ q + q + j → p ≤ q
by_place p q i j h k = omega arith

at_most_one : (b : Bool) → cond b 0 1 ≤ 1
at_most_one true = omega arith
at_most_one false = omega arith

pub turn-place : (x y : Refusal) → turn x ≤ turn y → place x ≤ place y
turn-place x y h = by_place (place x) (place y) _ _ (at_most_one (eqb (says y).number 10)) h
