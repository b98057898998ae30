-- An equation allows one outcome. There is a law for each form that the contracts have, so that a theorem is one line.
use mathlib.Core.Path.{◌≡◌, refl, ap, sym, ◌∙◌}

-- ---- the one law: two values that equal a third have the same outcome
pub read_off : {W O : Type 0} (outcome : W → O) {a b c : W} → a ≡ c → b ≡ c → outcome a ≡ outcome b
read_off outcome p q = ap outcome (p ∙ sym q)

-- ---- its forms

-- the contract is `r ≡ ..`, and no buffer is lent
pub answer : {A U : Type 0} {x y z : A} {u : U} → x ≡ z → y ≡ z → ◌≡◌ {A = A × U} (x, u) (y, u)
answer {u} = read_off (λ x. (x, u))

-- the contract is `f r ≡ ..`, where f tells any two answers apart
pub told : {A B U : Type 0} (f : A → B) → ((x y : A) → f x ≡ f y → x ≡ y) → {x y : A} {z : B} {u : U} → f x ≡ z → f y ≡ z → ◌≡◌ {A = A × U} (x, u) (y, u)
told f apart {u} p q = read_off (λ x. (x, u)) (apart _ _ (p ∙ sym q)) refl

-- the contract is `now buffer.exit ≡ ..`, and there is no answer
pub buffer : {B U : Type 0} (at : B → U) {b c d : B} → b ≡ d → c ≡ d → ◌≡◌ {A = Unit {0} × U} (tt, at b) (tt, at c)
buffer at = read_off (λ b. (tt, at b))

-- the contract is `(r ≡ ..) × (now buffer.exit ≡ ..)`
pub both : {A B U : Type 0} (at : B → U) {x y z : A} {b c d : B} → (x ≡ z) × (b ≡ d) → (y ≡ z) × (c ≡ d) → ◌≡◌ {A = A × U} (x, at b) (y, at c)
both at p q i = (read_off (λ x. x) p.0 q.0 i, read_off at p.1 q.1 i)

-- a clause beside the equation is not needed
pub beside : {P Q R S C : Type 0} → (P → Q → C) → P × R → Q × S → C
beside law p q = law p.0 q.0

-- ---- which of the parameters is the lent buffer: of one, of two, of two, of three, of four. The last values of the others say nothing
abbrev pub only : {B : Type 0} → B → B × Unit {0}
only b = (b, tt)

abbrev pub first : {B : Type 0} → B → B × (Unit {0} × Unit {0})
first b = (b, (tt, tt))

abbrev pub second : {B : Type 0} → B → Unit {0} × (B × Unit {0})
second b = (tt, (b, tt))

abbrev pub third : {B : Type 0} → B → Unit {0} × (Unit {0} × (B × Unit {0}))
third b = (tt, (tt, (b, tt)))

abbrev pub fourth : {B : Type 0} → B → Unit {0} × (Unit {0} × (Unit {0} × (B × Unit {0})))
fourth b = (tt, (tt, (tt, (b, tt))))
