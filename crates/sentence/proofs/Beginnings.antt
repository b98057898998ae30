-- What a line begins with, as the library asks it.
use mathlib.Core.Path.{◌≡◌, refl, ap₂}
use mathlib.Core.Bool.{◌&&◌}
use mathlib.Core.List.{List, [], ◌∷◌}
use Prim.Native.Nat.{ℕ}
use native.Mathlib.Omega.{arith}
use lib.Dec.{eqb}
use Rattle.std.proofs.lemmas.Bool.Decides.{nat_tests}
use Rattle.std.specs.List.{starts_with}
use Rattle.sentence.specs.Sentences.{begins}

same_either_way : (a b : ℕ) → eqb a b ≡ eqb b a
same_either_way a b = grind (arith, nat_tests)

pub starts_begins : (s head : List ℕ) → starts_with eqb s head ≡ begins head s
unfolding begins
starts_begins s [] = refl
starts_begins [] (h ∷ hs) = refl
starts_begins (b ∷ s) (h ∷ hs) = ap₂ ◌&&◌ (same_either_way h b) (starts_begins s hs)
