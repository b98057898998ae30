-- A store's bytes through calls of `lz_take`.
use Rattle.std.specs.Prelude.{List, [], ◌∷◌, ℕ}
use Rattle.inserter.specs.Answers.{take_into}

-- what is left in the buffer after these records' bytes were passed one behind the other, whatever was answered
abbrev pub takes_into : List ℕ → List (List ℕ) → List ℕ
takes_into buffer [] = buffer
takes_into buffer (bytes ∷ more) = takes_into (take_into buffer bytes).buffer more
