-- A number of 256 bits in four words of 64, as code holds it, and fields put behind what stands in it: how a frame is put
-- together.
use Rattle.std.specs.Prelude.{ℕ, ◌+◌, ◌-◌, ◌*◌, ◌/◌, ◌%◌, ◌^◌, cond, List, [], ◌∷◌, eqb}
use Rattle.std.specs.Int.Bits.{bit_or}
use Rattle.bits.specs.declared.words.Words.{Words}

-- the number that the words are
abbrev pub value_of : Words → ℕ
value_of x = ((x.first * 2 ^ 64 + x.second) * 2 ^ 64 + x.third) * 2 ^ 64 + x.last

-- the words of a number of at most 64 bits
abbrev pub words_of : ℕ → Words
words_of n = record { first = 0; second = 0; third = 0; last = n }

-- a word moved up by w bits, with the first w bits of the word behind it
abbrev pub carried : ℕ → ℕ → ℕ → ℕ
carried high low w = bit_or (high * 2 ^ w % 2 ^ 64) (low / 2 ^ (64 - w))

-- all words moved up by w bits, and v behind them
abbrev pub moved : Words → ℕ → ℕ → Words
moved x w v = record {
  first = carried x.first x.second w;
  second = carried x.second x.third w;
  third = carried x.third x.last w;
  last = bit_or (x.last * 2 ^ w % 2 ^ 64) v;
}

-- the same for any width: up to 63 bits count, and a field without bits leaves the words as they are
unfoldable pub pushed : Words → ℕ → ℕ → Words
pushed x w v = cond (eqb (w % 64) 0) x (moved x (w % 64) v)

-- the values vs in the widths ws, one behind the other
abbrev pub pushed_all : Words → List ℕ → List ℕ → Words
pushed_all x [] vs = x
pushed_all x (w ∷ ws) [] = x
pushed_all x (w ∷ ws) (v ∷ vs) = pushed_all (pushed x w v) ws vs

-- the same, up to the first width without bits
unfoldable pub pushed_until : Words → List ℕ → List ℕ → Words
pushed_until x [] vs = x
pushed_until x (w ∷ ws) [] = x
pushed_until x (w ∷ ws) (v ∷ vs) = cond (eqb (w % 64) 0) x (pushed_until (pushed x (w % 64) v) ws vs)
