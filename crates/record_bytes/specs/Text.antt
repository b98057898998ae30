-- A text, which records and the pages of a store have: 18 bytes among others.
use Rattle.std.specs.Prelude.{ℕ, ◌+◌, cond, List, length, get_or, replicate, leb}
use Rattle.rows.specs.Values.{each}

-- the text from the byte k on
abbrev pub text_at : List ℕ → ℕ → List ℕ
text_at l k = each 18 (λ i. get_or l (k + i) 0)

-- bytes that do not reach so far have a text of zeros
unfoldable pub text_or_zeros : List ℕ → ℕ → List ℕ
text_or_zeros l k = cond (leb (k + 18) (length l)) (text_at l k) (replicate 18 0)
