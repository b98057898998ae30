-- The listing of a whole input (document 01, "The listing").
use Rattle.std.specs.Prelude.{ℕ, suc, cond, List, [], ◌∷◌, ◌++◌, ltb, eqb}
use Rattle.line.specs.Lines.{line_reading}
use Rattle.listing.specs.Rows.{row_of, row_text, heading_text, cut_text}

-- a byte in front of the first line
unfoldable pub onto : ℕ → List (List ℕ) → List (List ℕ)
onto b [] = (b ∷ []) ∷ []
onto b (l ∷ ls) = (b ∷ l) ∷ ls

-- "Lines end at a line feed; the last may lack it"
unfoldable pub lines_of : List ℕ → List (List ℕ)
lines_of [] = []
lines_of (b ∷ r) = cond (eqb b 10) ([] ∷ lines_of r) (onto b (lines_of r))

-- the text of line n
unfoldable pub line_row : ℕ → List ℕ → List ℕ
line_row n l = row_text n (row_of (line_reading l))

-- "At most 1,000,000 lines are read"
unfoldable pub limit : ℕ
limit = 1000000

-- the rows of the lines behind line n: "if more follow, a last line `cut - - - -` is printed", with a fifth dash
unfoldable pub rows_from : ℕ → List (List ℕ) → List ℕ
rows_from n [] = []
rows_from n (l ∷ ls) = cond (ltb n limit) (line_row (suc n) l ++ rows_from (suc n) ls) cut_text

-- "prints a heading and one line a frame"
unfoldable pub listing : List ℕ → List ℕ
listing input = heading_text ++ rows_from 0 (lines_of input)
