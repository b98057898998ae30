-- The text of a frame (document 01, "The record").
use Rattle.std.specs.Prelude.{List, ℕ, map}
use Rattle.rows.specs.Layout.{Layout}
use Rattle.rows.specs.Values.{cut, filled}

-- the text where the category's table has one, and zeros up to 18 bytes
abbrev pub text_of : List ℕ → Layout → List ℕ
text_of s l = filled 18 (map (cut s) l.text)
