-- What a frame must be, as a list of document 01's rules without an order.
use Rattle.std.specs.Prelude.{ℕ, ◌≡◌, List, length}
use Rattle.bits.specs.Frame.{field_of}
use Rattle.parity.specs.Parity.{parity_of}
use Rattle.report.specs.Records.{body_of}
use Rattle.rows.specs.Values.{values_of}
use Rattle.rows.specs.Kept.{Holds, In}
use Rattle.report.specs.Categories.{categories, layout, preambles}

pub record Conforms (s : List ℕ) : Type 0 where
  pub long : length s ≡ 32
  pub padding : field_of s 250 6 ≡ 0
  pub preamble : In preambles (field_of s 0 8)
  pub parity : parity_of s ≡ field_of s 226 24
  pub message : field_of s 8 6 ≡ 43
  pub version : field_of s 214 6 ≡ 1
  pub category : In categories (field_of s 17 4)
  pub rows : Holds (layout (body_of s)) (values_of s (layout (body_of s)))
