-- What a place says (document 01, "The frame on the wire").
use Rattle.std.specs.Prelude.{ℕ, ◌/◌, ◌&&◌, cond, leb, Option, Some, None}

-- "A place divided by 100000, remainder dropped, is its prefecture, 1 to 47"
unfoldable pub prefecture_of : ℕ → Option ℕ
prefecture_of place = cond (leb 100000 place && leb place 4799999) (Some (place / 100000)) None
