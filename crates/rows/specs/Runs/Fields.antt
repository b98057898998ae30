-- A category's table and the values of its rows as code hands them on.
use Rattle.std.specs.Prelude.{Bool, cond, false, true, List, [], ◌∷◌, ℕ, suc, ◌*◌, ◌%◌, ◌^◌, eqb, leb, get_or}
use Rattle.rows.specs.declared.fields.Fields.{Fields}
use Rattle.rows.specs.Layout.{Layout, Row}
use Rattle.rows.specs.Values.{Sides, filled, has_spare, part_widths, widths}
use Rattle.rows.specs.declared.fields.Table.{Table}

-- whether there is a row at all
abbrev pub has_rows : List Row → Bool
has_rows [] = false
has_rows (r ∷ rs) = true

-- what a category's table says in numbers
abbrev pub table_in : Layout → Table
table_in l = record {
  code = l.code;
  count = l.slots.count;
  widths = part_widths l.slots;
  text = has_rows l.text;
  second = has_spare l.behind;
}

-- and the values of its rows with their widths; behind the last row there are no bits
abbrev pub fields_in : Layout → Sides → Fields
fields_in l v = record {
  table = table_in l;
  ahead = filled 18 (widths l.front);
  front = filled 18 v.front;
  after = filled 3 (widths l.behind);
  behind = filled 3 v.behind;
}

-- ---- numbers of any size as fields of a record

-- the bytes that a field of so many bits has in a record
abbrev pub bytes_for : ℕ → ℕ
bytes_for w = cond (eqb w 0) 0 (cond (leb w 8) 1 (cond (leb w 16) 2 (cond (leb w 32) 4 8)))

-- what the fields keep of the numbers from the one at k on
abbrev pub kept_from : List Row → List ℕ → ℕ → List ℕ
kept_from [] vs k = []
kept_from (r ∷ rs) vs k = get_or vs k 0 % 2 ^ (8 * bytes_for r.width) ∷ kept_from rs vs (suc k)

-- for the rows in front and behind
abbrev pub kept_in : List ℕ → List ℕ → Layout → Sides
kept_in front behind l = record { front = kept_from l.front front 0; behind = kept_from l.behind behind 0 }
