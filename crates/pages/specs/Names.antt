-- The name of a bulletin: "Rc, issue time, It, Is and page total".
use Rattle.std.specs.Prelude.{Bool, true, false, ◌&&◌, eqb, replicate, [], Ok, Err}
use Rattle.rows.specs.declared.refusal.Said.{Said}
use Rattle.rows.specs.Refusals.{answers, Verdict}
use Rattle.nankai.specs.Nankai.{nankai, number_values}
use Rattle.rows.specs.Runs.Verdict.{verdict}
use Rattle.pages.specs.declared.name.Name.{Name}
use Rattle.rows.specs.declared.common.Common.{Common}
use Rattle.nankai.specs.declared.PageNumbers.{PageNumbers}
use Rattle.rows.specs.Values.{Values, head_values, last_values, no_spares}

abbrev pub zero_name : Name
zero_name = record { common = record { rc = 0; month = 0; day = 0; hour = 0; minute = 0; it = 0 }; serial = 0; total = 0 }

-- the numbers of page 1 of the bulletin
abbrev pub page_one : Name → PageNumbers
page_one n = record { serial = n.serial; number = 1; total = n.total }

-- the values of a frame with that page and without text: what stands in it beside the name passes
abbrev pub name_values : Name → Values
name_values n = record {
  head = head_values n.common 4;
  front = (number_values (page_one n) no_spares).front;
  slots = [];
  text = replicate 18 0;
  behind = (number_values (page_one n) no_spares).behind;
  last = last_values 0;
}

-- "Opening: 8 at the first bad value in frame order; the total is 1-63, at bit 207": what the table of category 4 says of
-- that page, whose total is at least the page number, 1
unfoldable pub name_verdict : Name → Verdict
name_verdict n = verdict nankai (name_values n)

-- what that says, in the paper's numbers
abbrev pub name_says : Name → Said
name_says n = answers (name_verdict n)

abbrev pub is_fine : Verdict → Bool
is_fine (Ok tt) = true
is_fine (Err x) = false

abbrev pub name_in_range : Name → Bool
name_in_range n = is_fine (name_verdict n)

unfoldable pub same_common : Common → Common → Bool
same_common a b =
    eqb a.rc b.rc
    && (eqb a.month b.month && (eqb a.day b.day && (eqb a.hour b.hour && (eqb a.minute b.minute && eqb a.it b.it))))

unfoldable pub same_name : Name → Name → Bool
same_name a b = same_common a.common b.common && (eqb a.serial b.serial && eqb a.total b.total)
