-- "A bulletin called complete because as many frames came as it has pages: one may have come twice" (document 01, "Readings
-- that look right").
use Rattle.std.specs.Prelude.{refl, ℕ, List, [], ◌∷◌, replicate}
use Rattle.rows.specs.declared.fields.Spares.{Spares}
use Rattle.rows.specs.Values.{no_spares}
use Rattle.slots.specs.Slots.{no_slot}
use Rattle.pages.specs.declared.name.Name.{Name}
use Rattle.histories.specs.Frames.{Frame}
use Rattle.report.specs.declared.body.Body.TheVariants.{Nankai}

-- a bulletin of two pages
abbrev pub of_two_pages : Name
of_two_pages = record { common = record { rc = 7; month = 3; day = 11; hour = 14; minute = 46; it = 0 }; serial = 1; total = 2 }

-- a frame of a page of it, with this preamble, Reserved and spares
abbrev frame_with : ℕ → ℕ → Spares → ℕ → Frame
frame_with preamble reserved spares p = record {
  came = record {
    preamble = preamble;
    reserved = reserved;
    common = of_two_pages.common;
    body = Nankai (record { serial = 1; number = p; total = 2 });
    slots = replicate 16 no_slot;
    text = replicate 18 65;
    spares = spares;
  };
  slots = refl;
  text = refl;
}

abbrev pub frame_paged : ℕ → Frame
frame_paged p = frame_with 0x53 0 no_spares p

-- another frame of the same page, with every bit of Reserved and of the spares set
abbrev pub sent_again : ℕ → Frame
sent_again p = frame_with 0xC6 63 (record { first = 1023; second = 1 }) p

-- the first page came twice
abbrev pub came_twice : List Frame
came_twice = frame_paged 1 ∷ sent_again 1 ∷ []

-- each page came once
abbrev pub came_both : List Frame
came_both = frame_paged 1 ∷ frame_paged 2 ∷ []
