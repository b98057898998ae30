-- Which preambles and categories there are, and what each category has: its table, what its values say, and the values of what
-- they say.
use Rattle.report.specs.declared.body.Body.TheVariants.{AshFall, Flood, Hypocenter, Intensity, Nankai, NoCategory, Tsunami, Volcano}
use Rattle.report.specs.declared.body.Body.{Body}
use Rattle.rows.specs.Layout.{Layout, Span, ◌to◌, no_category}
use Rattle.std.specs.Prelude.{List, [], ◌∷◌, cond, eqb, ℕ, Option, None, Some}
use Rattle.rows.specs.declared.fields.Spares.{Spares}
use Rattle.rows.specs.Values.{Sides}
use Rattle.ash_fall.specs.AshFall.{ash_fall, eruption_from, eruption_values}
use Rattle.hypocenter.specs.Hypocenter.{hypocenter, quake_from, quake_values}
use Rattle.intensity.specs.Intensity.{intensity, shaking_from, shaking_values}
use Rattle.nankai.specs.Nankai.{nankai, number_values, numbers_from}
use Rattle.tsunami.specs.Tsunami.{tsunami, warning_from, warning_values}
use Rattle.volcano.specs.Volcano.{volcano, activity_from, activity_values}
use Rattle.flood.specs.Flood.{flood, flood_sides}
use Rattle.nankai.specs.declared.PageNumbers.{PageNumbers}

-- "53, 9A or C6 hexadecimal"
abbrev pub preambles : List Span
preambles = 0x53 to 0x53 ∷ 0x9A to 0x9A ∷ 0xC6 to 0xC6 ∷ []

-- "category not 2, 3, 4, 9", "7 no longer covers category 5", and "7 covers two categories fewer": 8 and 11
abbrev pub categories : List Span
categories = 2 to 2 ∷ 3 to 3 ∷ 4 to 4 ∷ 5 to 5 ∷ 8 to 8 ∷ 9 to 9 ∷ 11 to 11 ∷ []

abbrev pub layout : Body → Layout
layout NoCategory = no_category
layout (Hypocenter q) = hypocenter
layout (Intensity t) = intensity
layout (Nankai p) = nankai
layout (Tsunami w) = tsunami
layout (Volcano a) = volcano
layout (AshFall e) = ash_fall
layout Flood = flood

-- by the category's code, from the values of its rows in front of the slots and behind them
unfoldable pub body_from : (Layout → Sides) → ℕ → Body
body_from v dc =
    cond (eqb dc 2) (Hypocenter (quake_from (v hypocenter)))
    (cond (eqb dc 3) (Intensity (shaking_from (v intensity)))
    (cond (eqb dc 4) (Nankai (numbers_from (v nankai)))
    (cond (eqb dc 5) (Tsunami (warning_from (v tsunami)))
    (cond (eqb dc 8) (Volcano (activity_from (v volcano)))
    (cond (eqb dc 9) (AshFall (eruption_from (v ash_fall))) (cond (eqb dc 11) Flood NoCategory))))))

-- those values, with the ones of the spares, which a record has beside its body
abbrev pub sides_of : Body → Spares → Sides
sides_of NoCategory z = record { front = z.first ∷ []; behind = 0 ∷ [] }
sides_of (Hypocenter q) z = quake_values q z
sides_of (Intensity t) z = shaking_values t z
sides_of (Nankai p) z = number_values p z
sides_of (Tsunami w) z = warning_values w z
sides_of (Volcano a) z = activity_values a z
sides_of (AshFall e) z = eruption_values e z
sides_of Flood z = flood_sides z

-- the page that a body brings: category 4 alone has pages
abbrev pub paged_of : Body → Option PageNumbers
paged_of NoCategory = None
paged_of (Hypocenter q) = None
paged_of (Intensity t) = None
paged_of (Nankai p) = Some p
paged_of (Tsunami w) = None
paged_of (Volcano a) = None
paged_of (AshFall e) = None
paged_of Flood = None
