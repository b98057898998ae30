-- Cited by private functions alone: what the code finds of a line that lacks its line feed, piece by piece.
use Rattle.std.specs.Prelude.{ℕ, ◌+◌, ◌-◌, ◌*◌, Bool, ◌&&◌, cond, List, eqb, length, get_or, Option, None, Some}
use Rattle.rows.specs.Runs.Verdict.{allowed}
use Rattle.line.specs.Lines.{digits, worth}
use Rattle.sentence.specs.Sentences.{head, comma, star, figure, begins}

-- the number that a decimal digit stands for
abbrev pub figure_of : ℕ → Option ℕ
figure_of b = cond (figure b) (Some (b - 0x30)) None

-- the number of the two characters of the satellite
abbrev pub named_in : List ℕ → Option ℕ
named_in l = cond (figure (get_or l 7 0) && figure (get_or l 8 0)) (Some ((get_or l 7 0 - 0x30) * 10 + (get_or l 8 0 - 0x30))) None

-- the number of the two checksum digits
abbrev pub summed_in : List ℕ → Option ℕ
summed_in l = cond (allowed digits (get_or l 74 0) && allowed digits (get_or l 75 0)) (Some (worth (get_or l 74 0) * 16 + worth (get_or l 75 0))) None

-- length, head, comma, star and carriage return
abbrev pub marked : List ℕ → Bool
marked l = eqb (length l) 77 && (begins head l && eqb (get_or l 9 0) comma && eqb (get_or l 73 0) star && eqb (get_or l 76 0) 0x0D)
