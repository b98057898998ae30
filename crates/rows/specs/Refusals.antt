-- The refusals and their numbers (document 01, "What each number says", and of a sentence document 02: "18 wrong length, head, comma, star
-- or line end, or a checksum character that is no hexadecimal digit; 19 checksum; 20 satellite not listed"). 9 was given for a spare that
-- is not zero: "9 no longer occurs".
use Rattle.std.specs.Prelude.{ℕ, ⊤, Result, Ok, Err}
use Rattle.rows.specs.declared.refusal.Refusal.{Refusal}
use Rattle.rows.specs.declared.refusal.Refusal.TheVariants.{Length, Padding, Preamble, Parity, Message, Version, Category, Range, Gap, Unused, NoPage, OtherBulletin, Unsound, NotHeld, Short, Line, Sentence, Checksum, Satellite}
use Rattle.rows.specs.declared.refusal.Said.{Said}

-- what the paper says of a refusal: "A place, page or mark that the refusal's row does not name is zero", and so is the value, which
-- 8 alone has: "Every field check hands back the value found beside the place"
abbrev pub plain : ℕ → Said
plain n = record { number = n; place = 0; value = 0; page = 0; mark = 0 }

abbrev pub at : ℕ → ℕ → ℕ → Said
at n p v = record { number = n; place = p; value = v; page = 0; mark = 0 }

abbrev pub says : Refusal → Said
says Length = plain 1
says Padding = plain 2
says Preamble = plain 3
says Parity = plain 4
says Message = plain 5
says Version = plain 6
says Category = plain 7
says (Range p v) = at 8 p v
says (Gap p) = at 10 p 0
says Unused = plain 11
says NoPage = plain 12
says OtherBulletin = plain 13
says Unsound = plain 14
says (NotHeld page mark) = record { number = 15; place = 0; value = 0; page = page; mark = mark }
says Short = plain 16
says Line = plain 17
says Sentence = plain 18
says Checksum = plain 19
says Satellite = plain 20

-- what is found: nothing to refuse, or the first thing
abbrev pub Verdict : Type 0
Verdict = Result ⊤ Refusal

-- the number of an answer: 0 where nothing is refused
abbrev pub answers : {A : Type 0} → Result A Refusal → Said
answers (Ok x) = plain 0
answers (Err r) = says r

-- what a call hands back: what it made, where nothing is refused
abbrev pub outcome : {A : Type 0} → Verdict → A → Result A Refusal
outcome (Ok tt) x = Ok x
outcome (Err r) x = Err r
