-- A frame as the sentence of a receiver (document 001, table 4.3.1-1; document 02, "Receiver sentences in and out"): `$QZQSM`, comma, satellite,
-- comma, 63 digits, star, two checksum digits, carriage return, line feed. These are 78 characters, at fixed places from 0 on.
use Rattle.std.specs.Prelude.{ℕ, ◌+◌, ◌-◌, ◌*◌, ◌/◌, ◌%◌, Bool, true, false, ◌&&◌, not, cond, List, [], ◌∷◌, ◌++◌, eqb, leb, length, take, drop, get_or, Result, Ok, Err}
use Rattle.std.specs.Int.Bits.{bit_xor}
use Rattle.rows.specs.declared.refusal.Refusal.{Refusal}
use Rattle.rows.specs.declared.refusal.Refusal.TheVariants.{Short, Line, Sentence, Checksum, Satellite}
use Rattle.rows.specs.declared.refusal.Said.{Said}
use Rattle.rows.specs.Refusals.{answers, outcome, Verdict}
use Rattle.rows.specs.Layout.{Span, ◌to◌}
use Rattle.rows.specs.Runs.Questions.{◌then◌, unless}
use Rattle.rows.specs.Runs.Verdict.{allowed}
use Rattle.report.specs.Records.{zeros}
use Rattle.report.specs.Runs.Reading.{looked, nothing_looked, read_answer, seen, unread, Reading, Seen}
use Rattle.sentence.specs.declared.from_sentence.Reception.{Reception}
use Rattle.sentence.specs.declared.from_sentence.Hearing.{Hearing}
use Rattle.line.specs.Lines.{digits, worth, capital, is_line, frame_of_line, line_reading, line_of}

-- ---- its characters

-- "message header "\$QZQSM""
abbrev pub header : List ℕ
header = 0x24 ∷ 0x51 ∷ 0x5A ∷ 0x51 ∷ 0x53 ∷ 0x4D ∷ []

abbrev pub comma : ℕ
comma = 0x2C

abbrev pub star : ℕ
star = 0x2A

-- "A comma stands before and after the satellite number": the first of them stands behind the header
abbrev pub head : List ℕ
head = header ++ (comma ∷ [])

-- "Satellite ID 56,57,61 .. 55 .. 58"
abbrev pub satellites : List Span
satellites = 55 to 58 ∷ 61 to 61 ∷ []

-- "the exclusive or of all characters"
unfoldable pub checksum : List ℕ → ℕ
checksum [] = 0
checksum (b ∷ l) = bit_xor b (checksum l)

-- ---- where they stand

-- n characters from a place on
abbrev pub part : ℕ → ℕ → List ℕ → List ℕ
part from n s = take n (drop from s)

-- "all characters between `$` and `*`"
abbrev pub between : List ℕ → List ℕ
between s = part 1 72 s

-- "63 digits"
abbrev pub digits_in : List ℕ → List ℕ
digits_in s = part 10 63 s

-- a character that is a decimal digit
abbrev pub figure : ℕ → Bool
figure b = leb 0x30 b && leb b 0x39

-- the number of the two characters of the satellite, and 0 where they are none: no satellite has it
unfoldable pub satellite_in : List ℕ → ℕ
satellite_in s = cond (figure (get_or s 7 0) && figure (get_or s 8 0)) ((get_or s 7 0 - 0x30) * 10 + (get_or s 8 0 - 0x30)) 0

-- the number of the two checksum digits, "read in either case"
unfoldable pub told_in : List ℕ → ℕ
told_in s = worth (get_or s 74 0) * 16 + worth (get_or s 75 0)

-- the first of these bytes are those
unfoldable pub begins : List ℕ → List ℕ → Bool
begins [] s = true
begins (h ∷ hs) [] = false
begins (h ∷ hs) (b ∷ s) = eqb b h && begins hs s

-- "18 wrong length, head, comma, star or line end, or a checksum character that is no hexadecimal digit"
unfoldable pub has_form : List ℕ → Bool
has_form s =
    eqb (length s) 78 && begins head s
    && (eqb (get_or s 9 0) comma && eqb (get_or s 73 0) star && eqb (get_or s 76 0) 0x0D)
    && (allowed digits (get_or s 74 0) && allowed digits (get_or s 75 0))
    && eqb (get_or s 77 0) 0x0A

-- ---- from a sentence

-- what stands around the digits: what is found, and the satellite
pub record Around : Type 0 where
  pub answer : Verdict
  pub satellite : ℕ

-- what reading comes to: the satellite, and what is read
pub record Received : Type 0 where
  pub satellite : ℕ
  pub reading : Reading

-- what a listing needs of it: the satellite, and what is seen
pub record Heard : Type 0 where
  pub satellite : ℕ
  pub look : Seen

-- what stands around the digits: 18, then "19 checksum; 20 satellite not listed"
unfoldable pub around_answer : List ℕ → Verdict
around_answer s =
    unless (has_form s) Sentence
    then unless (eqb (checksum (between s)) (told_in s)) Checksum
    then unless (allowed satellites (satellite_in s)) Satellite

abbrev pub around_refused : Refusal → Around
around_refused x = record { answer = Err x; satellite = 0 }

abbrev pub around_as : Verdict → List ℕ → Around
around_as (Ok tt) s = record { answer = Ok tt; satellite = satellite_in s }
around_as (Err x) s = around_refused x

unfoldable pub around_of : List ℕ → Around
around_of s = around_as (around_answer s) s

-- a refused reading gives satellite 0
abbrev pub satellite_of : Verdict → ℕ → ℕ
satellite_of (Ok tt) n = n
satellite_of (Err x) n = 0

abbrev pub received : ℕ → Reading → Received
received n r = record { satellite = satellite_of r.answer n; reading = r }

abbrev pub unheard : Verdict → Received
unheard v = record { satellite = 0; reading = unread v }

-- "then 17, then the frame's own"
abbrev pub behind : Verdict → List ℕ → Received
behind (Ok tt) s = received (satellite_in s) (line_reading (digits_in s))
behind (Err x) s = unheard (Err x)

unfoldable pub sentence_reading : List ℕ → Received
sentence_reading s = behind (around_answer s) s

-- what that says, in the paper's numbers
unfoldable pub sentence_answer : List ℕ → Verdict
sentence_answer s = around_answer s then unless (is_line (digits_in s)) Line then read_answer (frame_of_line (digits_in s))

abbrev pub sentence_says : List ℕ → Said
sentence_says s = answers (sentence_answer s)

-- what a listing needs of it
abbrev pub heard_of : Received → Heard
heard_of r = record { satellite = r.satellite; look = seen r.reading }

-- the same without the answers
abbrev pub reception : Received → Reception
reception r = record { satellite = r.satellite; «record» = r.reading.«record» }

abbrev pub hearing : Heard → Hearing
hearing h = record { satellite = h.satellite; look = looked h.look }

-- what a call hands back
abbrev pub received_told : Received → Result Reception Refusal
received_told r = outcome r.reading.answer (reception r)

abbrev pub heard_told : Heard → Result Hearing Refusal
heard_told h = outcome h.look.answer (hearing h)

-- "A refused reading gives a record of zeros", and satellite 0
abbrev pub no_reception : Reception
no_reception = record { satellite = 0; «record» = zeros }

abbrev pub no_hearing : Hearing
no_hearing = record { satellite = 0; look = nothing_looked }

-- a line of a receiver's output, which lacks its line feed, as a sentence
abbrev pub fed : List ℕ → List ℕ
fed l = l ++ (0x0A ∷ [])

-- the beginning of another sentence than ours
unfoldable pub is_another : List ℕ → Bool
is_another l = begins (0x24 ∷ []) l && not (begins header l)

-- ---- from a frame

-- satellite, comma and digits behind the head
abbrev pub body_of : ℕ → List ℕ → List ℕ
body_of n f = head ++ ((0x30 + n / 10) ∷ (0x30 + n % 10) ∷ comma ∷ line_of f)

-- "written in capital digits"
abbrev pub end_of : ℕ → List ℕ
end_of sum = star ∷ capital (sum / 16) ∷ capital (sum % 16) ∷ 0x0D ∷ 0x0A ∷ []

unfoldable pub sentence_of : ℕ → List ℕ → List ℕ
sentence_of n f = body_of n f ++ end_of (checksum (drop 1 (body_of n f)))

-- "Writing tests 20, then all that reading the frame refuses, then 16 for a buffer shorter than the sentence"
unfoldable pub send_answer : ℕ → List ℕ → ℕ → Verdict
send_answer n f room = unless (allowed satellites n) Satellite then read_answer f then unless (leb 78 room) Short

abbrev pub send_says : ℕ → List ℕ → ℕ → Said
send_says n f room = answers (send_answer n f room)

-- "bytes past the sentence stay", and a refusal touches nothing
abbrev pub sent : Verdict → ℕ → List ℕ → List ℕ → List ℕ
sent (Ok tt) n f buffer = sentence_of n f ++ drop 78 buffer
sent (Err x) n f buffer = buffer

abbrev pub sent_into : ℕ → List ℕ → List ℕ → List ℕ
sent_into n f buffer = sent (send_answer n f (length buffer)) n f buffer
