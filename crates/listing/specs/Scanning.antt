-- What is left of a listing between two chunks of its input, and what each call does.
use Rattle.std.specs.Prelude.{ℕ, zero, suc, ◌/◌, min, cond, List, [], ◌∷◌, ◌++◌, ltb, eqb, length, take}
use Rattle.listing.specs.declared.progress.Progress.{Progress}
use Rattle.listing.specs.declared.scan.Step.{Step}
use Rattle.listing.specs.Rows.{cut_text, longest, over, Filled, filled_by}
use Rattle.listing.specs.Listing.{line_row, limit}

-- ---- byte by byte

-- where a listing is: the text that it has come to, how many lines have ended, and the line that has not, less what is behind its first 64 bytes
pub record Reach : Type 0 where
  pub text : List ℕ
  pub lines : ℕ
  pub begun : List ℕ

unfoldable pub say : List ℕ → Reach → Reach
say t w = record { text = t ++ w.text; lines = w.lines; begun = w.begun }

-- where a listing comes by some bytes, with n lines behind it and one begun. Behind the last line that is read, a byte is answered by the cut line; that
-- counts as a line more, and nothing is said behind it
unfoldable pub reach : ℕ → List ℕ → List ℕ → Reach
reach n begun [] = record { text = []; lines = n; begun = begun }
reach n begun (b ∷ r) =
    cond (ltb n limit)
    (cond (eqb b 10) (say (line_row (suc n) begun) (reach (suc n) [] r)) (reach n (take 64 (begun ++ (b ∷ []))) r))
    (cond (eqb n limit) (record { text = cut_text; lines = suc n; begun = [] }) (record { text = []; lines = n; begun = begun }))

-- at the end of the input, a line that was begun is a line
unfoldable pub last_row : ℕ → List ℕ → List ℕ
last_row n [] = []
last_row n (b ∷ l) = cond (ltb n limit) (line_row (suc n) (b ∷ l)) []

-- ---- in memory

-- the first k elements of l, with zeros where it has fewer
unfoldable pub sized_to : ℕ → List ℕ → List ℕ
sized_to zero l = []
sized_to (suc k) [] = 0 ∷ sized_to k []
sized_to (suc k) (x ∷ l) = x ∷ sized_to k l

unfoldable pub progress_of : ℕ → List ℕ → Progress
progress_of n begun = record { lines = n; length = length begun; begun = sized_to 64 begun }

-- the line that was begun
abbrev pub begun_in : Progress → List ℕ
begun_in p = take p.length p.begun

-- ---- a call

-- as many bytes of a chunk as certainly have room for their rows
unfoldable pub bytes_taken : List ℕ → List ℕ → ℕ
bytes_taken chunk out = min (length chunk) (length out / longest)

-- what a call leaves: its answer, and the lent buffer
pub record AfterScan : Type 0 where
  pub step : Step
  pub buffer : List ℕ

abbrev pub after_scan : Step → List ℕ → AfterScan
after_scan s b = record { step = s; buffer = b }

abbrev pub after_reach : Reach → ℕ → List ℕ → AfterScan
after_reach w used out = after_scan (record { progress = progress_of w.lines w.begun; written = length w.text; used = used }) (over w.text out)

-- a chunk
unfoldable pub scanned : Progress → List ℕ → List ℕ → AfterScan
scanned p chunk out = after_reach (reach p.lines (begun_in p) (take (bytes_taken chunk out) chunk)) (bytes_taken chunk out) out

-- the end of the input
unfoldable pub finished : Progress → List ℕ → Filled
finished p out = filled_by (last_row p.lines (begun_in p)) out
