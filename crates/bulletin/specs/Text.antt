-- "The text is the pages' bytes in order, less all zero bytes at its end"; "Text: 14, 15, 16".
use Rattle.std.specs.Prelude.{cond, List, [], ◌∷◌, ◌++◌, ℕ, zero, suc, ◌-◌, ◌*◌, length, get_or, take, drop, eqb, ltb, Ok, Err}
use Rattle.rows.specs.declared.refusal.Refusal.TheVariants.{Unsound, NotHeld, Short}
use Rattle.rows.specs.declared.refusal.Said.{Said}
use Rattle.rows.specs.Refusals.{answers, Verdict}
use Rattle.pages.specs.declared.page.Page.{Page}
use Rattle.bulletin.specs.declared.store.Store.{Store}
use Rattle.bulletin.specs.Stores.{sound_store, page_behind}
use Rattle.bulletin.specs.Counts.{lowest_not_held}

unfoldable pub bytes_in_order : List Page → List ℕ
bytes_in_order [] = []
bytes_in_order (p ∷ ps) = p.text ++ bytes_in_order ps

-- the length of the first n bytes less all zero bytes at their end
unfoldable pub text_length : ℕ → List ℕ → ℕ
text_length zero l = 0
text_length (suc n) l = cond (eqb (get_or l n 0) 0) (text_length n l) (suc n)

abbrev pub text_length_of : Store → ℕ
text_length_of s = text_length (18 * s.name.total) (bytes_in_order s.pages)

-- the mark that 15 tells: 1 absent, 2 disputed
unfoldable pub why_not_held : Page → ℕ
why_not_held p = cond (eqb p.mark 0) 1 2

-- 14, 15
unfoldable pub text_verdict : Store → Verdict
text_verdict s =
    let k = lowest_not_held s.name.total 0 s.pages in
    cond (sound_store s) (cond (eqb k 0) (Ok tt) (Err (NotHeld k (why_not_held (page_behind s (k - 1)))))) (Err Unsound)

-- 16
abbrev pub with_room : Verdict → ℕ → ℕ → Verdict
with_room (Ok tt) n size = cond (ltb size n) (Err Short) (Ok tt)
with_room (Err x) n size = Err x

-- what telling the text says, in the paper's numbers
abbrev pub text_says : Store → ℕ → Said
text_says s size = answers (with_room (text_verdict s) (text_length_of s) size)

-- what telling comes to: what is found, and how many bytes are told
pub record Telling : Type 0 where
  pub answer : Verdict
  pub length : ℕ

abbrev pub text_answer_by : Verdict → ℕ → Telling
text_answer_by (Ok tt) n = record { answer = Ok tt; length = n }
text_answer_by (Err x) n = record { answer = Err x; length = 0 }

abbrev pub text_answer : Store → ℕ → Telling
text_answer s size = text_answer_by (with_room (text_verdict s) (text_length_of s) size) (text_length_of s)

-- "Text leaves the bytes after its length untouched", and a refusal leaves them all
abbrev pub text_buffer_by : Verdict → ℕ → List ℕ → List ℕ → List ℕ
text_buffer_by (Ok tt) n l out = take n l ++ drop n out
text_buffer_by (Err x) n l out = out

abbrev pub text_buffer : Store → List ℕ → List ℕ
text_buffer s out = text_buffer_by (with_room (text_verdict s) (text_length_of s) (length out)) (text_length_of s) (bytes_in_order s.pages) out
