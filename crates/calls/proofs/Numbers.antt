-- The numbers that reading, writing, opening, taking, merging and telling answer: none is above 17, as those that speak of a sentence are.
use Rattle.std.specs.Prelude.{Ok, Err, Option, None, Some}
use mathlib.Core.Path.{◌≡◌, refl}
use mathlib.Core.Bool.{Bool, true, false, cond}
use mathlib.Core.List.{List}
use Prim.Native.Nat.{ℕ, ◌-◌, ◌≤◌, ◌<◌}
use lib.Dec.{lit≤, eqb, ltb}
use native.Mathlib.Omega.{arith}
use Rattle.rows.specs.declared.refusal.Refusal.{Refusal}
use Rattle.rows.specs.declared.refusal.Refusal.TheVariants.{Length, Padding, Preamble, Category, Unused, NoPage, OtherBulletin, Unsound, NotHeld, Short, Line}
use Rattle.rows.specs.Refusals.{says, answers, Verdict}
use Rattle.rows.specs.Runs.Questions.{◌then◌, unless}
use Rattle.rows.proofs.Rules.Numbers.{verdict_ten, UpToTen}
use Rattle.rows.specs.declared.common.Common.{Common}
use Rattle.nankai.specs.declared.PageNumbers.{PageNumbers}
use Rattle.report.specs.declared.record.Record.{Record}
use Rattle.report.specs.Categories.{paged_of}
use Rattle.report.specs.Runs.Reading.{read_answer, read_says}
use Rattle.report.specs.Runs.Writing.{write_answer, write_says}
use Rattle.report.proofs.Claims.{answers_are_0_to_10}
use Rattle.line.specs.Lines.{frame_of_line, is_line, line_answer, line_says, line_write_says}
use Rattle.pages.specs.declared.name.Name.{Name}
use Rattle.pages.specs.Names.{name_says, name_verdict, same_name}
use Rattle.bulletin.specs.declared.store.Store.{Store}
use Rattle.bulletin.specs.Takings.{admission_verdict, bulletin_of, number_in, page_number_in, take_says}
use Rattle.bulletin.specs.Merges.{merge_says, merge_verdict}
use Rattle.bulletin.specs.Stores.{page_behind, sound_store}
use Rattle.bulletin.specs.Counts.{count_says, lowest_not_held}
use Rattle.bulletin.specs.Text.{text_length_of, text_says, text_verdict, why_not_held, with_room}

-- ---- the ways of answering

record Up (v : Verdict) : Type 0 where
  most : (answers v).number ≤ 17

more : (v : Verdict) → UpToTen v → Up v
more v h = record { most = omega arith }

fine : Up (Ok tt)
fine = record { most = lit≤ tt }

refused : (r : Refusal) → (says r).number ≤ 17 → Up (Err r)
refused r h = record { most = h }

then_up : (a b : Verdict) → Up a → Up b → Up (a then b)
then_up (Ok tt) b h k = k
then_up (Err r) b h k = h

unless_up : (b : Bool) (r : Refusal) → (says r).number ≤ 17 → Up (unless b r)
unless_up true r h = fine
unless_up false r h = refused r h

cond_up : (b : Bool) (v w : Verdict) → Up v → Up w → Up (cond b v w)
cond_up true v w h k = h
cond_up false v w h k = k

-- ---- a frame, a record, a line and a name

read_up : (frame : List ℕ) → Up (read_answer frame)
read_up frame = more (read_answer frame) (answers_are_0_to_10 frame)

pub read_numbered : (frame : List ℕ) → (read_says frame).number ≤ 17
read_numbered frame = (read_up frame).most

write_up : (r : Record) (size : ℕ) → Up (write_answer r size)
unfolding write_answer
write_up r size =
    then_up _ _ (unless_up _ Length (lit≤ tt))
    (then_up _ _ (unless_up _ Preamble (lit≤ tt))
    (then_up _ _ (unless_up _ Category (lit≤ tt)) (then_up _ _ (unless_up _ Unused (lit≤ tt)) (more _ (verdict_ten _ _)))))

pub write_numbered : (r : Record) (size : ℕ) → (write_says r size).number ≤ 17
write_numbered r size = (write_up r size).most

pub line_numbered : (line : List ℕ) → (line_says line).number ≤ 17
line_numbered line = (then_up _ _ (unless_up (is_line line) Line (lit≤ tt)) (read_up (frame_of_line line))).most

pub line_write_numbered : (frame : List ℕ) (room : ℕ) → (line_write_says frame room).number ≤ 17
unfolding line_answer
line_write_numbered frame room =
    (then_up _ _ (unless_up _ Length (lit≤ tt)) (then_up _ _ (unless_up _ Padding (lit≤ tt)) (unless_up _ Short (lit≤ tt)))).most

pub name_numbered : (n : Name) → (name_says n).number ≤ 17
unfolding name_verdict
name_numbered n = (more _ (verdict_ten _ _)).most

-- ---- a store

-- a page of another bulletin is refused with 13, one of this bulletin with none
same_up : (n : Name) (c : Common) (p : PageNumbers) (b : Bool) → same_name (bulletin_of c p) n ≡ b → Up (admission_verdict (number_in n c (Some p)))
same_up n c p true e = rw e fine
same_up n c p false e = rw e (refused OtherBulletin (lit≤ tt))

number_up : (n : Name) (c : Common) (p : Option PageNumbers) → Up (admission_verdict (number_in n c p))
number_up n c None = refused NoPage (lit≤ tt)
number_up n c (Some p) = same_up n c p (same_name (bulletin_of c p) n) refl

pub take_numbered : (s : Store) (r : Record) → (take_says s r).number ≤ 17
unfolding page_number_in
take_numbered s r = (then_up _ _ (unless_up (sound_store s) Unsound (lit≤ tt)) (then_up _ _ (write_up r 32) (number_up s.name r.common (paged_of r.body)))).most

pub merge_numbered : (a b : Store) → (merge_says a b).number ≤ 17
unfolding merge_verdict
merge_numbered a b =
    (then_up _ _ (unless_up (sound_store a) Unsound (lit≤ tt)) (then_up _ _ (unless_up (sound_store b) Unsound (lit≤ tt)) (unless_up (same_name a.name b.name) OtherBulletin (lit≤ tt)))).most

pub count_numbered : (s : Store) → (count_says s).number ≤ 17
count_numbered s = (unless_up (sound_store s) Unsound (lit≤ tt)).most

text_up : (s : Store) → Up (text_verdict s)
unfolding text_verdict
text_up s =
    let k = lowest_not_held s.name.total 0 s.pages in
    let not_held : Verdict = Err (NotHeld k (why_not_held (page_behind s (k - 1)))) in
    cond_up (sound_store s) (cond (eqb k 0) (Ok tt) not_held) (Err Unsound) (cond_up (eqb k 0) (Ok tt) not_held fine (refused _ (lit≤ tt))) (refused Unsound (lit≤ tt))

room_up : (v : Verdict) (n size : ℕ) → Up v → Up (with_room v n size)
room_up (Ok tt) n size h = cond_up (ltb size n) (Err Short) (Ok tt) (refused Short (lit≤ tt)) fine
room_up (Err x) n size h = h

pub text_numbered : (s : Store) (size : ℕ) → (text_says s size).number ≤ 17
text_numbered s size = (room_up (text_verdict s) (text_length_of s) size (text_up s)).most

-- ---- none of them answers n, whatever it is asked of: each of the nine is at most 17, and n is above it

pub record AnsweredByNone (n : ℕ) : Type 0 where
  pub no_reading : (frame : List ℕ) → (read_says frame).number ≡ n → ⊥
  pub no_writing : (r : Record) (size : ℕ) → (write_says r size).number ≡ n → ⊥
  pub no_line_read : (line : List ℕ) → (line_says line).number ≡ n → ⊥
  pub no_line_written : (frame : List ℕ) (room : ℕ) → (line_write_says frame room).number ≡ n → ⊥
  pub no_opening : (name : Name) → (name_says name).number ≡ n → ⊥
  pub no_taking : (s : Store) (r : Record) → (take_says s r).number ≡ n → ⊥
  pub no_merge : (a b : Store) → (merge_says a b).number ≡ n → ⊥
  pub no_count : (s : Store) → (count_says s).number ≡ n → ⊥
  pub no_text : (s : Store) (size : ℕ) → (text_says s size).number ≡ n → ⊥

apart : (m n : ℕ) → m ≤ 17 → 17 < n → m ≡ n → ⊥
apart m n h k e = omega arith

pub above_17 : (n : ℕ) → 17 < n → AnsweredByNone n
above_17 n h = record {
  no_reading = λ frame. apart _ n (read_numbered frame) h;
  no_writing = λ r size. apart _ n (write_numbered r size) h;
  no_line_read = λ line. apart _ n (line_numbered line) h;
  no_line_written = λ frame room. apart _ n (line_write_numbered frame room) h;
  no_opening = λ name. apart _ n (name_numbered name) h;
  no_taking = λ s r. apart _ n (take_numbered s r) h;
  no_merge = λ a b. apart _ n (merge_numbered a b) h;
  no_count = λ s. apart _ n (count_numbered s) h;
  no_text = λ s size. apart _ n (text_numbered s size) h;
}
