-- What the questions for a value come to.
use Rattle.nankai.specs.declared.PageNumbers.{PageNumbers}
use Rattle.std.specs.Prelude.{Ok, Err, Option, None, Some}
use mathlib.Core.Path.{◌≡◌, refl, sym, ap, ◌∙◌}
use mathlib.Core.Bool.{Bool, true, false, cond}
use Prim.Native.Nat.{ℕ}
use mathlib.Core.List.{List}
use lib.Dec.{eqb, leb}
use lib.ListN.{length}
use borrow.Author.Tests.{eq-eqb, ne_eqb}
use Rattle.rows.specs.declared.refusal.Refusal.{Refusal}
use Rattle.rows.specs.declared.refusal.Refusal.TheVariants.{Short, Line, Satellite, Unsound}
use Rattle.rows.specs.Refusals.{answers, Verdict}
use Rattle.rows.specs.Runs.Questions.{◌then◌, unless}
use Rattle.rows.specs.Runs.Verdict.{allowed}
use Rattle.rows.specs.declared.common.Common.{Common}
use Rattle.rows.proofs.Rules.Outcomes.{met_then}
use Rattle.rows.specs.Kept.{In}
use Rattle.rows.proofs.Rules.Numbers.{answered_value}
use Rattle.rows.proofs.Rules.Spans.{in_allowed}
use Rattle.report.specs.declared.record.Record.{Record}
use Rattle.report.specs.Categories.{paged_of}
use Rattle.report.specs.Runs.Reading.{read_answer}
use Rattle.report.specs.Runs.Writing.{write_answer, write_says}
use Rattle.line.specs.Lines.{frame_of_line, is_line, line_says}
use Rattle.sentence.specs.Sentences.{satellites, sentence_answer, sentence_says, send_answer, send_says}
use Rattle.pages.specs.declared.name.Name.{Name}
use Rattle.pages.specs.Names.{name_says, name_verdict, same_name}
use Rattle.bulletin.specs.declared.store.Store.{Store}
use Rattle.bulletin.specs.Stores.{sound_store}
use Rattle.bulletin.specs.Takings.{admission_verdict, bulletin_of, number_in, page_number_in, take_says}
use Rattle.store_bytes.specs.Stores.{name_from}
use Rattle.inserter.specs.Answers.{open_value, read_line_value, read_sentence_value, write_sentence_value}

-- ---- of a taking: 14, then what writing says; 12 and 13 have no value

page_value : (n : Name) (c : Common) (p : Option PageNumbers) → (answers (admission_verdict (number_in n c p))).value ≡ 0
page_value n c None = refl
page_value n c (Some p) = by (same_name (bulletin_of c p) n) refl
  where
    by : (t : Bool) → same_name (bulletin_of c p) n ≡ t → (answers (admission_verdict (number_in n c (Some p)))).value ≡ 0
    by true e = rw e
    by false e = rw e

pub take_value_lem : (s : Store) (r : Record) → sound_store s ≡ true → (write_says r 32).value ≡ (take_says s r).value
unfolding page_number_in
take_value_lem s r h = rw h (behind (write_answer r 32))
  where
    behind : (w : Verdict) → (answers w).value ≡ (answers (w then admission_verdict (page_number_in s.name r.common r.body))).value
    behind (Ok tt) = sym (page_value s.name r.common (paged_of r.body))
    behind (Err x) = refl

pub no_take_value : (s : Store) (r : Record) → sound_store s ≡ false → 0 ≡ (take_says s r).value
no_take_value s r h = rw h

-- ---- beside the word of a call

-- no value stands beside another number than 8
pub line_without_8 : (l : List ℕ) → ((line_says l).number ≡ 8 → ⊥) → read_line_value l ≡ 0
line_without_8 l = answered_value (unless (is_line l) Line then read_answer (frame_of_line l))

pub taking_without_8 : (s : Store) (r : Record) → ((take_says s r).number ≡ 8 → ⊥) → (take_says s r).value ≡ 0
taking_without_8 s r = answered_value (unless (sound_store s) Unsound then write_answer r 32 then admission_verdict (page_number_in s.name r.common r.body))

pub opening_without_8 : (name : List ℕ) → ((name_says (name_from name)).number ≡ 8 → ⊥) → open_value name ≡ 0
unfolding open_value
opening_without_8 name h = by (eqb (length name) 8)
  where
    by : (t : Bool) → cond t (name_says (name_from name)).value 0 ≡ 0
    by true = answered_value (name_verdict (name_from name)) h
    by false = refl

pub named_value : (name : List ℕ) → length name ≡ 8 → open_value name ≡ (name_says (name_from name)).value
unfolding open_value
named_value name e = rw (eq-eqb (length name) 8 e)

pub no_name_value : (name : List ℕ) → (length name ≡ 8 → ⊥) → open_value name ≡ 0
unfolding open_value
no_name_value name n = rw (ne_eqb (length name) 8 n)

-- ---- of a sentence

pub sentence_without_8 : (s : List ℕ) → ((sentence_says s).number ≡ 8 → ⊥) → read_sentence_value s ≡ 0
sentence_without_8 s = answered_value (sentence_answer s)

pub sending_without_8 : (n : ℕ) (f : List ℕ) → ((send_says n f 78).number ≡ 8 → ⊥) → write_sentence_value n f ≡ 0
sending_without_8 n f = answered_value (send_answer n f 78)

-- a frame that reading refuses is refused where it is to be sent, whatever room there is
pub frame_refused : (n : ℕ) (f : List ℕ) (room : ℕ) (x : Refusal) → In satellites n → read_answer f ≡ Err x → send_answer n f room ≡ Err x
unfolding send_answer
frame_refused n f room x listed e =
    met_then (allowed satellites n) Satellite (read_answer f then unless (leb 78 room) Short) (in_allowed satellites n listed)
    ∙ ap (λ (v : Verdict). v then unless (leb 78 room) Short) e
