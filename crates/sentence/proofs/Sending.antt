-- What writing a sentence answers, question after question.
use Rattle.std.specs.Prelude.{Ok, Err}
use Rattle.rows.specs.Refusals.{Verdict}
use mathlib.Core.Path.{◌≡◌, sym, ap, ap₂, ◌∙◌}
use mathlib.Core.Bool.{Bool, true, false}
use mathlib.Core.List.{List, [], ◌∷◌, ◌++◌, append_assoc, append-nil}
use Prim.Native.Nat.{ℕ, ◌+◌, ◌/◌, ◌%◌, ◌≤◌}
use native.Mathlib.Omega.{arith}
use mathlib.Core.Logic.{⊎_elim}
use borrow.Author.Tests.{leb-true}
use lib.Dec.{leb}
use lib.ListN.{length, take, drop, length-append, length-drop, drop_of_length-le}
use lib.Seq.{sets, sets-eq, length-take-le, take-append_seam, drop-drop}
use Rattle.bits.specs.Frame.{field_of}
use Rattle.lent.proofs.Chains.{sets-sets}
use Rattle.rows.specs.declared.refusal.Refusal.TheVariants.{Short, Satellite}
use Rattle.rows.specs.Runs.Questions.{◌then◌, unless}
use Rattle.rows.specs.Runs.Verdict.{allowed}
use Rattle.rows.proofs.Rules.Outcomes.{fine_both, unless_fine}
use Rattle.rows.proofs.Rules.Spans.{allowed_in}
use Rattle.report.specs.Records.{record_of}
use Rattle.report.specs.Runs.Reading.{read_answer, read_of, Reading}
use Rattle.report.proofs.Reading.Frames.{fine_conforming}
use Rattle.report.proofs.Reading.ReadSteps.{answer_found}
use Rattle.line.specs.Lines.{line_of, line_written, line_into}
use Rattle.line.proofs.Pairs.{line_length}
use Rattle.line.proofs.LineReasons.{print_exactly}
use Rattle.sentence.specs.Sentences.{head, comma, satellites, checksum, between, body_of, end_of, sentence_of, send_answer}

module _ (n : ℕ) (f : List ℕ) (room : ℕ) where
  pub not_listed : allowed satellites n ≡ false → Err Satellite ≡ send_answer n f room
  unfolding send_answer
  not_listed e = simp e

  -- what the code asks of a frame that it read
  pub then_asked : allowed satellites n ≡ true → (r : Reading) → r ≡ read_of f → r.answer then unless (leb 78 room) Short ≡ send_answer n f room
  unfolding send_answer
  then_asked e r l =
      ap (λ (v : Verdict). v then unless (leb 78 room) Short) (ap (λ (x : Reading). x.answer) l ∙ answer_found (read_answer f) (record_of f))
      ∙ sym (ap (λ (b : Bool). unless b Satellite then read_answer f then unless (leb 78 room) Short) e)

  -- nothing is refused, so each question was met
  send_met : send_answer n f room ≡ Ok tt → (allowed satellites n ≡ true) × (read_answer f ≡ Ok tt) × (leb 78 room ≡ true)
  unfolding send_answer
  send_met e =
      let p = fine_both (unless (allowed satellites n) Satellite) (read_answer f then unless (leb 78 room) Short) e in
      let q = fine_both (read_answer f) (unless (leb 78 room) Short) p.1 in
      (unless_fine (allowed satellites n) Satellite p.0, q.0, unless_fine (leb 78 room) Short q.1)

  -- so what is put is a frame of a satellite, and has room
  pub may_put : send_answer n f room ≡ Ok tt → (n ≤ 99) × (length f ≡ 32) × (field_of f 250 6 ≡ 0) × (78 ≤ room)
  may_put e =
      let m = send_met e in
      let c = fine_conforming f m.1 in
      (⊎_elim (λ h. omega arith) (λ k. ⊎_elim (λ h. omega arith) (λ z. absurd z) k) (allowed_in satellites n m.0), c.long, c.padding, leb-true 78 room m.2)

-- ---- the bytes of a sentence, piece by piece

-- a line of its own length takes the place of what was lent for it
line_lent : (f part : List ℕ) → length f ≡ 32 → field_of f 250 6 ≡ 0 → length part ≡ 63 → line_into f part ≡ line_of f
line_lent f part n p m =
    ap (λ (v : Verdict). line_written v f part) ((print_exactly f (length part)).1 (n, (p, (omega arith, tt))))
    ∙ ap (λ (t : List ℕ). line_of f ++ t) (drop_of_length-le part {i = 63} (omega arith))
    ∙ append-nil (line_of f)

pub line_put : (b part f : List ℕ) → 73 ≤ length b → length f ≡ 32 → field_of f 250 6 ≡ 0 → part ≡ line_into f (take 63 (drop 10 b)) → take 10 b ++ (part ++ drop 63 (drop 10 b)) ≡ sets b 10 (line_of f)
line_put b part f h n p e =
    let room : length (take 63 (drop 10 b)) ≡ 63 = length-take-le 63 (drop 10 b) (omega (arith, length-drop 10 b)) in
    let end : 10 + length (line_of f) ≡ 73 = omega (arith, line_length f n) in
    ap₂ (λ (x y : List ℕ). take 10 b ++ (x ++ y)) (e ∙ line_lent f (take 63 (drop 10 b)) n p room) (drop-drop 63 10 b ∙ ap (λ (k : ℕ). drop k b) (sym end))
    ∙ sym (sets-eq (line_of f) b 10 (omega arith) ∙ append_assoc (take 10 b) (line_of f) (drop (10 + length (line_of f)) b))

pub body_length : (n : ℕ) (f : List ℕ) → length f ≡ 32 → length (body_of n f) ≡ 73
body_length n f h = omega (arith, line_length f h)

-- the characters that the checksum is taken of
pub summed_body : (n : ℕ) (f : List ℕ) → length f ≡ 32 → (b : List ℕ) → between (body_of n f ++ b) ≡ drop 1 (body_of n f)
summed_body n f long b =
    let e : length (drop 1 (body_of n f)) ≡ 72 = omega (arith, body_length n f long) in
    ap (λ (k : ℕ). take k (drop 1 (body_of n f) ++ b)) (sym e) ∙ take-append_seam (drop 1 (body_of n f)) b

module _ (l : List ℕ) (n : ℕ) (f : List ℕ) (room : 78 ≤ length l) (long : length f ≡ 32) where
  body_set : (t : List ℕ) → 73 + length t ≤ length l → sets l 0 (body_of n f ++ t) ≡ body_of n f ++ (t ++ drop (73 + length t) l)
  body_set t h =
      let e : 0 + length (body_of n f ++ t) ≡ 73 + length t = omega (arith, length-append (body_of n f) t, body_length n f long) in
      sets-eq (body_of n f ++ t) l 0 (omega arith) ∙ ap (λ (k : ℕ). (body_of n f ++ t) ++ drop k l) e ∙ append_assoc (body_of n f) t (drop (73 + length t) l)

  pub sentence_put : (b₁ b₂ b₃ b₄ : List ℕ) (sum : ℕ) → b₁ ≡ sets l 0 head → b₂ ≡ sets b₁ 7 ((0x30 + n / 10) ∷ (0x30 + n % 10) ∷ comma ∷ []) → b₃ ≡ sets b₂ 10 (line_of f)
      → sum ≡ checksum (between b₃) → b₄ ≡ sets b₃ 73 (end_of sum) → b₄ ≡ sentence_of n f ++ drop 78 l
  unfolding sentence_of
  sentence_put b₁ b₂ b₃ b₄ sum e₁ e₂ e₃ s e₄ =
      let two : List ℕ = (0x30 + n / 10) ∷ (0x30 + n % 10) ∷ comma ∷ [] in
      let body : b₃ ≡ sets l 0 (body_of n f) =
      e₃ ∙ ap (λ (b : List ℕ). sets b 10 (line_of f)) (e₂ ∙ ap (λ (b : List ℕ). sets b 7 two) e₁ ∙ sets-sets head two l 0) ∙ sets-sets (head ++ two) (line_of f) l 0 in
      let front : b₃ ≡ body_of n f ++ drop 73 l = body ∙ ap (sets l 0) (sym (append-nil (body_of n f))) ∙ body_set [] (omega arith) in
      let sum_is : sum ≡ checksum (drop 1 (body_of n f)) = s ∙ ap (λ (b : List ℕ). checksum (between b)) front ∙ ap checksum (summed_body n f long (drop 73 l)) in
      let place : 73 ≡ 0 + length (body_of n f) = omega (arith, body_length n f long) in
      e₄ ∙ ap₂ (λ (b : List ℕ) (k : ℕ). sets b k (end_of sum)) body place
      ∙ sets-sets (body_of n f) (end_of sum) l 0
      ∙ body_set (end_of sum) (omega arith)
      ∙ sym (append_assoc (body_of n f) (end_of sum) (drop 78 l))
      ∙ ap (λ (k : ℕ). (body_of n f ++ end_of k) ++ drop 78 l) sum_is
