-- A sentence that we wrote: what stands where, and that it is read back.
use Rattle.std.specs.Prelude.{Ok}
use Rattle.rows.specs.Refusals.{Verdict}
use mathlib.Core.Path.{◌≡◌, refl, sym, ap, ap₂, subst, ◌∙◌}
use mathlib.Core.Bool.{Bool, true, false, ◌&&◌}
use mathlib.Core.List.{List, [], ◌∷◌, ◌++◌}
use mathlib.Core.Logic.{⊎_elim}
use Prim.Native.Nat.{ℕ, zero, suc, ◌+◌, ◌*◌, ◌/◌, ◌%◌, ◌≤◌, ◌<◌}
use native.Mathlib.Omega.{arith}
use lib.Dec.{ltb}
use lib.ListN.{length, take, drop, get_or, length-append, get_or-append, get_or-eq_default}
use lib.Seq.{get_or-append-add, take-append_seam}
use borrow.Author.Tests.{ltb-true, ltb-false}
use Rattle.bits.specs.Frame.{Bytes, field_of}
use Rattle.rows.specs.Kept.{In}
use Rattle.rows.specs.Runs.Verdict.{allowed}
use Rattle.rows.proofs.Rules.Outcomes.{and_both}
use Rattle.rows.proofs.Rules.Spans.{allowed_in, in_allowed}
use Rattle.report.specs.Conforms.{Conforms}
use Rattle.report.specs.Records.{record_of}
use Rattle.report.specs.Runs.Reading.{read_answer, read_of}
use Rattle.report.proofs.Reading.Frames.{conforming_fine}
use Rattle.report.proofs.Reading.ReadSteps.{answer_found}
use Rattle.line.specs.Lines.{digits, worth, capital, line_reading, line_of}
use Rattle.line.proofs.DigitValues.{capital_digit, capital-worth}
use Rattle.line.proofs.LineReasons.{tested_exactly}
use Rattle.line.proofs.Pairs.{line_length}
use Rattle.line.proofs.ReadLines.{no_digit_lost, reads_as_frame}
use Rattle.line.proofs.ThereAndBack.{is_line_lem}
use Rattle.sentence.specs.Sentences.{head, comma, satellites, checksum, between, digits_in, satellite_in, told_in, around_answer, satellite_of, received, behind, sentence_reading, body_of, end_of, sentence_of}
use Rattle.sentence.specs.Reasons.{Formed}
use Rattle.sentence.proofs.Checksums.{sum_below}
use Rattle.sentence.proofs.Forms.{form_of, all_three}
use Rattle.sentence.proofs.Satellites.{listed_below, named_number}
use Rattle.sentence.proofs.Sending.{body_length, summed_body}

-- ---- its characters are bytes

digit_below : (b : ℕ) → In digits b → b < 256
digit_below b h = ⊎_elim (λ k. omega arith) (λ k. ⊎_elim (λ j. omega arith) (λ j. ⊎_elim (λ i. omega arith) (λ z. absurd z) j) k) h

line_bytes : (f : List ℕ) → length f ≡ 32 → Bytes f → Bytes (line_of f)
line_bytes f long b i = by (ltb i 63) refl
  where
    by : (t : Bool) → ltb i 63 ≡ t → get_or (line_of f) i 0 < 256
    by true e = digit_below _ (((tested_exactly (line_of f)).0 (is_line_lem f long b)).each i (ltb-true i 63 e))
    by false e = let past : get_or (line_of f) i 0 ≡ 0 = get_or-eq_default (line_of f) 0 (omega (arith, line_length f long, ltb-false i 63 e)) in omega arith

abbrev all_bytes : List ℕ → Bool
all_bytes [] = true
all_bytes (x ∷ a) = ltb x 256 && all_bytes a

bytes_more : (x : ℕ) (l : List ℕ) → x < 256 → Bytes l → Bytes (x ∷ l)
bytes_more x l h b zero = h
bytes_more x l h b (suc i) = b i

-- behind numbers that are seen to be bytes
bytes-behind : (a l : List ℕ) → all_bytes a ≡ true → Bytes l → Bytes (a ++ l)
bytes-behind [] l e b = b
bytes-behind (x ∷ a) l e b = let q = and_both (ltb x 256) (all_bytes a) e in bytes_more x (a ++ l) (ltb-true x 256 q.0) (bytes-behind a l q.1 b)

pub written-digits : (n : ℕ) (f : List ℕ) → length f ≡ 32 → digits_in (sentence_of n f) ≡ line_of f
unfolding sentence_of
written-digits n f long =
    let end : List ℕ = end_of (checksum (drop 1 (body_of n f))) in
    ap (λ (k : ℕ). take k (line_of f ++ end)) (sym (line_length f long)) ∙ take-append_seam (line_of f) end

module _ (n : ℕ) (f : List ℕ) (listed : In satellites n) (long : length f ≡ 32) (bytes : Bytes f) where
  low : n ≤ 61
  low = listed_below n listed

  abbrev sum : ℕ
  sum = checksum (drop 1 (body_of n f))

  small_sum : sum < 256
  small_sum =
      let named : List ℕ = (0x30 + n / 10) ∷ (0x30 + n % 10) ∷ comma ∷ line_of f in
      let last : Bytes (comma ∷ line_of f) = bytes_more comma (line_of f) (omega arith) (line_bytes f long bytes) in
      let ones : Bytes ((0x30 + n % 10) ∷ comma ∷ line_of f) = bytes_more (0x30 + n % 10) (comma ∷ line_of f) (omega arith) last in
      let two : Bytes named = bytes_more (0x30 + n / 10) ((0x30 + n % 10) ∷ comma ∷ line_of f) (omega (arith, low)) ones in
      sum_below (drop 1 (body_of n f)) (bytes-behind (drop 1 head) named refl two)

  -- ---- what stands where

  end_at : (i : ℕ) → get_or (sentence_of n f) (73 + i) 0 ≡ get_or (end_of sum) i 0
  unfolding sentence_of
  end_at i = ap (λ (k : ℕ). get_or (body_of n f ++ end_of sum) (k + i) 0) (sym (body_length n f long)) ∙ get_or-append-add (body_of n f) (end_of sum) i 0

  front_at : (i : ℕ) → i < 7 → get_or (sentence_of n f) i 0 ≡ get_or head i 0
  unfolding sentence_of
  front_at i h = get_or-append (body_of n f) (end_of sum) 0 i (omega (arith, body_length n f long)) ∙ get_or-append head ((0x30 + n / 10) ∷ (0x30 + n % 10) ∷ comma ∷ line_of f) 0 i h

  high_digit : sum / 16 < 16
  high_digit = omega (arith, small_sum)

  written_formed : Formed (sentence_of n f)
  unfolding sentence_of
  written_formed = record {
    long = omega (arith, body_length n f long, length-append (body_of n f) (end_of sum));
    headed = front_at;
    parted = refl;
    starred = end_at 0;
    checked = (
      subst (In digits) (sym (end_at 1)) (allowed_in digits (capital (sum / 16)) (capital_digit (sum / 16) high_digit)),
      subst (In digits) (sym (end_at 2)) (allowed_in digits (capital (sum % 16)) (capital_digit (sum % 16) (omega arith))),
    );
    ended = (end_at 3, end_at 4);
  }

  written-between : between (sentence_of n f) ≡ drop 1 (body_of n f)
  unfolding sentence_of
  written-between = summed_body n f long (end_of sum)

  written_told : checksum (between (sentence_of n f)) ≡ told_in (sentence_of n f)
  unfolding told_in
  written_told =
      let split : sum ≡ sum / 16 * 16 + sum % 16 = omega arith in
      ap checksum written-between ∙ split
      ∙ sym (ap₂ (λ (x y : ℕ). worth x * 16 + worth y) (end_at 1) (end_at 2) ∙ ap₂ (λ (x y : ℕ). x * 16 + y) (capital-worth (sum / 16) high_digit) (capital-worth (sum % 16) (omega arith)))

  written_satellite : satellite_in (sentence_of n f) ≡ n
  unfolding sentence_of
  written_satellite = named_number (sentence_of n f) n listed (refl, refl)

  written_fine : around_answer (sentence_of n f) ≡ Ok tt
  written_fine = all_three (sentence_of n f) (form_of (sentence_of n f) written_formed) written_told (ap (allowed satellites) written_satellite ∙ in_allowed satellites n listed)

  -- ---- read back

  read_back : field_of f 250 6 ≡ 0 → sentence_reading (sentence_of n f) ≡ received n (read_of f)
  unfolding sentence_reading
  read_back padding =
      ap (λ (v : Verdict). behind v (sentence_of n f)) written_fine
      ∙ ap₂ received written_satellite (ap line_reading (written-digits n f long) ∙ reads_as_frame f long bytes (no_digit_lost f padding))

  pub read_whole : Conforms f → sentence_reading (sentence_of n f) ≡ record { satellite = n; reading = read_of f }
  read_whole c =
      read_back c.padding
      ∙ (λ i. record { satellite = ap (λ (v : Verdict). satellite_of v n) (answer_found (read_answer f) (record_of f) ∙ conforming_fine f c) i; reading = read_of f })
