-- A sentence of the right form, piece by piece, beside the one that we would write.
use mathlib.Core.Path.{◌≡◌, sym, ap, ap₂, ◌∙◌}
use mathlib.Core.Bool.{true}
use mathlib.Core.List.{List, [], ◌∷◌, ◌++◌, append_assoc}
use Prim.Native.Nat.{ℕ, zero, suc, ◌+◌, ◌/◌, ◌%◌, ◌≤◌}
use native.Mathlib.Omega.{arith}
use lib.ListN.{length, take, drop, get_or, length-append, length-drop, take-append-drop, drop_of_length-le}
use lib.Seq.{drop-cons, drop-drop, take_at, drop_at, length-take-le, take-append_seam}
use Rattle.rows.proofs.Rules.Spans.{in_allowed}
use Rattle.line.specs.Lines.{digits, worth, capital, upper, capitals, is_line, frame_of_line}
use Rattle.line.proofs.DigitValues.{worth_small, worth-capital}
use Rattle.line.proofs.ThereAndBack.{line_back}
use Rattle.sentence.specs.Sentences.{head, comma, star, checksum, part, between, digits_in, told_in, body_of, end_of, sentence_of}
use Rattle.sentence.specs.Reasons.{Formed, Names}

-- n characters from a place on, one by one
abbrev chars : ℕ → ℕ → List ℕ → List ℕ
chars zero i s = []
chars (suc n) i s = get_or s i 0 ∷ chars n (suc i) s

run : (n i : ℕ) (s : List ℕ) → i + n ≤ length s → drop i s ≡ chars n i s ++ drop (i + n) s
run zero i s h = let e : i ≡ i + 0 = omega arith in ap (λ (k : ℕ). drop k s) e
run (suc n) i s h =
    let e : suc i + n ≡ i + suc n = omega arith in
    drop-cons s i 0 (omega arith)
    ∙ ap (λ (t : List ℕ). get_or s i 0 ∷ t) (run n (suc i) s (omega arith) ∙ ap (λ (k : ℕ). chars n (suc i) s ++ drop k s) e)

module _ (s : List ℕ) (f : Formed s) where
  -- behind the digits
  end : drop 73 s ≡ star ∷ get_or s 74 0 ∷ get_or s 75 0 ∷ 0x0D ∷ 0x0A ∷ []
  end =
      let none : drop 78 s ≡ [] = drop_of_length-le s {i = 78} (omega (arith, f.long)) in
      run 5 73 s (omega (arith, f.long)) ∙ (λ j. f.starred j ∷ get_or s 74 0 ∷ get_or s 75 0 ∷ f.ended.0 j ∷ f.ended.1 j ∷ none j)

  -- up to the digits, and with them
  abbrev front : List ℕ
  front = head ++ (get_or s 7 0 ∷ get_or s 8 0 ∷ comma ∷ digits_in s)

  pub pieces : s ≡ front ++ (star ∷ get_or s 74 0 ∷ get_or s 75 0 ∷ 0x0D ∷ 0x0A ∷ [])
  pieces =
      let rest : drop 10 s ≡ digits_in s ++ (star ∷ get_or s 74 0 ∷ get_or s 75 0 ∷ 0x0D ∷ 0x0A ∷ []) =
      sym (take-append-drop 63 (drop 10 s)) ∙ ap (λ (t : List ℕ). digits_in s ++ t) (drop-drop 63 10 s ∙ end) in
      run 10 0 s (omega (arith, f.long))
      ∙ (λ j. f.headed 0 (omega arith) j ∷ f.headed 1 (omega arith) j ∷ f.headed 2 (omega arith) j ∷ f.headed 3 (omega arith) j ∷ f.headed 4 (omega arith) j ∷ f.headed 5 (omega arith) j
      ∷ f.headed 6 (omega arith) j ∷ get_or s 7 0 ∷ get_or s 8 0 ∷ f.parted j ∷ rest j)

  pub satellite_at : part 7 2 s ≡ get_or s 7 0 ∷ get_or s 8 0 ∷ []
  satellite_at = ap (take 2) (run 2 7 s (omega (arith, f.long)))

  pub digits_long : length (digits_in s) ≡ 63
  digits_long = length-take-le 63 (drop 10 s) (omega (arith, length-drop 10 s, f.long))

  -- the checksum is taken of what stands behind the dollar, up to the digits' end
  between_is : between s ≡ drop 1 front
  between_is =
      let e : length (drop 1 front) ≡ 72 = omega (arith, digits_long) in
      ap between pieces ∙ ap (λ (k : ℕ). take k (drop 1 front ++ (star ∷ get_or s 74 0 ∷ get_or s 75 0 ∷ 0x0D ∷ 0x0A ∷ []))) (sym e) ∙ take-append_seam (drop 1 front) (star ∷ get_or s 74 0 ∷ get_or s 75 0 ∷ 0x0D ∷ 0x0A ∷ [])

  -- ---- the digits of the checksum are those of the number

  module _ (told : checksum (between s) ≡ told_in s) where
    high : worth (get_or s 74 0) ≡ checksum (between s) / 16
    unfolding told_in
    high = omega (arith, told, worth_small (get_or s 75 0) (in_allowed digits (get_or s 75 0) f.checked.1))

    low : worth (get_or s 75 0) ≡ checksum (between s) % 16
    unfolding told_in
    low = omega (arith, told, worth_small (get_or s 75 0) (in_allowed digits (get_or s 75 0) f.checked.1))

    pub summed : (upper (get_or s 74 0) ≡ capital (checksum (between s) / 16)) × (upper (get_or s 75 0) ≡ capital (checksum (between s) % 16))
    summed = (
      sym (worth-capital (get_or s 74 0) (in_allowed digits (get_or s 74 0) f.checked.0)) ∙ ap capital high,
      sym (worth-capital (get_or s 75 0) (in_allowed digits (get_or s 75 0) f.checked.1)) ∙ ap capital low,
    )

    -- ---- the one that we would write

    module _ (n : ℕ) (names : Names s n) (line : is_line (digits_in s) ≡ true) (large : capitals (digits_in s) ≡ digits_in s) where
      body_is : body_of n (frame_of_line (digits_in s)) ≡ front
      body_is = λ j. head ++ (sym names.0 j ∷ sym names.1 j ∷ comma ∷ (line_back (digits_in s) line ∙ large) j)

      pub would_write : sentence_of n (frame_of_line (digits_in s)) ≡ take 74 s ++ (upper (get_or s 74 0) ∷ upper (get_or s 75 0) ∷ drop 76 s)
      unfolding sentence_of
      would_write =
          let sum : checksum (drop 1 (body_of n (frame_of_line (digits_in s)))) ≡ checksum (between s) = ap checksum (ap (drop 1) body_is ∙ sym between_is) in
          let two : List ℕ = get_or s 74 0 ∷ get_or s 75 0 ∷ 0x0D ∷ 0x0A ∷ [] in
          let starred : List ℕ = front ++ (star ∷ []) in
          let cut : s ≡ starred ++ two = pieces ∙ sym (append_assoc front (star ∷ []) two) in
          let long : length starred ≡ 74 = omega (arith, length-append front (star ∷ []), digits_long) in
          let start : take 74 s ≡ starred = ap (take 74) cut ∙ take_at starred two 74 long in
          let behind : drop 76 s ≡ 0x0D ∷ 0x0A ∷ [] = sym (drop-drop 2 74 s) ∙ ap (drop 2) (ap (drop 74) cut ∙ drop_at starred two 74 long) in
          ap₂ (λ (b : List ℕ) (k : ℕ). b ++ end_of k) body_is sum
          ∙ (λ j. front ++ (star ∷ sym summed.0 j ∷ sym summed.1 j ∷ 0x0D ∷ 0x0A ∷ []))
          ∙ sym (append_assoc front (star ∷ []) (upper (get_or s 74 0) ∷ upper (get_or s 75 0) ∷ 0x0D ∷ 0x0A ∷ []))
          ∙ sym (ap₂ (λ (a b : List ℕ). a ++ (upper (get_or s 74 0) ∷ upper (get_or s 75 0) ∷ b)) start behind)
