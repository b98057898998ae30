-- A store opened by `lz_open`, and passed to any list of `lz_take`, has the bytes of the store that took those frames.
use Rattle.rows.specs.Refusals.{Verdict}
use mathlib.Core.Path.{◌≡◌, refl, sym, ap, ◌∙◌}
use mathlib.Core.Bool.{◌&&◌}
use Prim.Native.Nat.{ℕ, ◌≤◌}
use native.Mathlib.Omega.{arith}
use mathlib.Core.List.{List, [], ◌∷◌, ◌++◌, map, append_assoc, append-nil}
use lib.ListN.{length, drop}
use lib.Dec.{eqb}
use borrow.Author.Tests.{eq-eqb}
use Rattle.report.specs.declared.record.Record.{Record}
use Rattle.pages.specs.declared.name.Name.{Name}
use Rattle.bulletin.specs.declared.store.Store.{Store}
use Rattle.bulletin.specs.Stores.{open_of, ShapedStore}
use Rattle.bulletin.specs.Takings.{take_of}
use Rattle.bulletin.specs.Counts.{count_of, Counted}
use Rattle.bulletin.specs.Merges.{merge_of, Merging}
use Rattle.bulletin.proofs.Telling.PageBytes.{Eighteen}
use Rattle.histories.specs.Soundness.{InRange}
use Rattle.histories.specs.Reports.{Reports, Tells}
use Rattle.histories.specs.Frames.{Frame, store_after}
use Rattle.histories.proofs.Claims.{merging_takes_the_frames_of_both, opened_exactly_when_in_range, the_report_is_told_by_the_frames, what_frames_give_is_sound}
use Rattle.histories.proofs.Histories.StoresOfHistories.{takes_append}
use Rattle.record_bytes.specs.Unpacked.{record_from}
use Rattle.record_bytes.proofs.Accepted.{record_shaped}
use Rattle.store_bytes.specs.Stores.{name_from, store_bytes, store_or_zeros}
use Rattle.store_bytes.proofs.Claims.{a_store_has_1205_bytes, store_to_bytes_and_back}
use Rattle.inserter.specs.Answers.{call_result, count_answer, handed_over, length_or_refusal, merge_into, merge_result, open_into, take_into, text_into, text_result, word_bytes}
use Rattle.inserter.proofs.HandedOver.{zero_tells}
use Rattle.inserter.proofs.Claims.{a_report_has_held_disputed_and_lowest}
use Rattle.inserter.proofs.StoreDoors.{into_whole, opening_whole}
use Rattle.calls.specs.Calls.{takes_into}

-- ---- the frame of a record's bytes, whatever they are

abbrev frame_of : List ℕ → Frame
frame_of l = record { came = record_from l; slots = (record_shaped l).slots; text = (record_shaped l).text }

frames_came : (bs : List (List ℕ)) → map (λ (f : Frame). f.came) (map frame_of bs) ≡ map record_from bs
frames_came [] = refl
frames_came (b ∷ bs) = ap (λ (rs : List Record). record_from b ∷ rs) (frames_came bs)

-- ---- one taking

module _ (s : Store) (h : ShapedStore s) where
  eighteen : Eighteen s.pages
  eighteen i l = (h.pages i (omega (arith, l, h.long))).long

  long : length (store_bytes s) ≡ 1205
  long = a_store_has_1205_bytes s h.long eighteen

  store_whole : store_or_zeros (store_bytes s) ≡ s
  unfolding store_or_zeros
  store_whole = rw (eq-eqb (length (store_bytes s)) 1205 long) (store_to_bytes_and_back s h.long eighteen)

  step : (bytes : List ℕ) → (take_into (store_bytes s) bytes).buffer ≡ store_bytes (take_of s (record_from bytes)).store
  step bytes =
      into_whole (take_of (store_or_zeros (store_bytes s)) (record_from bytes)).store (store_bytes s) long
      ∙ ap (λ (z : Store). store_bytes (take_of z (record_from bytes)).store) store_whole

-- ---- any list of them

module _ (n : Name) (range : InRange n) where
  walk : (done : List Frame) (bs : List (List ℕ)) → takes_into (store_bytes (store_after n done)) bs ≡ store_bytes (store_after n (done ++ map frame_of bs))
  walk done [] = ap (λ (fs : List Frame). store_bytes (store_after n fs)) (sym (append-nil done))
  walk done (b ∷ bs) =
      ap (λ (l : List ℕ). takes_into l bs)
      (step (store_after n done) (what_frames_give_is_sound n done range).1 b
      ∙ ap store_bytes (sym (takes_append (open_of n).store done (frame_of b ∷ []))))
      ∙ walk (done ++ frame_of b ∷ []) bs
      ∙ ap (λ (fs : List Frame). store_bytes (store_after n fs)) (append_assoc done (frame_of b ∷ []) (map frame_of bs))

  -- ---- two of them made one

  -- a store after frames is given back by its bytes
  after_whole : (fs : List Frame) → store_or_zeros (store_bytes (store_after n fs)) ≡ store_after n fs
  after_whole fs = store_whole (store_after n fs) (what_frames_give_is_sound n fs range).1

  pub merged-bytes : (a b : List Frame) → merge_into (store_bytes (store_after n a)) (store_bytes (store_after n b)) ≡ call_result 0 (store_bytes (store_after n (a ++ b)))
  merged-bytes a b =
      let first : List ℕ = store_bytes (store_after n a) in
      (λ i. merge_result (merge_of (after_whole a i) (after_whole b i)) first)
      ∙ ap (λ (m : Merging). merge_result m first) (merging_takes_the_frames_of_both n a b range)
      ∙ ap (call_result 0) (into_whole (store_after n (a ++ b)) first (long (store_after n a) (what_frames_give_is_sound n a range).1))

  -- ---- what it reports and tells

  pub reported-bytes : (fs : List Frame) → (c : Counted) × Reports n fs c × (word_bytes (count_answer (store_bytes (store_after n fs))) ≡ 0 ∷ c.held ∷ c.disputed ∷ c.lowest ∷ [])
  reported-bytes fs =
      let bytes : List ℕ = store_bytes (store_after n fs) in
      let reports = the_report_is_told_by_the_frames n fs range in
      let same : count_of (store_or_zeros bytes) ≡ count_of (store_after n fs) = ap count_of (after_whole fs) in (
        count_of (store_after n fs),
        reports,
        a_report_has_held_disputed_and_lowest bytes (ap (λ (c : Counted). c.answer) same ∙ reports.answer)
            ∙ ap (λ (c : Counted). 0 ∷ c.held ∷ c.disputed ∷ c.lowest ∷ []) same,
      )

  pub told_bytes : (fs : List Frame) (text buffer : List ℕ) → Tells (store_after n fs) text → length text ≤ length buffer
      → text_into (store_bytes (store_after n fs)) buffer ≡ call_result (length text) (text ++ drop (length text) buffer)
  unfolding text_result
  told_bytes fs text buffer t h =
      ap (λ (s : Store). text_result s buffer) (after_whole fs)
      ∙ (λ i. call_result (length_or_refusal (t.answer buffer h i).answer (t.answer buffer h i).length) (t.written buffer h i))

-- ---- from the opening on

opened : (name buffer : List ℕ) → (open_into name buffer).answer ≡ 0 → (InRange (name_from name)) × ((open_into name buffer).buffer ≡ store_bytes (open_of (name_from name)).store)
unfolding open_into
opened name buffer e =
    let n = name_from name in
    let o = zero_tells (eqb (length name) 8 && eqb (length buffer) 1205) (open_of n).answer (store_bytes (open_of n).store) buffer e in
    ((opened_exactly_when_in_range n).0 o.0, o.1)

pub opened_and_taken : (name buffer : List ℕ) (bs : List (List ℕ)) → (open_into name buffer).answer ≡ 0
    → (frames : List Frame) × (map (λ (f : Frame). f.came) frames ≡ map record_from bs) × (InRange (name_from name))
    × (takes_into (open_into name buffer).buffer bs ≡ store_bytes (store_after (name_from name) frames))
opened_and_taken name buffer bs e =
    let o = opened name buffer e in
    (map frame_of bs, frames_came bs, o.0, ap (λ (l : List ℕ). takes_into l bs) o.1 ∙ walk (name_from name) o.0 [] bs)

pub in_range_opened : (name buffer : List ℕ) → length name ≡ 8 → length buffer ≡ 1205 → InRange (name_from name)
    → open_into name buffer ≡ call_result 0 (store_bytes (store_after (name_from name) []))
in_range_opened name buffer e f r =
    let n = name_from name in
    opening_whole name buffer e f ∙ ap (λ (v : Verdict). handed_over v (store_bytes (open_of n).store) buffer) ((opened_exactly_when_in_range n).1 r)
