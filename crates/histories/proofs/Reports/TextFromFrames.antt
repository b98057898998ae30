-- The text of a store is told by the frames that it took.
use Rattle.std.specs.Prelude.{Ok, Err}
use Rattle.rows.specs.Refusals.{Verdict}
use mathlib.Core.Path.{◌≡◌, refl, ap, sym, ◌∙◌, subst}
use mathlib.Core.Bool.{Bool, true, cond}
use mathlib.Core.List.{List, ◌++◌}
use mathlib.Core.Logic.{◌⊎◌, inl, inr, ⊎_elim}
use Prim.Native.Nat.{ℕ, suc, ◌-◌, ◌*◌, ◌<◌, ◌≤◌}
use native.Mathlib.Omega.{arith}
use lib.ListN.{length, take, drop}
use lib.Seq.{length-take-le}
use lib.Dec.{eqb}
use borrow.Author.Tests.{ne_eqb, lt-ltb, le-ltb}
use Rattle.rows.specs.declared.refusal.Refusal.{Refusal}
use Rattle.rows.specs.declared.refusal.Refusal.TheVariants.{Unsound, NotHeld, Short}
use Rattle.pages.specs.declared.page.Page.{Page}
use Rattle.pages.specs.declared.name.Name.{Name}
use Rattle.bulletin.specs.declared.store.Store.{Store}
use Rattle.bulletin.specs.Stores.{sound_store, page_behind}
use Rattle.bulletin.specs.Counts.{lowest_not_held, count_of}
use Rattle.bulletin.specs.Text.{bytes_in_order, text_length_of, why_not_held, text_verdict, with_room, text_answer_by, text_buffer_by}
use Rattle.pages.proofs.States.{Mark, absent, held, disputed, to_page}
use Rattle.histories.specs.Soundness.{InRange}
use Rattle.histories.specs.Frames.{Frame, store_after, page_numbered, Absent, Held, Disputed}
use Rattle.histories.specs.Reports.{All, LowestWithout, IsHeld, in_order, Trimmed, Tells, TellsNothing, NotHeldBecause}
use Rattle.histories.proofs.Soundness.KeptRules.{total_in_range}
use Rattle.histories.proofs.Soundness.Tested.{sound_tested}
use Rattle.histories.proofs.Histories.Merges.{after_sound}
use Rattle.histories.proofs.Histories.FramesForAStore.{came_bytes}
use Rattle.histories.proofs.Frames.PageStates.{Tells as MarkTells, mark_for, tells, tells_one, page_told}
use Rattle.histories.proofs.Reports.Counts.{lowest-found, found_once}
use Rattle.histories.proofs.Reports.Reported.{page-at, held_marks, enough, total_same, reported}
use Rattle.bulletin.proofs.Telling.PageBytes.{text_length-most}
use Rattle.histories.proofs.Reports.Trimming.{trimmed, trimmed_length, length_order, front_bytes}

-- ---- 14 and 15

pub verdict_by_lowest : (s : Store) (k : ℕ) → sound_store s ≡ true → lowest_not_held s.name.total 0 s.pages ≡ k
    → text_verdict s ≡ cond (eqb k 0) (Ok tt) (Err (NotHeld k (why_not_held (page_behind s (k - 1)))))
unfolding text_verdict
verdict_by_lowest s k h e =
    (λ j. cond (h j) (cond (eqb (e j) 0) (Ok tt) (Err (NotHeld (e j) (why_not_held (page_behind s (e j - 1)))))) (Err Unsound))

refused_tells : (s : Store) (x : Refusal) → text_verdict s ≡ Err x → TellsNothing s x
refused_tells s x e = record {
  answer = λ size. ap (λ (v : Verdict). text_answer_by (with_room v (text_length_of s) size) (text_length_of s)) e;
  untouched = λ out. ap (λ (v : Verdict). text_buffer_by (with_room v (text_length_of s) (length out)) (text_length_of s) (bytes_in_order s.pages) out) e;
}

-- ---- 16

roomy : (s : Store) (size : ℕ) → text_verdict s ≡ Ok tt → text_length_of s ≤ size → with_room (text_verdict s) (text_length_of s) size ≡ Ok tt
roomy s size e h = simp (e, le-ltb size (text_length_of s) h)

too_short : (s : Store) (size : ℕ) → text_verdict s ≡ Ok tt → size < text_length_of s → with_room (text_verdict s) (text_length_of s) size ≡ Err Short
too_short s size e h = simp (e, lt-ltb size (text_length_of s) h)

pub fine_tells : (s : Store) → text_verdict s ≡ Ok tt → text_length_of s ≤ length (bytes_in_order s.pages) → Tells s (take (text_length_of s) (bytes_in_order s.pages))
fine_tells s e most =
    let n = text_length_of s in
    let all = bytes_in_order s.pages in
    let long : length (take n all) ≡ n = length-take-le n all most in
    record {
      answer = λ out h. ap (λ (v : Verdict). text_answer_by v n) (roomy s (length out) e (omega (arith, long))) ∙ sym (ap (text_answer_by (Ok tt)) long);
      written = λ out h. ap (λ (v : Verdict). text_buffer_by v n all out) (roomy s (length out) e (omega (arith, long))) ∙ sym (ap (λ (k : ℕ). take n all ++ drop k out) long);
      short = λ out h. ap (λ (v : Verdict). text_answer_by v n) (too_short s (length out) e (omega (arith, long)));
      untouched = λ out h. ap (λ (v : Verdict). text_buffer_by v n all out) (too_short s (length out) e (omega (arith, long)));
    }

module _ (n : Name) (range : InRange n) (fs : List Frame) where
  store_sound : sound_store (store_after n fs) ≡ true
  store_sound = sound_tested (store_after n fs) (after_sound n range fs)

  lowest_is : (k : ℕ) → ((k ≡ 0) × All (IsHeld n fs) n.total) ⊎ LowestWithout (IsHeld n fs) n.total k
      → lowest_not_held (store_after n fs).name.total 0 (store_after n fs).pages ≡ k
  lowest_is k h =
      ap (λ (x : ℕ). lowest_not_held x 0 (store_after n fs).pages) (total_same n range fs)
      ∙ found_once (IsHeld n fs) n.total _ k (lowest-found (IsHeld n fs) (store_after n fs).pages n.total (enough n range fs) (held_marks n range fs)) h

  -- ---- all pages are held

  pub whole_text : (t : ℕ → List ℕ) → ((p : ℕ) → 1 ≤ p → p ≤ n.total → Held n fs p (t p))
      → (text : List ℕ) × Trimmed (in_order t n.total) text × Tells (store_after n fs) text
  whole_text t all =
      let s = store_after n fs in
      let held_at : (i : ℕ) → i < n.total → Held n fs (suc i) (t (suc i)) = λ i b. all (suc i) (omega arith) b in
      let text_at : (i : ℕ) → i < n.total → (page_behind s i).text ≡ t (suc i) = λ i b. ap (λ (p : Page). p.text) (page-at n range fs i (omega (arith, (total_in_range n range).1)) ∙ ap to_page (tells_one n range fs (suc i) (held (t (suc i))) (held_at i b))) in
      let front = front_bytes t s.pages n.total (enough n range fs) text_at (λ i b. (came_bytes n fs (suc i) (t (suc i)) (held_at i b).came).long) in
      let total : s.name.total ≡ n.total = total_same n range fs in
      let long : 18 * s.name.total ≤ length (bytes_in_order s.pages) = omega (arith, front.1) in
      let bytes : take (18 * s.name.total) (bytes_in_order s.pages) ≡ in_order t n.total = ap (λ (k : ℕ). take (18 * k) (bytes_in_order s.pages)) total ∙ front.0 in (
        take (text_length_of s) (bytes_in_order s.pages),
        subst (λ (w : List ℕ). Trimmed w (take (text_length_of s) (bytes_in_order s.pages))) bytes (trimmed (18 * s.name.total) (bytes_in_order s.pages) long),
        fine_tells s (verdict_by_lowest s 0 store_sound (lowest_is 0 (inl (refl, λ p low high. (t p, all p low high))))) (omega (arith, text_length-most (18 * s.name.total) (bytes_in_order s.pages))),
      )

  pub at_most : (t : ℕ → List ℕ) (text : List ℕ) → ((p : ℕ) → 1 ≤ p → p ≤ n.total → Held n fs p (t p)) → Trimmed (in_order t n.total) text → length text ≤ 1134
  at_most t text all h =
      let long = length_order t n.total (λ i b. (came_bytes n fs (suc i) (t (suc i)) (all (suc i) (omega arith) b).came).long) in
      omega (arith, long, trimmed_length (in_order t n.total) text h, (total_in_range n range).1)

  -- ---- one is not

  why_not : (k : ℕ) (m : Mark) → (IsHeld n fs k → ⊥) → MarkTells n range fs k m → ((why_not_held (to_page m) ≡ 1) × Absent n fs k) ⊎ ((why_not_held (to_page m) ≡ 2) × Disputed n fs k)
  unfolding why_not_held
  why_not k absent no_text_lem h = inl (refl, h)
  why_not k (held t) no_text_lem h = absurd (no_text_lem (t, h))
  why_not k disputed no_text_lem h = inr (refl, h)

  pub no_text_lem : (k : ℕ) → LowestWithout (IsHeld n fs) n.total k
      → (mark : ℕ) × NotHeldBecause n fs k mark × TellsNothing (store_after n fs) (NotHeld k mark)
  no_text_lem k h =
      let s = store_after n fs in
      let m = mark_for n range fs k in
      let told = tells n range fs k in
      let here : page_numbered s k ≡ to_page m = page_told n range fs k m h.low h.high told in (
        why_not_held (page_numbered s k),
        record { lowest = h; why = subst (λ (p : Page). ((why_not_held p ≡ 1) × Absent n fs k) ⊎ ((why_not_held p ≡ 2) × Disputed n fs k)) (sym here) (why_not k m h.lacks told) },
        refused_tells s (NotHeld k (why_not_held (page_numbered s k)))
            (verdict_by_lowest s k store_sound (lowest_is k (inr h)) ∙ ap (λ (b : Bool). cond b (Ok tt) (Err (NotHeld k (why_not_held (page_numbered s k))))) (ne_eqb k 0 (λ e. omega (arith, h.low)))),
      )

  -- a page that no frame brought is missed, however many frames came
  pub missed : (p : ℕ) → 1 ≤ p → p ≤ n.total → Absent n fs p
      → (k : ℕ) × (mark : ℕ) × ((count_of (store_after n fs)).lowest ≡ k) × NotHeldBecause n fs k mark × TellsNothing (store_after n fs) (NotHeld k mark)
  missed p low high none =
      ⊎_elim
      (λ all. let h = all.1 p low high in absurd (none h.0 h.1.came))
      (λ h. let t = no_text_lem (count_of (store_after n fs)).lowest h in ((count_of (store_after n fs)).lowest, t.0, refl, t.1, t.2))
      (reported n range fs).lowest
