-- What the text of a store is refused for, step by step, and that nothing else is.
use Rattle.std.specs.Prelude.{Ok, Err}
use Rattle.rows.specs.Refusals.{Verdict}
use mathlib.Core.Path.{◌≡◌, refl, ap, sym, ◌∙◌, subst}
use mathlib.Core.Bool.{Bool, true, false, cond}
use mathlib.Core.List.{List}
use mathlib.Core.Logic.{◌⊎◌, ◌↔◌, inl, inr, ⊎_elim}
use Prim.Native.Nat.{ℕ, suc, ◌-◌, ◌*◌, ◌<◌, ◌≤◌}
use native.Mathlib.Omega.{arith}
use lib.ListN.{length, take}
use lib.Seq.{length-take-le}
use lib.Dec.{eqb}
use borrow.Author.Tests.{eq-eqb, ne_eqb, lt-ltb, le-ltb}
use Rattle.rows.specs.declared.refusal.Refusal.{Refusal}
use Rattle.rows.specs.declared.refusal.Refusal.TheVariants.{Unsound, NotHeld, Short}
use Rattle.rows.proofs.Rules.Outcomes.{false_not_true, not_both, same_refusal}
use Rattle.rows.proofs.Rules.Tests.{below?}
use Rattle.pages.specs.declared.page.Page.{Page}
use Rattle.pages.specs.Pages.{no_text, absent_page, disputed_page}
use Rattle.bulletin.specs.declared.store.Store.{Store}
use Rattle.bulletin.specs.Stores.{sound_store, page_behind, ShapedStore}
use Rattle.bulletin.specs.Counts.{lowest_not_held}
use Rattle.bulletin.specs.Text.{bytes_in_order, text_length_of, why_not_held, text_verdict, with_room, text_answer_by, text_answer}
use Rattle.bulletin.proofs.Telling.PageBytes.{text_length-most}
use Rattle.histories.specs.Soundness.{Sound}
use Rattle.histories.specs.Frames.{page_numbered}
use Rattle.histories.specs.Reports.{All, LowestWithout, in_order, Trimmed, Tells}
use Rattle.histories.specs.Reasons.{PageHeld, LowestNotHeld, TextOf, TextFits, WhyNotTold}
use Rattle.histories.proofs.Soundness.KeptRules.{total_in_range}
use Rattle.histories.proofs.Soundness.Tested.{tested_sound, sound_tested}
use Rattle.histories.proofs.Reports.Counts.{Marks, lowest-found, found_once}
use Rattle.histories.proofs.Reports.Trimming.{trimmed, trimmed_once, front_bytes}
use Rattle.histories.proofs.Reports.TextFromFrames.{verdict_by_lowest, fine_tells}

-- ---- one page

marked : (p : Page) (mark : ℕ) (text : List ℕ) → p.mark ≡ mark → p.text ≡ text → p ≡ record { mark = mark; text = text }
marked p mark text e f = λ j. record { mark = e j; text = f j }

-- the mark that 15 tells of a page that is sound and not held
abbrev Why : Page → ℕ → Type 0
Why p mark = ((mark ≡ 1) × (p ≡ absent_page)) ⊎ ((mark ≡ 2) × (p ≡ disputed_page))

why : (p : Page) → (p.mark ≡ 0) ⊎ ((p.mark ≡ 1) ⊎ (p.mark ≡ 2)) → ((p.mark ≡ 0) ⊎ (p.mark ≡ 2) → p.text ≡ no_text) → (p.mark ≡ 1 → ⊥) → Why p (why_not_held p)
unfolding why_not_held
why p three empty no_text_lem =
    ⊎_elim
    (λ e. inl (rw (eq-eqb p.mark 0 e), marked p 0 no_text e (empty (inl e))))
    (λ h. ⊎_elim
    (λ e. absurd (no_text_lem e))
    (λ e. inr (rw (ne_eqb p.mark 0 (λ z. omega (arith, e))), marked p 2 no_text e (empty (inr e))))
    h)
    three

text_by : (v : Verdict) (n : ℕ) → (text_answer_by v n).answer ≡ v
text_by (Ok tt) n = refl
text_by (Err x) n = refl

module _ (s : Store) (shape : ShapedStore s) where
  abbrev lowest_page : ℕ
  lowest_page = lowest_not_held s.name.total 0 s.pages

  told_by : (size : ℕ) (v : Verdict) → text_verdict s ≡ v → (text_answer s size).answer ≡ with_room v (text_length_of s) size
  told_by size v e =
      text_by (with_room (text_verdict s) (text_length_of s) size) (text_length_of s) ∙ ap (λ (w : Verdict). with_room w (text_length_of s) size) e

  -- 14
  unsound : sound_store s ≡ false → text_verdict s ≡ Err Unsound
  unfolding text_verdict
  unsound e = ap (λ (b : Bool). cond b (cond (eqb lowest_page 0) (Ok tt) (Err (NotHeld lowest_page (why_not_held (page_behind s (lowest_page - 1)))))) (Err Unsound)) e

  module _ (sound : Sound s) where
    most : s.name.total ≤ 63
    most = (total_in_range s.name sound.name).1

    enough : s.name.total ≤ length s.pages
    enough = omega (arith, most, shape.long)

    numbered : (i : ℕ) → page_numbered s (suc i) ≡ page_behind s i
    numbered i = let e : suc i - 1 ≡ i = omega arith in ap (page_behind s) e

    held_marks : Marks (PageHeld s) 1 s.pages s.name.total
    held_marks = record {
      has = λ i b e. ((page_behind s i).text, numbered i ∙ marked (page_behind s i) 1 (page_behind s i).text e refl);
      is = λ i b h. ap (λ (p : Page). p.mark) (sym (numbered i) ∙ h.1);
    }

    found : ((lowest_page ≡ 0) × All (PageHeld s) s.name.total) ⊎ LowestWithout (PageHeld s) s.name.total lowest_page
    found = lowest-found (PageHeld s) s.pages s.name.total enough held_marks

    verdict_is : text_verdict s ≡ cond (eqb lowest_page 0) (Ok tt) (Err (NotHeld lowest_page (why_not_held (page_behind s (lowest_page - 1)))))
    verdict_is = verdict_by_lowest s lowest_page (sound_tested s sound) refl

    -- 15
    not_held : LowestWithout (PageHeld s) s.name.total lowest_page
        → (mark : ℕ) × LowestNotHeld s lowest_page mark × (text_verdict s ≡ Err (NotHeld lowest_page mark))
    not_held l =
        let i = lowest_page - 1 in
        let here : i < length s.pages = omega (arith, l.low, l.high, enough) in (
          why_not_held (page_behind s i),
          record { lowest = l; why = why (page_behind s i) (sound.state i here) (sound.empty i here) (λ e. l.lacks ((page_behind s i).text, marked (page_behind s i) 1 (page_behind s i).text e refl)) },
          verdict_is ∙ ap (λ (b : Bool). cond b (Ok tt) (Err (NotHeld lowest_page (why_not_held (page_behind s i))))) (ne_eqb lowest_page 0 (λ e. omega (arith, l.low))),
        )

    all_held : lowest_page ≡ 0 → text_verdict s ≡ Ok tt
    all_held e = verdict_is ∙ ap (λ (b : Bool). cond b (Ok tt) (Err (NotHeld lowest_page (why_not_held (page_behind s (lowest_page - 1)))))) (eq-eqb lowest_page 0 e)

    -- 16
    abbrev text : List ℕ
    text = take (text_length_of s) (bytes_in_order s.pages)

    bytes : (take (18 * s.name.total) (bytes_in_order s.pages) ≡ in_order (λ p. (page_numbered s p).text) s.name.total) × (18 * s.name.total ≤ length (bytes_in_order s.pages))
    bytes = front_bytes (λ p. (page_numbered s p).text) s.pages s.name.total enough (λ i b. ap (λ (p : Page). p.text) (sym (numbered i))) (λ i b. ap (λ (p : Page). length p.text) (numbered i) ∙ (shape.pages i (omega (arith, most))).long)

    room : text_length_of s ≤ length (bytes_in_order s.pages)
    room = omega (arith, bytes.1, text_length-most (18 * s.name.total) (bytes_in_order s.pages))

    text_is : TextOf s text
    text_is = subst (λ (w : List ℕ). Trimmed w text) bytes.0 (trimmed (18 * s.name.total) (bytes_in_order s.pages) bytes.1)

    text-length : length text ≡ text_length_of s
    text-length = length-take-le (text_length_of s) (bytes_in_order s.pages) room

    fits : (size : ℕ) → TextFits s size → text_length_of s ≤ size
    fits size f = omega (arith, f.2, text-length, ap length (trimmed_once _ text f.0 text_is f.1))

    pub whole_told : All (PageHeld s) s.name.total → (t : List ℕ) × TextOf s t × Tells s t
    whole_told all = (text, text_is, fine_tells s (all_held (found_once (PageHeld s) s.name.total lowest_page 0 found (inl (refl, all)))) room)

  -- ---- the four ways out

  abbrev Outcome : ℕ → Type 0
  Outcome size =
      ((Sound s → ⊥) × ((text_answer s size).answer ≡ Err Unsound))
      ⊎ (Sound s
      × (((k : ℕ) × (mark : ℕ) × LowestNotHeld s k mark × ((text_answer s size).answer ≡ Err (NotHeld k mark)))
      ⊎ (All (PageHeld s) s.name.total
      × (((TextFits s size → ⊥) × ((text_answer s size).answer ≡ Err Short)) ⊎ (TextFits s size × ((text_answer s size).answer ≡ Ok tt))))))

  outcome : (size : ℕ) → Outcome size
  outcome size = by (sound_store s) refl
    where
      by : (b : Bool) → sound_store s ≡ b → Outcome size
      by false e = inl (λ h. false_not_true (sym e ∙ sound_tested s h), told_by size (Err Unsound) (unsound e))
      by true e =
          let sound = tested_sound s e in
          inr (
            sound,
            ⊎_elim
                (λ f. inr (
                  f.1,
                  ⊎_elim
                      (λ less. inl (λ t. omega (arith, fits sound size t), told_by size (Ok tt) (all_held sound f.0) ∙ rw (lt-ltb size (text_length_of s) less)))
                      (λ more. inr ((text sound, text_is sound, omega (arith, text-length sound)), told_by size (Ok tt) (all_held sound f.0) ∙ rw (le-ltb size (text_length_of s) more)))
                      (below? size (text_length_of s)),
                ))
                (λ l. let n = not_held sound l in inl (lowest_page, n.0, n.1, told_by size (Err (NotHeld lowest_page n.0)) n.2))
                (found sound),
          )

  pub text_reason : (size : ℕ) (x : Refusal) → (text_answer s size).answer ≡ Err x → WhyNotTold s size x
  text_reason size x e =
      ⊎_elim
      (λ u. inl (u.0, same_refusal x Unsound (sym e ∙ u.1)))
      (λ u. inr (
        u.0,
        ⊎_elim
            (λ n. inl (n.0, n.1, n.2, same_refusal x (NotHeld n.0 n.1) (sym e ∙ n.3)))
            (λ a. inr (a.0, ⊎_elim (λ f. inl (f.0, same_refusal x Short (sym e ∙ f.1))) (λ f. absurd (not_both _ x f.1 e)) a.1))
            u.1,
      ))
      (outcome size)

  pub text_exactly : (size : ℕ) → (text_answer s size).answer ≡ (Ok tt) ↔ (Sound s × All (PageHeld s) s.name.total × TextFits s size)
  text_exactly size = (
    λ e.
        ⊎_elim
        (λ u. absurd (not_both _ Unsound e u.1))
        (λ u. ⊎_elim
        (λ n. absurd (not_both _ (NotHeld n.0 n.1) e n.3))
        (λ a. ⊎_elim (λ f. absurd (not_both _ Short e f.1)) (λ f. (u.0, a.0, f.0)) a.1)
        u.1)
        (outcome size),
    λ h.
        ⊎_elim
        (λ u. absurd (u.0 h.0))
        (λ u. ⊎_elim
        (λ n. let l = n.2.lowest in absurd (l.lacks (h.1 n.0 l.low l.high)))
        (λ a. ⊎_elim (λ f. absurd (f.0 h.2)) (λ f. f.1) a.1)
        u.1)
        (outcome size),
  )
