-- What a store reports is told by the frames that it took.
use Rattle.std.specs.Prelude.{Ok, Err}
use mathlib.Core.Path.{◌≡◌, refl, ap, sym, ◌∙◌}
use mathlib.Core.Bool.{Bool, true, cond}
use mathlib.Core.List.{List}
use Prim.Native.Nat.{ℕ, suc, ◌<◌, ◌≤◌}
use native.Mathlib.Omega.{arith}
use lib.ListN.{length}
use Rattle.rows.specs.declared.refusal.Refusal.TheVariants.{Unsound}
use Rattle.pages.specs.declared.page.Page.{Page}
use Rattle.pages.specs.declared.name.Name.{Name}
use Rattle.bulletin.specs.declared.store.Store.{Store}
use Rattle.bulletin.specs.Stores.{sound_store, page_behind}
use Rattle.bulletin.specs.Counts.{count_marked, lowest_not_held, count_of, Counted}
use Rattle.pages.proofs.States.{Mark, absent, held, disputed, to_page}
use Rattle.histories.specs.Soundness.{InRange}
use Rattle.histories.specs.Frames.{Frame, store_after, Disputed}
use Rattle.histories.specs.Reports.{IsHeld, Reports}
use Rattle.histories.proofs.Soundness.KeptRules.{total_in_range}
use Rattle.histories.proofs.Soundness.Tested.{sound_tested}
use Rattle.histories.proofs.Frames.Takings.{after_stands}
use Rattle.histories.proofs.Histories.Merges.{after_sound, after_name}
use Rattle.histories.proofs.Frames.PageStates.{Tells, mark_for, tells, tells_one}
use Rattle.histories.proofs.Reports.Counts.{Marks, counted, lowest-found, counted_once, found_once}

abbrev pub sound_count : Store → Counted
sound_count s = record { answer = Ok tt; held = count_marked 1 s.pages; disputed = count_marked 2 s.pages; lowest = lowest_not_held s.name.total 0 s.pages }

abbrev pub refused_count : Counted
refused_count = record { answer = Err Unsound; held = 0; disputed = 0; lowest = 0 }

pub count_by : (s : Store) (b : Bool) → sound_store s ≡ b → count_of s ≡ cond b (sound_count s) refused_count
unfolding count_of
count_by s b h = ap (λ (t : Bool). cond t (sound_count s) refused_count) h

-- marks tell apart
zero_not_one : ◌≡◌ {A = ℕ} 0 1 → ⊥
zero_not_one e = omega arith

zero_not_two : ◌≡◌ {A = ℕ} 0 2 → ⊥
zero_not_two e = omega arith

one_not_two : ◌≡◌ {A = ℕ} 1 2 → ⊥
one_not_two e = omega arith

module _ (n : Name) (range : InRange n) (fs : List Frame) where
  pub page-at : (i : ℕ) → i < 63 → page_behind (store_after n fs) i ≡ to_page (mark_for n range fs (suc i))
  unfolding mark_for
  page-at i h = (after_stands n range fs).page i h

  mark-at : (i : ℕ) → i < 63 → (k : ℕ) → (page_behind (store_after n fs) i).mark ≡ k → (to_page (mark_for n range fs (suc i))).mark ≡ k
  mark-at i h k e = ap (λ (p : Page). p.mark) (sym (page-at i h)) ∙ e

  told_mark : (i : ℕ) → i < 63 → (m : Mark) → Tells n range fs (suc i) m → (page_behind (store_after n fs) i).mark ≡ (to_page m).mark
  told_mark i h m t = ap (λ (p : Page). p.mark) (page-at i h ∙ ap to_page (tells_one n range fs (suc i) m t))

  -- held, and disputed
  pub is_held : (p : ℕ) (m : Mark) → Tells n range fs p m → (to_page m).mark ≡ 1 → IsHeld n fs p
  is_held p absent h e = absurd (zero_not_one e)
  is_held p (held t) h e = (t, h)
  is_held p disputed h e = absurd (one_not_two (sym e))

  is_disputed : (p : ℕ) (m : Mark) → Tells n range fs p m → (to_page m).mark ≡ 2 → Disputed n fs p
  is_disputed p absent h e = absurd (zero_not_two e)
  is_disputed p (held t) h e = absurd (one_not_two e)
  is_disputed p disputed h e = h

  pub held_marks : Marks (IsHeld n fs) 1 (store_after n fs).pages n.total
  held_marks = record {
    has = λ i b e. is_held (suc i) (mark_for n range fs (suc i)) (tells n range fs (suc i)) (mark-at i (omega (arith, (total_in_range n range).1)) 1 e);
    is = λ i b h. told_mark i (omega (arith, (total_in_range n range).1)) (held h.0) h.1;
  }

  disputed_marks : Marks (Disputed n fs) 2 (store_after n fs).pages n.total
  disputed_marks = record {
    has = λ i b e. is_disputed (suc i) (mark_for n range fs (suc i)) (tells n range fs (suc i)) (mark-at i (omega (arith, (total_in_range n range).1)) 2 e);
    is = λ i b h. told_mark i (omega (arith, (total_in_range n range).1)) disputed h;
  }

  pub enough : n.total ≤ length (store_after n fs).pages
  enough = omega (arith, (total_in_range n range).1, (after_stands n range fs).long)

  past : (k : ℕ) → (0 ≡ k → ⊥) → (i : ℕ) → n.total ≤ i → i < length (store_after n fs).pages → (page_behind (store_after n fs) i).mark ≡ k → ⊥
  past k differ i l h e =
      let s = after_stands n range fs in
      differ (sym (ap (λ (p : Page). p.mark) (s.page i (omega (arith, s.long)) ∙ ap to_page (s.past i l))) ∙ e)

  pub total_same : (store_after n fs).name.total ≡ n.total
  total_same = ap (λ (x : Name). x.total) (after_name n range fs)

  pub reported : Reports n fs (count_of (store_after n fs))
  reported =
      let e = count_by (store_after n fs) true (sound_tested (store_after n fs) (after_sound n range fs)) in
      let pages = (store_after n fs).pages in
      rw e (record {
        answer = refl;
        held = counted (IsHeld n fs) 1 pages n.total enough held_marks (past 1 zero_not_one);
        disputed = counted (Disputed n fs) 2 pages n.total enough disputed_marks (past 2 zero_not_two);
        lowest = rw total_same (lowest-found (IsHeld n fs) pages n.total enough held_marks);
      })

pub reported_once : (n : Name) (fs : List Frame) (c d : Counted) → Reports n fs c → Reports n fs d → c ≡ d
reported_once n fs c d p q =
    let a = p.answer ∙ sym q.answer in
    let h = counted_once (IsHeld n fs) n.total c.held d.held p.held q.held in
    let x = counted_once (Disputed n fs) n.total c.disputed d.disputed p.disputed q.disputed in
    let l = found_once (IsHeld n fs) n.total c.lowest d.lowest p.lowest q.lowest in
    λ j. record { answer = a j; held = h j; disputed = x j; lowest = l j }
