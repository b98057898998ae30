-- What is proved of the page store, by sentence of document 01.
use Rattle.bulletin.specs.declared.take.Took.TheVariants.{New, Same, Disputed}
use Rattle.std.specs.Prelude.{Ok, Err}
use Rattle.rows.specs.Refusals.{Verdict}
use mathlib.Core.Path.{◌≡◌, refl, ap, sym, ◌∙◌}
use mathlib.Core.Logic.{◌⊎◌, inl, inr}
use mathlib.Core.Bool.{Bool, true, false, cond}
use native.Mathlib.Omega.{arith}
use mathlib.Core.List.{List}
use Prim.Native.Nat.{ℕ, ◌-◌, ◌<◌}
use lib.ListN.{length}
use Rattle.report.specs.declared.record.Record.{Record}
use Rattle.nankai.specs.declared.PageNumbers.{PageNumbers}
use Rattle.rows.specs.declared.refusal.Refusal.{Refusal}
use Rattle.rows.specs.declared.refusal.Refusal.TheVariants.{Unsound}
use Rattle.report.specs.Runs.Writing.{write_answer, Valid}
use Rattle.pages.specs.declared.name.Name.{Name}
use Rattle.bulletin.specs.declared.store.Store.{Store}
use Rattle.pages.specs.Pages.{held_page, disputed_page}
use Rattle.nankai.specs.Nankai.{nankai}
use Rattle.rows.specs.Faults.{Lowest}
use Rattle.pages.specs.Names.{name_verdict, same_name, name_values}
use Rattle.bulletin.specs.Stores.{no_pages, zero_store, opening, open_of, sound_store, page_behind}
use Rattle.bulletin.specs.Takings.{bulletin_of, page_number_in, writable, admission, put_page, taking, take_of, taken_says, Admission, Taken}
use Rattle.bulletin.specs.Merges.{merge_verdict, merging, merge_of}
use Rattle.bulletin.specs.Counts.{count_marked, count_of, lowest_not_held, Counted}
use Rattle.rows.proofs.Rules.Outcomes.{not_both}
use Rattle.report.proofs.Claims.{refusals_are_1_to_20}
use Rattle.bulletin.proofs.Taking.TakingOutcomes.{of_bulletin, writable_record}
use Rattle.pages.proofs.Ranges.{first_bad_value, name_rc}
use Rattle.bulletin.proofs.Taking.TakenOrRefused.{put_answer}
use Rattle.bulletin.proofs.Taking.HeldTexts.{taking_keeps}
use Rattle.report.specs.declared.body.Body.TheVariants.{Nankai}
use Rattle.report.specs.Categories.{paged_of}

-- "So every name in range is opened": without a page
pub every_name_in_range_is_opened : (n : Name) → name_verdict n ≡ Ok tt → open_of n ≡ record { answer = Ok tt; store = no_pages n }
every_name_in_range_is_opened n e = ap (λ (v : Verdict). opening v n) e

-- "Opening: 8 at the first bad value in frame order": of the values of the bulletin's first page, by the table of category 4
pub opening_is_refused_at_the_first_bad_value : (n : Name) (x : Refusal) → name_verdict n ≡ Err x → Lowest nankai (name_values n) x
opening_is_refused_at_the_first_bad_value = first_bad_value

-- "Rc: 2 or 7": so it is in the name of a bulletin, though a category may have others
pub a_name_in_range_has_rc_2_or_7 : (n : Name) → name_verdict n ≡ Ok tt → (n.common.rc ≡ 2) ⊎ (n.common.rc ≡ 7)
a_name_in_range_has_rc_2_or_7 = name_rc

-- "a refused opening [gives] a store of zeros"
pub a_refused_opening_gives_zeros : (n : Name) (x : Refusal) → name_verdict n ≡ Err x → (open_of n).store ≡ zero_store
a_refused_opening_gives_zeros n x e = ap (λ (v : Verdict). (opening v n).store) e

-- "A refused taking leaves the store as given"
pub a_refused_taking_leaves_the_store : (s : Store) (r : Record) (x : Refusal) → admission s r ≡ Err x → (take_of s r).store ≡ s
unfolding taking
a_refused_taking_leaves_the_store s r x e = ap (λ (a : Admission). (taking a s r.text).store) e

-- the same, told by the answer
pub an_answered_refusal_leaves_the_store : (s : Store) (r : Record) (x : Refusal) → (take_of s r).answer ≡ Err x → (take_of s r).store ≡ s
unfolding taking
an_answered_refusal_leaves_the_store s r x = by (admission s r)
  where
    by : (a : Admission) → (taking a s r.text).answer ≡ Err x → (taking a s r.text).store ≡ s
    by (Ok k) e = absurd (put_answer s (k - 1) r.text x e)
    by (Err y) e = refl

-- .. "and answers none of new, same, disputed": what says 0 is one of them, and no refusal says 0
pub zero_says_that_a_page_was_taken : (t : Taken) → (taken_says t).number ≡ 0 → (t ≡ (Ok New)) ⊎ (t ≡ (Ok Same)) ⊎ (t ≡ (Ok Disputed))
zero_says_that_a_page_was_taken (Ok New) e = inl refl
zero_says_that_a_page_was_taken (Ok Same) e = inr (inl refl)
zero_says_that_a_page_was_taken (Ok Disputed) e = inr (inr refl)
zero_says_that_a_page_was_taken (Err x) e = absurd (omega (arith, (refusals_are_1_to_20 x).0, e))

-- "a refused merge [gives] the first store as given"
pub a_refused_merge_gives_the_first : (s o : Store) (x : Refusal) → merge_verdict s o ≡ Err x → (merge_of s o).store ≡ s
a_refused_merge_gives_the_first s o x e = ap (λ (v : Verdict). (merging v s o).store) e

-- "all else is disputed": the text of a held page is never replaced by another, whatever is taken. What merging keeps to is
-- claimed in `histories`, of every sound store.
pub a_held_text_is_not_replaced_by_a_taking : (s : Store) (r : Record) (i : ℕ) (t : List ℕ) → i < length s.pages → page_behind s i ≡ held_page t
    → (page_behind (take_of s r).store i ≡ held_page t) ⊎ (page_behind (take_of s r).store i ≡ disputed_page)
a_held_text_is_not_replaced_by_a_taking s r i t h e = taking_keeps s (admission s r) r.text i t h e

-- "a sound store takes every valid page of its bulletin"
pub a_sound_store_takes_every_page : (s : Store) (r : Record) (p : PageNumbers) → sound_store s ≡ true → Valid r → r.body ≡ Nankai p
    → same_name (bulletin_of r.common p) s.name ≡ true → take_of s r ≡ put_page s (p.number - 1) r.text
unfolding taking
a_sound_store_takes_every_page s r p e v f g =
    ap (λ (a : Admission). taking a s r.text) (sym (of_bulletin s.name r.common r.body p (ap paged_of f) g ∙ writable_record s r (write_answer r 32) e refl v))

-- "14, then what writing that record to 32 bytes would refuse": a record that cannot be written, be it for a spare that is too wide, is
-- refused with that, and the store is as it was
pub a_sound_store_refuses_what_writing_refuses : (s : Store) (r : Record) (x : Refusal) → sound_store s ≡ true → write_answer r 32 ≡ Err x
    → take_of s r ≡ record { answer = Err x; store = s }
unfolding taking admission
a_sound_store_refuses_what_writing_refuses s r x e w = simp (e, w)

-- "Preamble and Reserved play no part", and "pages that differ only in spares are the same page"
asked : (s : Store) (r : Record) → Valid r → admission s r ≡ cond (sound_store s) (page_number_in s.name r.common r.body) (Err Unsound)
unfolding admission
asked s r v = ap (λ (w : Verdict). cond (sound_store s) (writable w (page_number_in s.name r.common r.body)) (Err Unsound)) v

pub preamble_reserved_and_spares_play_no_part : (s : Store) (r q : Record) → Valid r → Valid q → r.common ≡ q.common → r.body ≡ q.body
    → r.text ≡ q.text → take_of s r ≡ take_of s q
preamble_reserved_and_spares_play_no_part s r q v w c b t =
    ap (λ (a : Admission). taking a s r.text) (asked s r v)
    ∙ (λ j. taking (cond (sound_store s) (page_number_in s.name (c j) (b j)) (Err Unsound)) s (t j))
    ∙ sym (ap (λ (a : Admission). taking a s q.text) (asked s q w))

-- "The reports of a store: 14"; "A refused report gives zeros": where the store is not sound, and there alone
pub a_refused_report_gives_zeros : (s : Store) (x : Refusal) → (count_of s).answer ≡ Err x
    → (sound_store s ≡ false) × (count_of s ≡ record { answer = Err Unsound; held = 0; disputed = 0; lowest = 0 })
unfolding count_of
a_refused_report_gives_zeros s x = by (sound_store s) refl
  where
    told : Counted
    told = record { answer = Ok tt; held = count_marked 1 s.pages; disputed = count_marked 2 s.pages; lowest = lowest_not_held s.name.total 0 s.pages }

    none : Counted
    none = record { answer = Err Unsound; held = 0; disputed = 0; lowest = 0 }

    by : (b : Bool) → sound_store s ≡ b → (cond (sound_store s) told none).answer ≡ Err x → (sound_store s ≡ false) × (cond (sound_store s) told none ≡ none)
    by true e h = absurd (not_both (Ok tt) x refl (ap (λ (b : Bool). (cond b told none).answer) (sym e) ∙ h))
    by false e h = (e, ap (λ (b : Bool). cond b told none) e)
