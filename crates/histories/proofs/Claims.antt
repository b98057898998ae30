-- What is proved of a store from its opening on, through takings and merges, each claim with the sentence of document 01 that
-- it settles.
use Rattle.bulletin.specs.declared.take.Took.TheVariants.{New, Same, Disputed as AnswersDisputed}
use Rattle.std.specs.Prelude.{Ok, Err}
use mathlib.Core.Path.{◌≡◌, refl, sym, subst}
use mathlib.Core.Bool.{true}
use mathlib.Core.List.{List, ◌++◌}
use mathlib.Core.Logic.{◌↔◌, ◌⊎◌}
use Prim.Native.Nat.{ℕ, ◌≤◌, ◌<◌}
use lib.ListN.{length, replicate}
use Rattle.rows.specs.declared.refusal.Refusal.{Refusal}
use Rattle.rows.specs.declared.refusal.Refusal.TheVariants.{Unsound, NotHeld}
use Rattle.rows.specs.Faults.{Met}
use Rattle.report.specs.declared.record.Record.{Record}
use Rattle.report.specs.Runs.Writing.{Valid}
use Rattle.pages.specs.declared.name.Name.{Name}
use Rattle.bulletin.specs.declared.store.Store.{Store}
use Rattle.pages.specs.Pages.{absent_page, held_page, disputed_page}
use Rattle.bulletin.specs.Stores.{no_pages, open_of, sound_store, page_behind, ShapedStore}
use Rattle.bulletin.specs.Takings.{take_of}
use Rattle.bulletin.specs.Counts.{count_of, Counted}
use Rattle.bulletin.specs.Merges.{joined_stores, merge_of}
use Rattle.bulletin.specs.Text.{text_answer}
use Rattle.bulletin.proofs.Claims.{every_name_in_range_is_opened}
use Rattle.pages.proofs.States.{absent, held, disputed}
use Rattle.histories.specs.Soundness.{InRange, Sound}
use Rattle.histories.specs.Frames.{Frame, store_after, page_numbered, SameFrames, SamePages, Alike, Brings, Came, Absent, Held, Disputed, AllTaken}
use Rattle.histories.specs.Merging.{Tree, tree_store, all_frames}
use Rattle.histories.specs.Histories.{History, history_store, frames_of, GoesOn}
use Rattle.histories.specs.Reports.{All, LowestWithout, IsHeld, Reports, in_order, Trimmed, Tells, TellsNothing, NotHeldBecause}
use Rattle.histories.specs.Reasons.{WhyNotOpened, merge_questions, WhyNotMerged, WhyNotReported, page_questions, WhyNotTaken, PageHeld, TextOf, TextFits, WhyNotTold}
use Rattle.histories.specs.Examples.{of_two_pages, came_twice, came_both}
use Rattle.histories.proofs.Soundness.NameRanges.{in_range_fine}
use Rattle.histories.proofs.Soundness.Tested.{tested_sound, sound_tested}
use Rattle.histories.proofs.Frames.TextsBrought.{alike_brings}
use Rattle.histories.proofs.Frames.PageStates.{told_page, page_told, same_pages, frames_bring}
use Rattle.histories.proofs.Frames.Answers.{taken_brings, brings_not_refused, answers_new, answers_same, answers_disputed, answers_still_disputed}
use Rattle.histories.proofs.Histories.Merges.{merge_joins, joined_sound, commutes, associates, repeats, held_kept, after_sound, merge_after, tree_after, same_trees}
use Rattle.histories.proofs.Histories.FramesForAStore.{sound_given, after-shaped}
use Rattle.histories.proofs.Histories.StoresOfHistories.{joined-shaped, history_after, history_sound, history_shaped, held_from_then_on, disputed_from_then_on, any_store}
use Rattle.histories.proofs.Refusals.StoreAnswers.{open_exactly, open_reason, merge_exactly, merge_reason, report_exactly, report_reason, unsound_reported}
use Rattle.histories.proofs.Refusals.TakingSteps.{take_exactly, take_reason}
use Rattle.histories.proofs.Refusals.TextSteps.{text_exactly, text_reason, whole_told}
use Rattle.histories.proofs.Reports.Reported.{reported, reported_once}
use Rattle.histories.proofs.Reports.Trimming.{trimmed_once}
use Rattle.histories.proofs.Reports.TextFromFrames.{whole_text, at_most, no_text_lem, missed}
use Rattle.histories.proofs.Reports.Complete.{complete_reported, complete_told}
use Rattle.histories.proofs.Reports.OnePageTwice.{all-taken, twice_reported, twice_told}

-- ---- opened and sound

-- "So every name in range is opened", and no other ..
pub opened_exactly_when_in_range : (n : Name) → (open_of n).answer ≡ (Ok tt) ↔ InRange n
opened_exactly_when_in_range n = open_exactly n

-- .. "it starts with no page"
pub opened_without_a_page : (n : Name) → InRange n → open_of n ≡ record { answer = Ok tt; store = no_pages n }
opened_without_a_page n r = every_name_in_range_is_opened n (in_range_fine n r)

-- "Opening: 8 at the first bad value in frame order; the total is 1-63, at bit 207"
pub opening_refused_for_a_reason : (n : Name) (x : Refusal) → (open_of n).answer ≡ Err x → WhyNotOpened n x
opening_refused_for_a_reason n x e = open_reason n x e

-- "A store is sound when its name is in range, each page's state is one of the three, absent and disputed pages hold zero
-- bytes, and pages past the total are absent": the test of a store, whatever stands in it, asks just that.
pub sound_exactly_when_tested : (s : Store) → sound_store s ≡ true ↔ Sound s
sound_exactly_when_tested s = (tested_sound s, sound_tested s)

-- ---- taken

-- "a sound store takes every valid page of its bulletin", and nothing else
pub taken_exactly_when_a_page_of_the_bulletin : (s : Store) (r : Record) → Sound s
    → ((x : Refusal) → (take_of s r).answer ≡ Err x → ⊥) ↔ ((p : ℕ) × Brings s.name r p r.text)
taken_exactly_when_a_page_of_the_bulletin s r h = (taken_brings s r, λ b. brings_not_refused s r b.0 r.text h b.1)

-- "Taking: 14, then what writing that record to 32 bytes would refuse, 12, 13": the condition of the number fails, and every
-- earlier one holds ..
pub taking_refused_for_a_reason : (s : Store) (r : Record) (x : Refusal) → (take_of s r).answer ≡ Err x → WhyNotTaken s r x
taking_refused_for_a_reason s r x e = take_reason s r x e

-- .. and where all of them hold, and there alone, it is not refused: "where no row tested by a call applies, the call succeeds"
pub taken_exactly_when_nothing_is_wrong : (s : Store) (r : Record)
    → ((x : Refusal) → (take_of s r).answer ≡ Err x → ⊥) ↔ (Sound s × Valid r × Met (page_questions s.name r))
taken_exactly_when_nothing_is_wrong s r = take_exactly s r

-- "Each page from 1 to the total is absent, held with its 18 bytes, or disputed": absent exactly when no frame brought it ..
pub absent_exactly_when_none_came : (n : Name) (frames : List Frame) (p : ℕ) → InRange n → 1 ≤ p → p ≤ n.total
    → page_numbered (store_after n frames) p ≡ absent_page ↔ Absent n frames p
absent_exactly_when_none_came n frames p r low high = (told_page n r frames p absent low high, page_told n r frames p absent low high)

-- .. held with a text exactly when a frame brought it with that text, and every frame that brought it did ..
pub held_exactly_when_one_text_came : (n : Name) (frames : List Frame) (p : ℕ) (t : List ℕ) → InRange n → 1 ≤ p → p ≤ n.total
    → page_numbered (store_after n frames) p ≡ held_page t ↔ Held n frames p t
held_exactly_when_one_text_came n frames p t r low high = (told_page n r frames p (held t) low high, page_told n r frames p (held t) low high)

-- .. and disputed exactly when two frames brought it with texts that differ: neither does the second text replace the first,
-- nor is it "dropped unseen".
pub disputed_exactly_when_two_differ : (n : Name) (frames : List Frame) (p : ℕ) → InRange n → 1 ≤ p → p ≤ n.total
    → page_numbered (store_after n frames) p ≡ disputed_page ↔ Disputed n frames p
disputed_exactly_when_two_differ n frames p r low high = (told_page n r frames p disputed low high, page_told n r frames p disputed low high)

-- "Taking a page answers new where it was absent" ..
pub new_where_none_came : (n : Name) (frames : List Frame) (f : Frame) (p : ℕ) (t : List ℕ) → InRange n → Brings n f.came p t
    → Absent n frames p → (take_of (store_after n frames) f.came).answer ≡ (Ok New)
new_where_none_came n frames f p t r b h = answers_new n r frames f p t b h

-- .. "same where it was held with those 18 bytes" ..
pub same_where_that_text_came : (n : Name) (frames : List Frame) (f : Frame) (p : ℕ) (t : List ℕ) → InRange n → Brings n f.came p t
    → Held n frames p t → (take_of (store_after n frames) f.came).answer ≡ (Ok Same)
same_where_that_text_came n frames f p t r b h = answers_same n r frames f p t b h

-- .. "and disputed otherwise": where another text had come
pub disputed_where_another_came : (n : Name) (frames : List Frame) (f : Frame) (p : ℕ) (t u : List ℕ) → InRange n → Brings n f.came p t
    → Came n frames p u → (u ≡ t → ⊥) → (take_of (store_after n frames) f.came).answer ≡ (Ok AnswersDisputed)
disputed_where_another_came n frames f p t u r b c d = answers_disputed n r frames f p t b u c d

-- .. and so it is where the page was disputed already
pub disputed_where_it_was_disputed : (n : Name) (frames : List Frame) (f : Frame) (p : ℕ) (t : List ℕ) → InRange n → Brings n f.came p t
    → Disputed n frames p → (take_of (store_after n frames) f.came).answer ≡ (Ok AnswersDisputed)
disputed_where_it_was_disputed n frames f p t r b h = answers_still_disputed n r frames f p t b h

-- In whatever order frames come, and however often ("one may have come twice"): where the same texts came for the same pages,
-- the store is the same, whatever preambles, Reserved, spares or refused frames there were.
pub order_and_repeats_do_not_matter : (n : Name) (a b : List Frame) → InRange n → SamePages n a b → store_after n a ≡ store_after n b
order_and_repeats_do_not_matter n a b r same = same_pages n a b r same

-- "pages that differ only in spares are the same page": of two records that writing accepts and that differ in preamble, Reserved and
-- spares alone, one brings what the other brings ..
pub what_differs_in_spares_alone_is_the_same_page : (n : Name) (r q : Record) (p : ℕ) (t : List ℕ) → Valid q → Alike r q → Brings n r p t → Brings n q p t
what_differs_in_spares_alone_is_the_same_page n r q p t v a b = alike_brings n r q p t v a b

-- .. and the same frames bring the same
pub the_same_frames_bring_the_same : (n : Name) (a b : List Frame) → SameFrames a b → SamePages n a b
the_same_frames_bring_the_same n a b same = frames_bring n a b same

-- ---- merged

-- "a merged store counts as having taken the frames of both"
pub merging_takes_the_frames_of_both : (n : Name) (a b : List Frame) → InRange n
    → merge_of (store_after n a) (store_after n b) ≡ record { answer = Ok tt; store = store_after n (a ++ b) }
merging_takes_the_frames_of_both n a b r = merge_after n r a b

-- .. however many receivers there are, and however their stores are merged ..
pub a_tree_of_merges_takes_all_frames : (n : Name) (t : Tree) → InRange n → tree_store n t ≡ store_after n (all_frames t)
a_tree_of_merges_takes_all_frames n t r = tree_after n r t

-- .. so two ways of merging what brings the same give the same store
pub ways_of_merging_agree : (n : Name) (a b : Tree) → InRange n → SamePages n (all_frames a) (all_frames b) → tree_store n a ≡ tree_store n b
ways_of_merging_agree n a b r same = same_trees n r a b same

-- "Merging: 14, 13": two sound stores of one bulletin are merged, page by page, and what they give is sound
pub sound_stores_are_merged : (a b : Store) → Sound a → Sound b → a.name ≡ b.name → merge_of a b ≡ record { answer = Ok tt; store = joined_stores a b }
sound_stores_are_merged a b p q e = merge_joins a b p q e

-- .. and no others: a merge is refused with 14 where one of the two is not sound, and with 13 only where both are
pub merging_refused_for_a_reason : (a b : Store) (x : Refusal) → (merge_of a b).answer ≡ Err x → WhyNotMerged a b x
merging_refused_for_a_reason a b x e = merge_reason a b x e

pub merged_exactly_when_nothing_is_wrong : (a b : Store) → (merge_of a b).answer ≡ (Ok tt) ↔ Met (merge_questions a b)
merged_exactly_when_nothing_is_wrong a b = merge_exactly a b

pub merging_keeps_soundness : (a b : Store) → Sound a → Sound b → ShapedStore a → ShapedStore b → a.name ≡ b.name → Sound (joined_stores a b) × ShapedStore (joined_stores a b)
merging_keeps_soundness a b p q x y e = (joined_sound a b p q x.long y.long e, joined-shaped a b p q x y e)

-- "The laws of merging": it does not matter which store is the first ..
pub merging_is_commutative : (a b : Store) → Sound a → Sound b → ShapedStore a → ShapedStore b → a.name ≡ b.name → merge_of a b ≡ merge_of b a
merging_is_commutative a b p q x y e = commutes a b p q x.long y.long e

-- .. nor which two are merged first ..
pub merging_is_associative : (a b c : Store) → Sound a → Sound b → Sound c → ShapedStore a → ShapedStore b → ShapedStore c
    → a.name ≡ b.name → b.name ≡ c.name → merge_of (merge_of a b).store c ≡ merge_of a (merge_of b c).store
merging_is_associative a b c p q r x y z e f = associates a b c p q r x.long y.long z.long e f

-- .. nor how often
pub merging_is_idempotent : (a : Store) → Sound a → ShapedStore a → merge_of a a ≡ record { answer = Ok tt; store = a }
merging_is_idempotent a p x = repeats a p x.long

-- "all else is disputed": the text of a held page is never replaced by another, in whatever store it is merged with
pub a_held_text_is_not_replaced_by_a_merge : (a b : Store) → ShapedStore a → ShapedStore b → (i : ℕ) (t : List ℕ) → i < 63 → page_behind a i ≡ held_page t
    → (page_behind (merge_of a b).store i ≡ held_page t) ⊎ (page_behind (merge_of a b).store i ≡ disputed_page)
a_held_text_is_not_replaced_by_a_merge a b x y i t h e = held_kept a b x.long y.long i t h e

-- ---- from its opening on

-- "Every sound store is one that some list of frames gives": of frames that are all taken ..
pub every_sound_store_is_given_by_frames : (s : Store) → Sound s → ShapedStore s
    → (frames : List Frame) × AllTaken s.name frames × (s ≡ store_after s.name frames)
every_sound_store_is_given_by_frames s p x = sound_given s p x

-- .. and every store that frames give is sound, and can be passed on
pub what_frames_give_is_sound : (n : Name) (frames : List Frame) → InRange n → Sound (store_after n frames) × ShapedStore (store_after n frames)
what_frames_give_is_sound n frames r = (after_sound n r frames, after-shaped n r frames)

-- "Condition 3 speaks of a store from its opening on, through takings and merges": whatever has happened to it, it is the store
-- that its frames give ..
pub a_history_comes_to_its_frames : (n : Name) (h : History n) → InRange n → history_store h ≡ store_after n (frames_of h)
a_history_comes_to_its_frames n h r = history_after n r h

-- .. and sound ..
pub a_history_comes_to_a_sound_store : (n : Name) (h : History n) → InRange n → Sound (history_store h) × ShapedStore (history_store h)
a_history_comes_to_a_sound_store n h r = (history_sound n r h, history_shaped n r h)

-- .. and goes on with whatever store it is merged with next: "a sound store from elsewhere counts as having taken such a list"
pub any_store_may_be_merged : (n : Name) (h : History n) (s : Store) → InRange n → ShapedStore s
    → (k : History n) × (history_store k ≡ (merge_of (history_store h) s).store)
any_store_may_be_merged n h s r x = any_store n r h s x

-- "all else is disputed", also later: over any takings and merges that follow, the text of a held page is never replaced by another
pub a_held_text_is_never_replaced : (n : Name) (h k : History n) (p : ℕ) (t : List ℕ) → InRange n → GoesOn h k → 1 ≤ p → p ≤ n.total
    → page_numbered (history_store h) p ≡ held_page t
    → (page_numbered (history_store k) p ≡ held_page t) ⊎ (page_numbered (history_store k) p ≡ disputed_page)
a_held_text_is_never_replaced n h k p t r g low high e = held_from_then_on n r h k g p t low high e

-- "a page already disputed stays so", over any takings and merges that follow
pub a_disputed_page_stays_disputed : (n : Name) (h k : History n) (p : ℕ) → InRange n → GoesOn h k → 1 ≤ p → p ≤ n.total
    → page_numbered (history_store h) p ≡ disputed_page → page_numbered (history_store k) p ≡ disputed_page
a_disputed_page_stays_disputed n h k p r g low high e = disputed_from_then_on n r h k g p low high e

-- ---- reported and told

-- "A store reports how many pages are held, how many are disputed, and the lowest page that is not held (0 if none)": each of
-- the three is defined from the frames taken ..
pub the_report_is_told_by_the_frames : (n : Name) (frames : List Frame) → InRange n → Reports n frames (count_of (store_after n frames))
the_report_is_told_by_the_frames n frames r = reported n r frames

-- .. and no other report is told by them: not "an invented number of held or disputed pages" ..
pub the_frames_tell_one_report : (n : Name) (frames : List Frame) (c d : Counted) → Reports n frames c → Reports n frames d → c ≡ d
the_frames_tell_one_report n frames c d p q = reported_once n frames c d p q

-- .. also after merges, and with stores from elsewhere
pub a_history_reports_its_frames : (n : Name) (h : History n) → InRange n → Reports n (frames_of h) (count_of (history_store h))
a_history_reports_its_frames n h r = subst (λ (s : Store). Reports n (frames_of h) (count_of s)) (sym (history_after n r h)) (reported n r (frames_of h))

-- "The reports of a store: 14": refused where the store is not sound, and there alone ..
pub report_refused_for_a_reason : (s : Store) (x : Refusal) → (count_of s).answer ≡ Err x → WhyNotReported s x
report_refused_for_a_reason s x e = report_reason s x e

pub reported_exactly_when_sound : (s : Store) → (count_of s).answer ≡ (Ok tt) ↔ Sound s
reported_exactly_when_sound s = report_exactly s

-- .. "A refused report gives zeros"
pub a_store_that_is_not_sound_reports_zeros : (s : Store) → (Sound s → ⊥)
    → count_of s ≡ record { answer = Err Unsound; held = 0; disputed = 0; lowest = 0 }
a_store_that_is_not_sound_reports_zeros s h = unsound_reported s h

-- "Text: 14, 15, 16", "with the lowest such page and whether it is absent or disputed": the condition of the number fails, and
-- every earlier one holds ..
pub text_refused_for_a_reason : (s : Store) (size : ℕ) (x : Refusal) → ShapedStore s → (text_answer s size).answer ≡ Err x → WhyNotTold s size x
text_refused_for_a_reason s size x h e = text_reason s h size x e

-- .. and where all of them hold, and there alone, the text is told ..
pub told_exactly_when_nothing_is_wrong : (s : Store) (size : ℕ) → ShapedStore s
    → (text_answer s size).answer ≡ (Ok tt) ↔ (Sound s × All (PageHeld s) s.name.total × TextFits s size)
told_exactly_when_nothing_is_wrong s size h = text_exactly s h size

-- .. with its length: "the pages' bytes in order, less all zero bytes at its end"
pub held_pages_tell_their_text : (s : Store) → ShapedStore s → Sound s → All (PageHeld s) s.name.total
    → (text : List ℕ) × TextOf s text × Tells s text
held_pages_tell_their_text s h p all = whole_told s h p all

-- "The text is the pages' bytes in order, less all zero bytes at its end": where each page is held with its text ..
pub the_text_is_told_by_the_frames : (n : Name) (frames : List Frame) (t : ℕ → List ℕ) → InRange n
    → ((p : ℕ) → 1 ≤ p → p ≤ n.total → Held n frames p (t p))
    → (text : List ℕ) × Trimmed (in_order t n.total) text × Tells (store_after n frames) text
the_text_is_told_by_the_frames n frames t r all = whole_text n r frames t all

-- .. and no other text is that, which is "at most 1,134 bytes"
pub the_text_is_one : (whole t u : List ℕ) → Trimmed whole t → Trimmed whole u → t ≡ u
the_text_is_one whole t u p q = trimmed_once whole t u p q

pub the_text_is_at_most_1134_bytes : (n : Name) (frames : List Frame) (t : ℕ → List ℕ) (text : List ℕ) → InRange n
    → ((p : ℕ) → 1 ≤ p → p ≤ n.total → Held n frames p (t p)) → Trimmed (in_order t n.total) text → length text ≤ 1134
the_text_is_at_most_1134_bytes n frames t text r all h = at_most n r frames t text all h

-- "15: a page is not held; with the lowest such page and whether it is absent or disputed"
pub no_text_where_a_page_is_not_held : (n : Name) (frames : List Frame) (k : ℕ) → InRange n → LowestWithout (IsHeld n frames) n.total k
    → (mark : ℕ) × NotHeldBecause n frames k mark × TellsNothing (store_after n frames) (NotHeld k mark)
no_text_where_a_page_is_not_held n frames k r h = no_text_lem n r frames k h

-- Not "a bulletin called complete because as many frames came as it has pages": a page that no frame brought is missed by the
-- report and by the text, however many frames came ..
pub a_page_that_did_not_come_is_missed : (n : Name) (frames : List Frame) (p : ℕ) → InRange n → 1 ≤ p → p ≤ n.total → Absent n frames p
    → (k : ℕ) × (mark : ℕ) × ((count_of (store_after n frames)).lowest ≡ k) × NotHeldBecause n frames k mark × TellsNothing (store_after n frames) (NotHeld k mark)
a_page_that_did_not_come_is_missed n frames p r low high none = missed n r frames p low high none

-- .. "one may have come twice": a bulletin of two pages, of which the first came twice, in frames that differ in preamble,
-- Reserved and every bit of the spares. Both are taken, one page is held and none disputed, page 2 is the lowest that is not held,
-- and the text is refused with 15, page 2, absent.
pub one_page_twice_is_not_complete : AllTaken of_two_pages came_twice × (length came_twice ≡ of_two_pages.total)
    × (count_of (store_after of_two_pages came_twice) ≡ record { answer = Ok tt; held = 1; disputed = 0; lowest = 2 })
    × TellsNothing (store_after of_two_pages came_twice) (NotHeld 2 1)
one_page_twice_is_not_complete = (all-taken, refl, twice_reported, twice_told)

-- .. but where each came, it is complete: there is a bulletin that comes to be so, and tells its text
pub a_bulletin_comes_to_be_complete : (count_of (store_after of_two_pages came_both) ≡ record { answer = Ok tt; held = 2; disputed = 0; lowest = 0 })
    × Tells (store_after of_two_pages came_both) (replicate 36 65)
a_bulletin_comes_to_be_complete = (complete_reported, complete_told)
