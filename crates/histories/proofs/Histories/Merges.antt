-- The laws of merging, and that it is taking the frames of both.
use Rattle.std.specs.Prelude.{Ok, Err}
use Rattle.rows.specs.Refusals.{Verdict}
use mathlib.Core.Path.{◌≡◌, refl, ap, sym, ◌∙◌}
use mathlib.Core.List.{List, ◌++◌}
use mathlib.Core.Logic.{◌⊎◌, inl}
use Prim.Native.Nat.{ℕ, suc, ◌<◌}
use lib.ListN.{length}
use Rattle.rows.proofs.Rules.Ordered.{Answers, question, last_question}
use Rattle.rows.specs.declared.refusal.Refusal.TheVariants.{OtherBulletin, Unsound}
use Rattle.pages.specs.declared.name.Name.{Name}
use Rattle.bulletin.specs.declared.store.Store.{Store}
use Rattle.pages.specs.Pages.{held_page, disputed_page}
use Rattle.pages.specs.Names.{same_name}
use Rattle.bulletin.specs.Stores.{sound_store, page_behind}
use Rattle.bulletin.specs.Merges.{merge_verdict, joined_stores, merging, merge_of, Merging}
use Rattle.pages.proofs.States.{Mark, to_page, join_marks, join_marks_comm, join_marks_assoc, join_marks_idem, mark_of, mark_of_append}
use Rattle.bulletin.proofs.Taking.HeldTexts.{joined_held}
use Rattle.histories.specs.Soundness.{InRange, Sound}
use Rattle.histories.specs.Frames.{Frame, store_after, SamePages}
use Rattle.histories.specs.Merging.{Tree, receiver, merge, tree_store, all_frames}
use Rattle.histories.specs.Reasons.{merge_questions}
use Rattle.histories.proofs.Soundness.Tested.{tested_sound, sound_tested}
use Rattle.histories.proofs.Frames.StoreStates.{Stands, mark_in, marks_of, held_mark, stands_same, stands_sound, sound_stands, joined_stands}
use Rattle.histories.proofs.Frames.TextsBrought.{same_name_lem, named_same, texts, texts_append}
use Rattle.histories.proofs.Frames.Takings.{after_stands}
use Rattle.histories.proofs.Frames.PageStates.{same_pages}

-- a merge that is not refused
abbrev pub fine_merge : Store → Merging
fine_merge s = record { answer = Ok tt; store = s }

-- sound stores of one bulletin are merged, and no others
pub merge_answered : (a b : Store) → Answers (merge_verdict a b) (merge_questions a b) (Ok tt)
unfolding merge_verdict
merge_answered a b =
    question (sound_store a) (Sound a) Unsound (tested_sound a) (sound_tested a)
    (question (sound_store b) (Sound b) Unsound (tested_sound b) (sound_tested b)
    (last_question (same_name a.name b.name) (a.name ≡ b.name) OtherBulletin (same_name_lem a.name b.name) (named_same a.name b.name)))

pub merge_joins : (a b : Store) → Sound a → Sound b → a.name ≡ b.name → merge_of a b ≡ fine_merge (joined_stores a b)
merge_joins a b p q e = ap (λ (v : Verdict). merging v a b) ((merge_answered a b).met (p, (q, (e, tt))))

-- ---- the laws, on sound stores of one bulletin, which have 63 pages: each is the law of a page's mark, for every page

module _ (a b : Store) (p : Sound a) (q : Sound b) (la : length a.pages ≡ 63) (lb : length b.pages ≡ 63) (e : a.name ≡ b.name) where
  first_stands : Stands a b.name (marks_of a)
  first_stands = sound_stands a b.name p la e

  second_stands : Stands b b.name (marks_of b)
  second_stands = sound_stands b b.name q lb refl

  merged_stands : Stands (joined_stores a b) b.name (λ i. join_marks (marks_of a i) (marks_of b i))
  merged_stands = joined_stands a b b.name _ _ first_stands second_stands

  pub joined_sound : Sound (joined_stores a b)
  joined_sound = stands_sound (joined_stores a b) b.name _ q.name merged_stands

  pub commutes : merge_of a b ≡ merge_of b a
  commutes =
      merge_joins a b p q e
      ∙ ap fine_merge (stands_same (joined_stores a b) (joined_stores b a) b.name _ _ merged_stands (joined_stands b a b.name _ _ second_stands first_stands) (λ i h. join_marks_comm (marks_of a i) (marks_of b i)))
      ∙ sym (merge_joins b a q p (sym e))

pub associates : (a b c : Store) → Sound a → Sound b → Sound c → length a.pages ≡ 63 → length b.pages ≡ 63 → length c.pages ≡ 63
    → a.name ≡ b.name → b.name ≡ c.name → merge_of (merge_of a b).store c ≡ merge_of a (merge_of b c).store
associates a b c p q r la lb lc e f =
    ap (λ (m : Merging). merge_of m.store c) (merge_joins a b p q e)
    ∙ merge_joins (joined_stores a b) c (joined_sound a b p q la lb e) r (e ∙ f)
    ∙ ap fine_merge (stands_same (joined_stores (joined_stores a b) c) (joined_stores a (joined_stores b c)) c.name _ _
    (joined_stands (joined_stores a b) c c.name _ _ (joined_stands a b c.name _ _ sa sb) sc)
    (joined_stands a (joined_stores b c) c.name _ _ sa (joined_stands b c c.name _ _ sb sc))
    (λ i h. join_marks_assoc (marks_of a i) (marks_of b i) (marks_of c i)))
    ∙ sym (merge_joins a (joined_stores b c) p (joined_sound b c q r lb lc f) e)
    ∙ sym (ap (λ (m : Merging). merge_of a m.store) (merge_joins b c q r f))
  where
    sa : Stands a c.name (marks_of a)
    sa = sound_stands a c.name p la (e ∙ f)

    sb : Stands b c.name (marks_of b)
    sb = sound_stands b c.name q lb f

    sc : Stands c c.name (marks_of c)
    sc = sound_stands c c.name r lc refl

pub repeats : (a : Store) → Sound a → length a.pages ≡ 63 → merge_of a a ≡ fine_merge a
repeats a p la =
    merge_joins a a p p refl
    ∙ ap fine_merge (stands_same (joined_stores a a) a a.name _ _ (merged_stands a a p p la la refl) (second_stands a a p p la la refl) (λ i h. join_marks_idem (marks_of a i)))

-- a held text stays, or is disputed: also where the merge is refused
pub held_kept : (a b : Store) → length a.pages ≡ 63 → length b.pages ≡ 63 → (i : ℕ) (t : List ℕ) → i < 63 → page_behind a i ≡ held_page t
    → (page_behind (merge_of a b).store i ≡ held_page t) ⊎ (page_behind (merge_of a b).store i ≡ disputed_page)
held_kept a b la lb i t h e = by (merge_verdict a b) refl
  where
    by : (v : Verdict) → merge_verdict a b ≡ v → (page_behind (merging v a b).store i ≡ held_page t) ⊎ (page_behind (merging v a b).store i ≡ disputed_page)
    by (Err x) f = inl e
    by (Ok tt) f =
        let parts = ((merge_answered a b).fine f).0 in
        joined_held (page_behind (joined_stores a b) i) t (marks_of b i)
        ((merged_stands a b parts.0 parts.1.0 la lb parts.1.1.0).page i h
        ∙ ap (λ (m : Mark). to_page (join_marks m (marks_of b i))) (ap mark_in e ∙ held_mark t))

-- ---- over frames

module _ (n : Name) (range : InRange n) where
  pub after_sound : (fs : List Frame) → Sound (store_after n fs)
  after_sound fs = stands_sound (store_after n fs) n _ range (after_stands n range fs)

  pub after_name : (fs : List Frame) → (store_after n fs).name ≡ n
  after_name fs = (after_stands n range fs).name

  pub joined-after : (a b : List Frame) → joined_stores (store_after n a) (store_after n b) ≡ store_after n (a ++ b)
  joined-after a b =
      stands_same (joined_stores (store_after n a) (store_after n b)) (store_after n (a ++ b)) n _ _
      (joined_stands (store_after n a) (store_after n b) n _ _ (after_stands n range a) (after_stands n range b))
      (after_stands n range (a ++ b))
      (λ i h. sym (mark_of_append (texts n range (suc i) a) (texts n range (suc i) b)) ∙ ap mark_of (sym (texts_append n range (suc i) a b)))

  pub merge_after : (a b : List Frame) → merge_of (store_after n a) (store_after n b) ≡ fine_merge (store_after n (a ++ b))
  merge_after a b =
      merge_joins (store_after n a) (store_after n b) (after_sound a) (after_sound b) (after_name a ∙ sym (after_name b)) ∙ ap fine_merge (joined-after a b)

  pub tree_after : (t : Tree) → tree_store n t ≡ store_after n (all_frames t)
  tree_after (receiver fs) = refl
  tree_after (merge a b) =
      (λ j. (merge_of (tree_after a j) (tree_after b j)).store) ∙ ap (λ (m : Merging). m.store) (merge_after (all_frames a) (all_frames b))

  pub same_trees : (a b : Tree) → SamePages n (all_frames a) (all_frames b) → tree_store n a ≡ tree_store n b
  same_trees a b same = tree_after a ∙ same_pages n (all_frames a) (all_frames b) range same ∙ sym (tree_after b)
