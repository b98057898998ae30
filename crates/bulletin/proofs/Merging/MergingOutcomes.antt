-- What a merge answers.
use Rattle.std.specs.Prelude.{Ok, Err}
use mathlib.Core.Path.{◌≡◌, refl, ap}
use Rattle.rows.specs.Refusals.{answers, Verdict}
use Rattle.bulletin.specs.declared.store.Store.{Store}
use Rattle.bulletin.specs.Merges.{merge_verdict, merging, merge_of, merge_says}

answer_found : (v : Verdict) (s o : Store) → (merging v s o).answer ≡ v
answer_found (Ok tt) s o = refl
answer_found (Err x) s o = refl

pub merged-said : (s o : Store) → answers (merge_of s o).answer ≡ merge_says s o
merged-said s o = ap answers (answer_found (merge_verdict s o) s o)
