-- Stores that several receivers filled, merged two at a time (document 01: "a merged store counts as having taken the frames
-- of both").
use Rattle.std.specs.Prelude.{List, ◌++◌}
use Rattle.pages.specs.declared.name.Name.{Name}
use Rattle.bulletin.specs.declared.store.Store.{Store}
use Rattle.bulletin.specs.Merges.{merge_of}
use Rattle.histories.specs.Frames.{Frame, store_after}

-- one receiver's frames, or two stores merged
pub data Tree : Type 0 where
  receiver : List Frame → Tree
  merge : Tree → Tree → Tree

abbrev pub tree_store : Name → Tree → Store
tree_store n (receiver frames) = store_after n frames
tree_store n (merge a b) = (merge_of (tree_store n a) (tree_store n b)).store

-- all frames, one receiver's behind the other's
abbrev pub all_frames : Tree → List Frame
all_frames (receiver frames) = frames
all_frames (merge a b) = all_frames a ++ all_frames b
