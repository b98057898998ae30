-- "Condition 3 speaks of a store from its opening on, through takings and merges" (document 01, "The page store").
use Rattle.std.specs.Prelude.{◌≡◌, List, [], ◌∷◌, ◌++◌}
use Rattle.pages.specs.declared.name.Name.{Name}
use Rattle.bulletin.specs.declared.store.Store.{Store}
use Rattle.bulletin.specs.Stores.{open_of}
use Rattle.bulletin.specs.Takings.{take_of}
use Rattle.bulletin.specs.Merges.{merge_of}
use Rattle.histories.specs.Soundness.{Sound}
use Rattle.histories.specs.Frames.{Frame, store_after}

-- the store was opened; it took a frame, or refused it; it was merged with a store that has a history of its own, with a store
-- from elsewhere that some list of frames gives, or with a store that is not sound or of another bulletin, which is refused
pub data History (n : Name) : Type 0 where
  opened : History n
  took : History n → Frame → History n
  merged : History n → History n → History n
  met : History n → (s : Store) (frames : List Frame) → s ≡ store_after n frames → History n
  refused : History n → (s : Store) → (Sound s → s.name ≡ n → ⊥) → History n

-- the store that it has come to
abbrev pub history_store : {n : Name} → History n → Store
history_store {n} opened = (open_of n).store
history_store (took h f) = (take_of (history_store h) f.came).store
history_store (merged h k) = (merge_of (history_store h) (history_store k)).store
history_store (met h s frames e) = (merge_of (history_store h) s).store
history_store (refused h s no-sound-store) = (merge_of (history_store h) s).store

-- the frames that came: "a merged store counts as having taken the frames of both", and "a sound store from elsewhere counts
-- as having taken such a list"
abbrev pub frames_of : {n : Name} → History n → List Frame
frames_of opened = []
frames_of (took h f) = frames_of h ++ (f ∷ [])
frames_of (merged h k) = frames_of h ++ frames_of k
frames_of (met h s frames e) = frames_of h ++ frames
frames_of (refused h s no-sound-store) = frames_of h

-- a history goes on from another: by takings and merges behind it, of whatever frames and stores
pub data GoesOn {n : Name} (h : History n) : History n → Type 0 where
  there : GoesOn h h
  taking : {k : History n} (f : Frame) → GoesOn h k → GoesOn h (took k f)
  merging : {k : History n} (m : History n) → GoesOn h k → GoesOn h (merged k m)
  meeting : {k : History n} (s : Store) (frames : List Frame) (e : s ≡ store_after n frames) → GoesOn h k → GoesOn h (met k s frames e)
  refusing : {k : History n} (s : Store) (e : Sound s → s.name ≡ n → ⊥) → GoesOn h k → GoesOn h (refused k s e)
