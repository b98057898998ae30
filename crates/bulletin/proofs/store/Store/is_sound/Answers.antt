-- `bulletin::store::Store::is_sound` meets its contract.
use mathlib.Core.Path.{◌∙◌, sym}
use Rattle.bulletin.specs.Stores.{sound_store}
use Rattle.bulletin.proofs.Stores.Sound.{all_sound}
use Rattle.bulletin.proofs.store.Store.is_sound.Goals as goal

pub returns-then-is_in_range : goal.returns-then-is_in_range
unfolding sound_store
returns-then-is_in_range c =
    c.has_sound_pages.ensures ∙ all_sound _ 0 _ ∙ sym (simp (sym c.is_in_range.ensures ∙ c.if-is_in_range.true))
