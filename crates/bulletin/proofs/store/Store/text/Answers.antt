-- `bulletin::store::Store::text` meets its contract.
use mathlib.Core.Path.{sym}
use borrow.Author.Tests.{leb-true}
use Rattle.rows.proofs.Rules.Outcomes.{unless_fine}
use Rattle.bulletin.proofs.Telling.TextOutcomes.{fine_most, fine_short}
use Rattle.bulletin.proofs.store.Store.text.Goals as goal

pub text_length-n-requires : goal.text_length-n-requires
text_length-n-requires c = fine_most _ (sym c.in_ok-check_whole.ensures)

pub copy_text-requires : goal.copy_text-requires
copy_text-requires c =
    (fine_short _ _ (sym c.in_ok-check_whole.ensures) c.text_length-n.ensures, leb-true _ _ (unless_fine _ _ (sym c.in_ok-unless.ensures)))
