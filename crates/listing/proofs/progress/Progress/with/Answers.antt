-- `listing::progress::Progress::with` meets its contract.
use mathlib.Core.Path.{◌≡◌}
use lib.ListN.{length}
use borrow.Author.Rules.{rules}
use Rattle.listing.proofs.Texts.KeptBytes.{kept_all}
use Rattle.listing.proofs.progress.Progress.with.Goals as goal

pub returns : goal.returns
returns c =
    let kept : length c.args.self.begun ≡ 64 = search rules in
    kept_all c.args.self c.args.bytes.now _ _ _ _ _ kept c.min-kept.ensures c.min-more.ensures c.put_bytes.ensures.bytes c.put_bytes-length.ensures
