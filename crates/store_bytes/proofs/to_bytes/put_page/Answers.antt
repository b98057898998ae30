-- `store_bytes::to_bytes::put_page` meets its contract.
use mathlib.Core.Path.{◌≡◌, ap, ◌∙◌}
use Prim.Native.Nat.{ℕ, ◌+◌, ◌-◌}
use native.Mathlib.Omega.{arith}
use native.Mathlib.Numerals.{add-one}
use borrow.Author.Rules.{rules}
use lib.ListN.{length, set, length-set}
use lib.Seq.{sets}
use Rattle.lent.proofs.Chains.{put_whole}
use Rattle.store_bytes.proofs.to_bytes.put_page.Goals as goal

pub returns : goal.returns
returns c =
    let at = c.args.at in
    let t = c.args.page.text in
    let marked = set c.args.out.now at c.args.page.mark in
    let long : length t ≡ 18 = search rules in
    let same : length marked ≡ length c.args.out.now = length-set c.args.out.now at c.args.page.mark in
    (put_whole t marked c.copy_from_slice.new.self (at + 1) (at + 19 - (at + 1)) c.copy_from_slice.ensures.after (omega arith) (omega arith)).bytes
    ∙ ap (λ (n : ℕ). sets marked n t) (add-one at)
