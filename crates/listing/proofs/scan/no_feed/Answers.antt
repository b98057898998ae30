-- `listing::scan::no_feed` meets its contract: while nothing was found, no line feed has been passed.
use Rattle.std.proofs.Common.{◌≡◌, ◌+◌, ◌-◌, arith}
use Rattle.listing.proofs.Chunks.ByteByByte.{no_feed_more}
use Rattle.listing.proofs.scan.no_feed.Goals as goal

pub loop-i-preserved : goal.loop-i-preserved
loop-i-preserved c = no_feed_more c.args.s.now c.args.from c.loop-i.i c.loop-i.none c.loop-i.invariant

pub returns : goal.returns
returns c =
    λ e k h l f.
    let a = c.args in
    let same : a.from + (k - a.from) ≡ k = omega arith in
    c.loop-i.invariant e (k - a.from) (omega arith) (omega arith) (rw same f)
