-- `listing::scan::scan_lines` meets its contract: what is left to do from here is what was to be done.
use mathlib.Core.Path.{◌≡◌, refl, ap, ◌∙◌}
use mathlib.Core.List.{List, []}
use Prim.Native.Nat.{ℕ, ◌+◌, ◌-◌, ◌≤◌, ◌<◌}
use native.Mathlib.Omega.{arith}
use lib.ListN.{length, take, drop}
use Rattle.listing.specs.Rows.{cut_text}
use Rattle.listing.specs.Scanning.{progress_of}
use Rattle.lent.proofs.Chains.{nothing}
use Rattle.listing.proofs.Chunks.ByteByByte.{limit_is}
use Rattle.listing.proofs.Lines.SeenRows.{wrote_row}
use Rattle.listing.proofs.Lines.LineLoop.{room_left, turn, ended, tail_reach, kept_tail, cut_tail, end_reach}
use Rattle.listing.proofs.scan.scan_lines.Goals as goal

pub returns-then-end-chunk : goal.returns-then-end-chunk
returns-then-end-chunk c =
    let d : List ℕ = c.args.chunk.now in
    let low : c.loop-n.at ≤ c.find-end.result = c.find-end.ensures.low in
    ended d c.args.out.now c.loop-n.out _ c.args.lines c.args.from c.args.to c.loop-n.n c.loop-n.at c.loop-n.put (record { text = []; lines = c.loop-n.n; begun = take 64 (drop c.loop-n.at d) }) _ c.loop-n.invariant.went c.loop-n.auto.out (tail_reach d c.loop-n.n c.loop-n.at c.find-end.result (omega (arith, limit_is)) c.find-end.ensures c.if-end-chunk.true) (nothing c.loop-n.out c.loop-n.put) (kept_tail c.behind.result c.with.result d c.loop-n.n c.loop-n.at (length d - c.loop-n.at) c.behind.ensures (omega arith) c.with.ensures) refl (omega arith)

pub loop-n-preserved : goal.loop-n-preserved
loop-n-preserved c =
    let d : List ℕ = c.args.chunk.now in
    let low : c.loop-n.at ≤ c.find-end.result = c.find-end.ensures.low in
    let high : c.find-end.result ≤ length d = c.find-end.ensures.high in
    let more : c.find-end.result < length d = omega (arith, c.if-end-chunk.false) in
    let room = room_left (length c.loop-n.out) _ c.loop-n.put c.put_row-put.result (length d) c.loop-n.at c.find-end.result c.loop-n.invariant.room c.put_row-put.ensures.1 low more c.put_row-put.auto.out in
    record {
      at = omega arith;
      room = room.1;
      went = turn d c.args.out.now c.loop-n.out _ c.args.lines c.args.from c.args.to c.loop-n.n c.loop-n.at c.loop-n.put c.find-end.result c.put_row-put.result c.loop-n.invariant.went (omega (arith, limit_is)) c.find-end.ensures more (wrote_row (c.loop-n.n + 1) (take (c.find-end.result - c.loop-n.at) (drop c.loop-n.at d)) c.seen.ensures c.look_line.ensures.value c.put_row-put.ensures.0) room.0;
    }

pub returns-then-at-chunk : goal.returns-then-at-chunk
returns-then-at-chunk c =
    let d : List ℕ = c.args.chunk.now in
    let last : 1000001 ≡ c.loop-n.n + 1 = omega (arith, limit_is) in
    ended d c.args.out.now c.loop-n.out _ c.args.lines c.args.from c.args.to c.loop-n.n c.loop-n.at c.loop-n.put (record { text = cut_text; lines = c.loop-n.n + 1; begun = [] }) _ c.loop-n.invariant.went c.loop-n.auto.out (cut_tail d c.loop-n.n c.loop-n.at (omega (arith, limit_is)) c.if-at-chunk.true) c.put_cut.ensures.0 (c.behind-then-at-chunk.ensures ∙ ap (λ (k : ℕ). progress_of k []) last) refl (omega (arith, c.put_cut.ensures.1))

pub returns : goal.returns
returns c =
    let d : List ℕ = c.args.chunk.now in
    let last : 1000000 ≡ c.loop-n.n = omega (arith, limit_is) in
    ended d c.args.out.now c.loop-n.out _ c.args.lines c.args.from c.args.to c.loop-n.n c.loop-n.at c.loop-n.put (record { text = []; lines = c.loop-n.n; begun = [] }) _ c.loop-n.invariant.went c.loop-n.auto.out (end_reach d c.loop-n.n c.loop-n.at c.if-at-chunk.false) (nothing c.loop-n.out c.loop-n.put) (c.behind-2.ensures ∙ ap (λ (k : ℕ). progress_of k []) last) refl (omega arith)
