-- `listing::scan::scan_all` meets its contract.
use mathlib.Core.Path.{◌≡◌, refl, sym, ap, ◌∙◌}
use mathlib.Core.List.{List, [], append-nil}
use Prim.Native.Nat.{ℕ, ◌+◌, ◌≤◌}
use native.Mathlib.Omega.{arith}
use borrow.Author.Rules.{rules}
use lib.ListN.{length, take}
use lib.Seq.{take_all}
use Rattle.lent.proofs.Chains.{nothing}
use Rattle.listing.specs.Rows.{cut_text}
use Rattle.listing.specs.Listing.{limit}
use Rattle.listing.specs.Scanning.{begun_in, progress_of}
use Rattle.listing.proofs.Texts.KeptBytes.{begun_short}
use Rattle.listing.proofs.Chunks.ByteByByte.{limit_is}
use Rattle.listing.proofs.Chunks.Chunks.{settled, cut_all, idle}
use Rattle.listing.proofs.scan.scan_all.Goals as goal
use Rattle.listing.proofs.scan.scan_all.Goals.{else-from-eq-LIMIT-via-then-from-eq-LIMIT+else-used-gt0, else-from-eq-LIMIT-via-else-from-eq-LIMIT}

pub scan_first-requires : goal.scan_first-requires
scan_first-requires c = omega (arith, limit_is)

pub returns-then-used-gt0 : goal.returns-then-used-gt0
returns-then-used-gt0 c =
    let n : ℕ = c.args.from.lines in
    let begun : List ℕ = begun_in c.args.from in
    let one : 1000001 ≡ n + 1 = omega (arith, c.if-from-eq-LIMIT.true) in
    settled n begun c.args.chunk.now _ _ 0 _ (record { text = cut_text; lines = n + 1; begun = [] }) (cut_all n begun c.args.chunk.now (c.if-from-eq-LIMIT.true ∙ sym limit_is) c.if-used-gt0.true) (c.behind.ensures ∙ ap (λ (k : ℕ). progress_of k []) one) refl c.put_cut.ensures.0 (omega (arith, c.put_cut.ensures.1, c.if-used-gt0.true))

pub returns : goal.returns
returns c =
    let short : length (begun_in c.args.from) ≤ 64 = begun_short c.args.from (search rules) in
    let n : ℕ = c.args.from.lines in
    let begun : List ℕ = begun_in c.args.from in
    let quiet : n ≡ limit → length c.args.chunk.now ≤ 0 =
    elim c.else-from-eq-LIMIT.branch [ else-from-eq-LIMIT-via-then-from-eq-LIMIT+else-used-gt0 w ↦ λ e. omega arith | else-from-eq-LIMIT-via-else-from-eq-LIMIT w ↦ λ e. omega (arith, limit_is) ] in
    settled n begun c.args.chunk.now _ _ 0 _ (record { text = []; lines = n; begun = begun }) (idle n begun c.args.chunk.now (omega (arith, limit_is)) quiet) (c.with.ensures ∙ ap (progress_of n) (ap (take 64) (append-nil begun) ∙ take_all 64 begun short)) refl (nothing c.args.out.now 0) (omega arith)
