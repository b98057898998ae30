-- `record_bytes::from_bytes::body_of` meets its contract.
use mathlib.Core.Path.{◌≡◌, ◌∙◌, ap, refl, sym}
use mathlib.Core.Bool.{Bool, cond}
use borrow.Author.Tests.{eq-eqb, ne_eqb}
use lib.Dec.{eqb}
use Prim.Native.Nat.{ℕ}
use native.Mathlib.Omega.{arith}
use lib.ListN.{length, get_or, replicate}
use Rattle.record_bytes.proofs.FromBytes.Read.{body_read, fields_end, room}
use Rattle.record_bytes.proofs.FromBytes.Stray.{body_ends}
use Rattle.bits.specs.Frame.{Bytes}
use Rattle.record_bytes.specs.Packed.{body_bytes}
use Rattle.report.specs.declared.body.BodyAndSpares.{BodyAndSpares}
use borrow.Author.Rules.{rules}
use Rattle.record_bytes.proofs.from_bytes.body_of.Goals as goal
use Rattle.record_bytes.proofs.from_bytes.body_of.Goals.{then-table-eq0, else-table-eq0}

pub read_cells-middle-requires : goal.read_cells-middle-requires
read_cells-middle-requires c =
    let v = c.fields.result in
    let widths : length v.ahead ≡ 18 = search rules in (
      omega (arith, room c.of_values-blank.result.body _ v c.fields.ensures),
      (ap (λ (m : ℕ). replicate m 0) (sym widths), (fields_end c.of_values-blank.result.body _ v c.fields.ensures).0),
    )

pub read_cells-last-requires : goal.read_cells-last-requires
read_cells-last-requires c =
    let v = c.fields.result in
    let widths : length v.after ≡ 3 = search rules in (
      omega (arith, room c.of_values-blank.result.body _ v c.fields.ensures),
      (ap (λ (m : ℕ). replicate m 0) (sym widths), (fields_end c.of_values-blank.result.body _ v c.fields.ensures).1),
    )

pub returns : goal.returns
returns c =
    let l = c.args.bytes.now in
    let bytes : Bytes l = c.fits-bytes in
    let blank = ap (λ (x : BodyAndSpares). x.body) c.of_values-blank.ensures in
    let long : length l ≡ 251 = omega arith in
    let both =
    c.of_values-both.ensures
    ∙ body_read l bytes (get_or l 0 0) _ c.of_values-blank.result.body _ c.fields.result _ _ c.read_cells-middle.result long refl blank c.fields.ensures
    c.read_cells-middle.ensures.1 c.read_cells-middle.ensures.0 c.read_cells-last.ensures.1
    in
    let end : c.if-table-eq0.end ≡ cond (eqb c.fields.result.table.code 0) c.read_cells-middle.result c.read_cells-last.result =
    elim c.if-table-eq0.branch [
      | then-table-eq0 w ↦ w.end-is ∙ ap (λ (b : Bool). cond b c.read_cells-middle.result c.read_cells-last.result) (sym (eq-eqb _ 0 w.if-table-eq0.true))
      | else-table-eq0 w ↦ w.end-is ∙ ap (λ (b : Bool). cond b c.read_cells-middle.result c.read_cells-last.result) (sym (ne_eqb _ 0 w.if-table-eq0.false))
    ]
    in
    let ends = body_ends l bytes long _ c.of_values-blank.result.body _ c.fields.result c.read_cells-middle.result c.read_cells-last.result c.if-table-eq0.end blank c.fields.ensures c.read_cells-middle.ensures.0 c.read_cells-last.ensures.0 end in
    (both, (ends.0, (ends.1.0, ap (λ (x : BodyAndSpares). body_bytes x.body x.spares) both ∙ ends.1.1)))
