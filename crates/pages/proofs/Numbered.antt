-- A page that can be written has a number from 1 to its total, which is at most 63.
use Rattle.std.specs.Prelude.{Ok, ◌&&◌, ◌^◌, eqb, leb, ltb}
use mathlib.Core.Path.{◌≡◌, subst, sym, ◌∙◌}
use mathlib.Core.List.{[]}
use mathlib.Core.Logic.{⊎_elim}
use Prim.Native.Nat.{◌≤◌}
use Rattle.nankai.specs.declared.PageNumbers.{PageNumbers}
use Rattle.report.specs.declared.record.Record.{Record}
use Rattle.nankai.specs.Nankai.{nankai, number_values}
use Rattle.report.specs.Records.{values}
use Rattle.rows.specs.declared.fields.Spares.{Spares}
use Rattle.rows.specs.Kept.{Kept}
use Rattle.report.specs.Runs.Writing.{known, tidy, write_answer, Valid}
use Rattle.rows.specs.Refusals.{Verdict}
use Rattle.rows.specs.declared.refusal.Refusal.TheVariants.{Length, Preamble, Category, Unused, Range}
use Rattle.rows.specs.Layout.{common, ending}
use Rattle.rows.specs.Runs.Questions.{◌then◌, unless}
use Rattle.rows.specs.Runs.Verdict.{allowed, ranged, slots_verdict, verdict, walk}
use Rattle.rows.proofs.Rules.Outcomes.{fine_both, unless_fine}
use Rattle.rows.proofs.Rules.Spans.{in_span}
use Rattle.nankai.proofs.Walks.{behind-walk}
use Rattle.report.specs.declared.body.Body.{Body}
use Rattle.report.specs.declared.body.Body.TheVariants.{Nankai}
use Rattle.report.specs.Categories.{layout, preambles, sides_of}

pub record Numbered (p : PageNumbers) : Type 0 where
  pub low : 1 ≤ p.number
  pub high : p.number ≤ p.total
  pub most : p.total ≤ 63

pub kept_numbered : (p : PageNumbers) (z : Spares) → Kept [] nankai.behind (number_values p z).behind → Numbered p
kept_numbered p z h = record { low = ⊎_elim (λ z. z.0) (λ z. absurd z) h.0; high = h.1.0.0; most = h.1.0.1 }

-- the last of five that are asked one after another
fifth : (a b c d e : Verdict) → a then b then c then d then e ≡ Ok tt → e ≡ Ok tt
fifth a b c d e h = (fine_both d e (fine_both c (d then e) (fine_both b (c then d then e) (fine_both a (b then c then d then e) h).1).1).1).1

-- a record that can be written keeps what is asked of the rows behind its text
behind_passes : (r : Record) → Valid r → walk [] (layout r.body).behind (values r).behind ≡ Ok tt
unfolding write_answer verdict
behind_passes r v =
    let l = layout r.body in
    let vs = values r in
    let rows = fifth (unless (eqb 32 32) Length) (unless (allowed preambles r.preamble) Preamble) (unless (known r.body) Category) (unless (tidy r) Unused) (verdict l vs) v in
    let last = walk [] ending vs.last in
    (fine_both (walk [] l.behind vs.behind) last
    (fifth (walk [] (common l) vs.head) (walk [] l.front vs.front) (slots_verdict l.slots vs.slots) (walk [] l.text vs.text) (walk [] l.behind vs.behind then last) rows)).0

pub numbered : (r : Record) (p : PageNumbers) → Valid r → r.body ≡ Nankai p → Numbered p
unfolding values
numbered r p v e =
    let z = r.spares in
    let asked = sym (behind-walk p z) ∙ subst (λ (b : Body). walk [] (layout b).behind (sides_of b z).behind ≡ Ok tt) e (behind_passes r v) in
    let second = ranged (ltb z.second (2 ^ 1)) 213 z.second in
    let total = ranged (leb p.number p.total && leb p.total 63) 207 p.total in
    let both = fine_both (ranged (leb 1 p.number && leb p.number 63) 201 p.number) (total then second) asked in
    let number = in_span 1 63 p.number (unless_fine _ (Range 201 p.number) both.0) in
    let count = in_span p.number 63 p.total (unless_fine _ (Range 207 p.total) (fine_both total second both.1).0) in
    record { low = number.0; high = count.0; most = count.1 }
