-- What becomes of spares: none is refused in a frame, each is kept in the record and written back, and one that is too wide for its
-- field, or that the category does not have, is refused in writing.
use Rattle.std.specs.Prelude.{Ok, Err}
use Rattle.rows.specs.Refusals.{Verdict}
use mathlib.Core.Path.{◌≡◌, refl, sym, ap, ◌∙◌}
use mathlib.Core.Bool.{Bool, true, false}
use Prim.Native.Nat.{ℕ, ◌-◌, ◌^◌, ◌≤◌}
use mathlib.Core.List.{List, []}
use Rattle.bits.specs.Frame.{bytes_of}
use Rattle.rows.specs.declared.fields.Spares.{Spares}
use Rattle.rows.specs.declared.refusal.Refusal.{Refusal}
use Rattle.rows.specs.declared.refusal.Refusal.TheVariants.{Range, Unused}
use Rattle.rows.specs.Layout.{Layout, common, ending}
use Rattle.rows.specs.Values.{has_spare, spares_at}
use Rattle.rows.proofs.Rules.Spares.{spare_bit, spare_width}
use Rattle.rows.specs.Kept.{In}
use Rattle.rows.specs.Runs.Questions.{◌then◌}
use Rattle.rows.specs.Runs.Verdict.{slots_verdict, verdict, walk}
use Rattle.rows.proofs.Rules.Outcomes.{false_not_true, fine_both}
use Rattle.rows.proofs.Rules.Spans.{in_allowed}
use Rattle.report.specs.declared.body.Body.{Body}
use Rattle.report.specs.declared.record.Record.{Record}
use Rattle.report.specs.Categories.{layout, preambles, sides_of}
use Rattle.report.specs.Records.{record_as, values}
use Rattle.report.specs.Runs.Writing.{frame, known, tidy, Valid, write_answer}
use Rattle.report.proofs.Categories.{first_refused, front_alike, second_refused}
use Rattle.report.proofs.RoundTrips.WrittenThenRead.{returns}
use Rattle.report.proofs.Shaped.{Shaped}
use Rattle.report.proofs.Writing.Unused.{is_tidy}
use Rattle.report.proofs.Writing.Validity.{answered, inner_write, record_layout, record_values}

-- ---- written back

-- the record with other spares
abbrev pub sparing : Record → Spares → Record
sparing r z = record { preamble = r.preamble; reserved = r.reserved; common = r.common; body = r.body; slots = r.slots; text = r.text; spares = z }

-- every bit of them is set, and none that the category does not have
abbrev pub all_ones : Layout → Spares
all_ones l = record { first = 2 ^ spare_width l.front - 1; second = 2 ^ spare_width l.behind - 1 }

pub on_the_wire : (r : Record) → Shaped r → Valid r → spares_at (bytes_of (frame r)) (layout r.body) ≡ r.spares
unfolding record_as
on_the_wire r s v =
    let again = (returns r s v).again in
    ap (λ (b : Body). spares_at (bytes_of (frame r)) (layout b)) (sym (ap (λ (q : Record). q.body) again)) ∙ ap (λ (q : Record). q.spares) again

-- ---- too wide

-- the second, or the fifth of six parts is refused
second-part : (a b c : Verdict) (x : Refusal) → a ≡ Ok tt → b ≡ Err x → a then b then c ≡ Err x
second-part a b c x e f = simp (e, f)

fifth_part : (a b c d e f g h : Verdict) (x : Refusal) → a then b then c then d then e then f ≡ Ok tt → g ≡ Err x → a then b then c then d then g then h ≡ Err x
fifth_part a b c d e f g h x p q =
    let i = fine_both a _ p in
    let j = fine_both b _ i.1 in
    let k = fine_both c _ j.1 in
    let l = fine_both d _ k.1 in
    simp (i.0, j.0, k.0, l.0, q)

module _ (r : Record) (v : Valid r) where
  inner_fine : inner_write r ≡ Ok tt
  inner_fine = ((answered r 32).fine v).1

  -- the questions before the fields are met, whatever fits
  asked_on : (z : Spares) → (has_spare (layout r.body).behind ≡ false → z.second ≡ 0) → write_answer (sparing r z) 32 ≡ inner_write (sparing r z)
  asked_on z h =
      let m = ((answered r 32).fine v).0 in
      let t = m.1.1.1.0 in
      (answered (sparing r z) 32).met (m.0, (m.1.0, (m.1.1.0, (record { slots = t.slots; others = t.others; spare = h; text = t.text }, tt))))

  pub first_too_wide : (n : ℕ) → 2 ^ spare_width (layout r.body).front ≤ n
      → write_answer (sparing r (record { first = n; second = r.spares.second })) 32 ≡ Err (Range (spare_bit (layout r.body).front) n)
  unfolding verdict values
  first_too_wide n h =
      let z : Spares = record { first = n; second = r.spares.second } in
      asked_on z ((answered r 32).fine v).0.1.1.1.0.spare ∙ second-part _ _ _ _ (fine_both _ _ inner_fine).0 (first_refused r.body z h)

  pub second_too_wide : (n : ℕ) → has_spare (layout r.body).behind ≡ true → 2 ^ spare_width (layout r.body).behind ≤ n
      → write_answer (sparing r (record { first = r.spares.first; second = n })) 32 ≡ Err (Range (spare_bit (layout r.body).behind) n)
  unfolding verdict values
  second_too_wide n s h =
      let b = r.body in
      let l = layout b in
      let y : Spares = record { first = r.spares.first; second = n } in
      let parts = fine_both _ (walk [] ending (record_values r).last) (fine_both (walk [] (record_layout r).text (record_values r).text) _ (fine_both (slots_verdict (record_layout r).slots (record_values r).slots) _ (fine_both (walk [] (record_layout r).front (record_values r).front) _ (fine_both (walk [] (common (record_layout r)) (record_values r).head) _ inner_fine).1).1).1).1 in
      asked_on y (λ e. absurd (false_not_true (sym e ∙ s)))
      ∙ ap (λ (vs : List ℕ). walk [] (common l) (values r).head then walk [] l.front vs then slots_verdict l.slots (values r).slots then walk [] l.text (values r).text then walk [] l.behind (sides_of b y).behind then walk [] ending (values r).last) (front_alike b r.spares n)
      ∙ fifth_part (walk [] (common (record_layout r)) (record_values r).head) (walk [] (record_layout r).front (record_values r).front) (slots_verdict (record_layout r).slots (record_values r).slots) (walk [] (record_layout r).text (record_values r).text) (walk [] l.behind (sides_of b r.spares).behind) (walk [] ending (record_values r).last) _ (walk [] ending (values r).last) _ inner_fine (second_refused b r.spares y s parts.0 h)

-- ---- one that the category does not have

pub no_second : (r : Record) → In preambles r.preamble → known r.body ≡ true → has_spare (layout r.body).behind ≡ false → (r.spares.second ≡ 0 → ⊥)
    → write_answer r 32 ≡ Err Unused
unfolding write_answer
no_second r p k s h = simp (in_allowed preambles r.preamble p, k, untidy (tidy r) refl)
  where
    untidy : (b : Bool) → tidy r ≡ b → tidy r ≡ false
    untidy true e = absurd (h ((is_tidy r e).spare s))
    untidy false e = e
