-- A name is opened exactly where each of its values is in its range, and refused at the first that is not.
use Rattle.std.specs.Prelude.{Ok}
use mathlib.Core.Path.{◌≡◌, refl, sym, ◌∙◌}
use mathlib.Core.Bool.{true, ◌&&◌}
use native.Mathlib.Omega.{arith}
use lib.Dec.{leb}
use Rattle.rows.specs.declared.refusal.Refusal.TheVariants.{Range}
use Rattle.rows.specs.Layout.{two_or_seven, uncorrected}
use Rattle.rows.specs.Values.{no_spares}
use Rattle.rows.specs.Runs.Questions.{◌then◌}
use Rattle.rows.specs.Runs.Verdict.{allowed, ranged, common_verdict, slots_verdict, body_verdict}
use Rattle.rows.proofs.Rules.Outcomes.{then_assoc, fine_then, then_fine, unless_true}
use Rattle.rows.proofs.Rules.Spans.{allowed_in, in_allowed, in_span, span_in}
use Rattle.rows.proofs.Rules.Walks.{common-walk}
use Rattle.rows.proofs.Rules.Ordered.{Answers, question, last_question}
use Rattle.nankai.specs.Nankai.{nankai}
use Rattle.nankai.proofs.Walks.{front-walk, behind-walk}
use Rattle.pages.specs.declared.name.Name.{Name}
use Rattle.pages.specs.Names.{name_verdict, page_one}
use Rattle.pages.proofs.Ranges.{name_found}
use Rattle.histories.specs.Soundness.{open_questions, InRange}
use Rattle.histories.proofs.Soundness.KeptRules.{two-codes, codes-two}

name_asked : (n : Name) → name_verdict n
    ≡ common_verdict n.common (allowed two_or_seven n.common.rc) (allowed uncorrected n.common.it)
    then ranged (leb 1 n.serial && leb n.serial 15) 53 n.serial
    then ranged (leb 1 n.total && leb n.total 63) 207 n.total
unfolding body_verdict slots_verdict
name_asked n =
    sym (name_found n no_spares _ refl refl)
    ∙ simp (common-walk nankai n.common, front-walk (page_one n) no_spares, behind-walk (page_one n) no_spares)
    (simp (unless_true true (Range 43 0) refl, fine_then, then_fine))

pub name_answered : (n : Name) → Answers (name_verdict n) (open_questions n) (Ok tt)
name_answered n =
    let c = n.common in
    rw (name_asked n)
    (simp then_assoc
    (question (allowed two_or_seven c.rc) _ (Range 14 c.rc) (λ e. two-codes 2 7 c.rc (allowed_in two_or_seven c.rc e)) (λ h. in_allowed two_or_seven c.rc (codes-two 2 7 c.rc h))
    (question (leb 1 c.month && leb c.month 12) _ (Range 21 c.month) (in_span 1 12 c.month) (span_in 1 12 c.month)
    (question (leb 1 c.day && leb c.day 31) _ (Range 25 c.day) (in_span 1 31 c.day) (span_in 1 31 c.day)
    (question (leb 0 c.hour && leb c.hour 23) _ (Range 30 c.hour) (λ e. (in_span 0 23 c.hour e).1) (λ h. span_in 0 23 c.hour (omega arith, h))
    (question (leb 0 c.minute && leb c.minute 59) _ (Range 35 c.minute) (λ e. (in_span 0 59 c.minute e).1) (λ h. span_in 0 59 c.minute (omega arith, h))
    (question (allowed uncorrected c.it) _ (Range 41 c.it) (λ e. two-codes 0 2 c.it (allowed_in uncorrected c.it e)) (λ h. in_allowed uncorrected c.it (codes-two 0 2 c.it h))
    (question (leb 1 n.serial && leb n.serial 15) _ (Range 53 n.serial) (in_span 1 15 n.serial) (span_in 1 15 n.serial)
    (last_question (leb 1 n.total && leb n.total 63) _ (Range 207 n.total) (in_span 1 63 n.total) (span_in 1 63 n.total))))))))))

pub fine_in_range : (n : Name) → name_verdict n ≡ Ok tt → InRange n
fine_in_range n e = ((name_answered n).fine e).0

pub in_range_fine : (n : Name) → InRange n → name_verdict n ≡ Ok tt
in_range_fine n h = (name_answered n).met h
