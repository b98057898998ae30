-- `rows::codes::is_notification` meets its contract.
use Rattle.rows.proofs.Rules.Spans.{in_allowed, not_allowed}
use Rattle.rows.specs.Layout.{notified}
use mathlib.Core.Logic.{inl, inr, ⊎_elim}
use mathlib.Core.Path.{sym}
use native.Mathlib.Omega.{arith}
use Rattle.rows.proofs.codes.is_notification.Goals as goal

pub returns-in_default : goal.returns-in_default
returns-in_default c =
    let other = c.in_default.in_default-own.rest.1 in
    sym (not_allowed notified _ (λ h. ⊎_elim (λ k. other (omega arith)) (λ h. ⊎_elim (λ k. omega arith) (λ h. h) h) h))

pub returns-in_default-2 : goal.returns-in_default-2
returns-in_default-2 c = sym (not_allowed notified _ (λ h. ⊎_elim (λ k. omega arith) (λ h. ⊎_elim (λ k. omega arith) (λ h. h) h) h))

pub returns-in-0 : goal.returns-in-0
returns-in-0 c =
    let zero = c.in-0.in-0-own.keys1 in
    sym (in_allowed notified _ (inl (omega arith, omega arith)))

pub returns-in-0-2 : goal.returns-in-0-2
returns-in-0-2 c = sym (in_allowed notified _ (inr (inl (omega arith, omega arith))))
