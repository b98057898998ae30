-- `record_bytes::to_bytes::put_slot` meets its contract.
use mathlib.Core.Path.{ap, ◌∙◌}
use mathlib.Core.List.{List, [], ◌∷◌}
use Prim.Native.Nat.{ℕ}
use lib.Seq.{sets}
use Rattle.lent.specs.Numbers.{wide}
use Rattle.lent.proofs.Backwards.{sets_before}
use Rattle.record_bytes.proofs.to_bytes.put_slot.Goals as goal

pub returns : goal.returns
returns c =
    let a = c.args in
    let four : List ℕ = a.s.now.day ∷ a.s.now.hour ∷ a.s.now.minute ∷ a.s.now.strength ∷ [] in
    c.put_bytes.ensures.bytes
    ∙ ap (λ (l : List ℕ). sets l a.at four) c.put_number.ensures
    ∙ sets_before four (wide 8 a.s.now.place) a.out.now a.at
