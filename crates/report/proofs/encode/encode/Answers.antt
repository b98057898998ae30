-- `report::encode::encode` meets its contract: what it puts first is the frame without its parity, what it puts then the frame.
use mathlib.Core.Path.{◌≡◌, ◌∙◌, ap}
use native.Mathlib.Omega.{arith}
use Prim.Native.Nat.{◌*◌, ◌^◌}
use lib.ListN.{length}
use Rattle.bits.specs.Frame.{bytes_of}
use Rattle.bits.specs.declared.words.Words.{Words}
use Rattle.bits.specs.Words.{pushed, value_of}
use Rattle.bits.proofs.Inside.{frame_lent, right_size}
use Rattle.parity.specs.Parity.{parity_of}
use Rattle.report.specs.Runs.Writing.{front}
use Rattle.report.proofs.Shaped.{Shaped}
use Rattle.report.proofs.Writing.Encoding.{front-number, whole_number}
use Rattle.report.proofs.encode.encode.Goals as goal

pub returns : goal.returns
returns c =
    let r = c.args.r.now in
    let shaped : Shaped r = record { slots = omega arith; text = omega arith } in
    let valid = c.requires.0 in
    let words = c.front-words.ensures in
    let first_put : c.put.new.out ≡ bytes_of (front r * 2 ^ 30) =
    c.put.ensures
    ∙ right_size c.args.lent.now _ _ c.requires.1.1
    ∙ ap bytes_of (ap (λ (x : Words). value_of x) c.push.ensures ∙ front-number r shaped valid c.front-words.result words)
    in
    let size : length c.put.new.out ≡ 32 = ap length first_put in
    c.put-2.ensures
    ∙ right_size c.put.new.out _ _ size
    ∙ ap bytes_of
    (ap (λ (x : Words). value_of x) (c.push-3.ensures ∙ ap (λ (x : Words). pushed x 6 0) (c.push-2.ensures ∙ ap (pushed _ 24) c.from.ensures))
    ∙ whole_number r shaped valid c.front-words.result words c.put.new.out c.parity-parity.result first_put (c.parity-parity.ensures ∙ ap parity_of (frame_lent c.put.new.out size)))
