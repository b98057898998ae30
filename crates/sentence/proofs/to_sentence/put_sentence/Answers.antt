-- `sentence::to_sentence::put_sentence` meets its contract.
use mathlib.Core.Path.{◌≡◌, ap, ◌∙◌}
use mathlib.Core.List.{List, [], ◌∷◌, ◌++◌}
use Prim.Native.Nat.{ℕ, ◌+◌, ◌/◌, ◌%◌}
use native.Mathlib.Omega.{arith}
use lib.ListN.{length, take, drop, get_or}
use lib.Seq.{sets, length-sets}
use Rattle.sentence.specs.Sentences.{head, comma, star, end_of}
use Rattle.line.specs.Lines.{line_of}
use Rattle.sentence.proofs.Sending.{line_put, sentence_put}
use Rattle.sentence.proofs.to_sentence.put_sentence.Goals as goal

pub returns : goal.returns
returns c =
    let a = c.args in
    let room : List ℕ = a.buffer.now in
    let headed : List ℕ = c.put_bytes.new.out in
    let named : List ℕ = c.put_bytes-2.new.out in
    let digits : List ℕ = c.write_line.new.buffer in
    let body : List ℕ = take 10 named ++ (digits ++ drop 63 (drop 10 named)) in
    let first : headed ≡ sets room 0 head = c.put_bytes.ensures.bytes in
    let second : named ≡ sets headed 7 ((0x30 + a.satellite / 10) ∷ (0x30 + a.satellite % 10) ∷ comma ∷ []) = c.put_bytes-2.ensures.bytes in
    let long : length named ≡ length room = ap length second ∙ length-sets headed 7 ((0x30 + a.satellite / 10) ∷ (0x30 + a.satellite % 10) ∷ comma ∷ []) ∙ ap length first ∙ length-sets room 0 head in
    let third : body ≡ sets named 10 (line_of a.frame.now) = line_put named digits a.frame.now (omega (arith, c.requires.3)) c.requires.1 c.requires.2 c.write_line.ensures.value.1 in
    let last : c.put_bytes-3.new.out ≡ sets body 73 (end_of c.checksum.result) =
    c.put_bytes-3.ensures.bytes ∙ ap (λ (l : List ℕ). sets body 73 (star ∷ get_or l 0 0 ∷ get_or l 1 0 ∷ 13 ∷ 10 ∷ [])) c.two_capitals-sum.ensures in
    sentence_put room a.satellite a.frame.now c.requires.3 c.requires.1 headed named body c.put_bytes-3.new.out c.checksum.result first second third c.checksum.ensures last
