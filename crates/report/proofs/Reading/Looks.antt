-- What a look tells of a frame beside the answer.
use Rattle.std.specs.Prelude.{Ok, Err}
use Rattle.rows.specs.Refusals.{Verdict}
use mathlib.Core.Path.{◌≡◌, ◌∙◌, ap, sym}
use mathlib.Core.List.{List}
use Prim.Native.Nat.{ℕ}
use Rattle.bits.specs.Frame.{field_of}
use Rattle.rows.specs.declared.refusal.Refusal.{Refusal}
use Rattle.report.specs.Categories.{layout}
use Rattle.report.specs.Meaning.{used_of}
use Rattle.report.specs.Records.{body_of, record_as, record_of}
use Rattle.report.specs.Runs.Reading.{read_answer, reading, read_of, seen}
use Rattle.report.proofs.Categories.{suits}
use Rattle.report.proofs.Reading.Frames.{fine_conforming}
use Rattle.report.proofs.Reading.ReadSteps.{nothing_seen}

pub refused_look : (s : List ℕ) (x : Refusal) → read_answer s ≡ Err x → seen (read_of s) ≡ record { answer = Err x; category = 0; count = 0; used = 0 }
refused_look s x e = ap (λ (v : Verdict). seen (reading v (record_of s))) e ∙ sym (nothing_seen (Err x))

pub read_look : (s : List ℕ) → read_answer s ≡ Ok tt
    → seen (read_of s) ≡ record { answer = Ok tt; category = field_of s 17 4; count = (layout (body_of s)).slots.count; used = used_of (record_of s) }
unfolding record_as
read_look s e =
    let code : (layout (body_of s)).code ≡ field_of s 17 4 = (suits s (field_of s 17 4) (fine_conforming s e).category).code in
    ap (λ (v : Verdict). seen (reading v (record_of s))) e
    ∙ (λ i. record { answer = Ok tt; category = code i; count = (layout (body_of s)).slots.count; used = used_of (record_of s) })
