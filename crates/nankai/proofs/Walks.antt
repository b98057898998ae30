-- Any text passes.
use Rattle.std.specs.Prelude.{Ok}
use Rattle.rows.specs.Refusals.{Verdict}
use Rattle.bits.specs.Frame.{Bytes}
use mathlib.Core.List.{List, [], ◌∷◌}
use Rattle.rows.specs.declared.refusal.Refusal.TheVariants.{Range}
use Prim.Native.Nat.{◌+◌, ◌^◌, ◌<◌, ◌≤◌, suc, zero, zero-le, ℕ}
use Rattle.rows.specs.Runs.Questions.{◌then◌}
use Rattle.rows.specs.Layout.{◌to◌, bytes}
use mathlib.Core.Path.{◌∙◌, ◌≡◌, ap, refl}
use native.Mathlib.Omega.{arith}
use Rattle.rows.proofs.Rules.Outcomes.{fine_then, unless_true, then_fine}
use Rattle.rows.proofs.Rules.Spans.{in_allowed, allowed_one}
use mathlib.Core.Logic.{inl}
use Rattle.rows.specs.Runs.Verdict.{judge, walk, ranged}
use Rattle.nankai.specs.Nankai.{nankai, number_values}
use Rattle.nankai.specs.declared.PageNumbers.{PageNumbers}
use mathlib.Core.Bool.{◌&&◌}
use lib.Dec.{leb, ltb}
use Rattle.rows.specs.declared.fields.Spares.{Spares}

byte : (x : ℕ) → x < 256 → x ≤ 255
byte x k = omega arith

bytes_pass : (n a : ℕ) (past : List ℕ) (text : List ℕ) → Bytes text → walk past (bytes n a) text ≡ Ok tt
unfolding walk judge
bytes_pass zero a past text h = refl
bytes_pass (suc n) a past [] h = refl
bytes_pass (suc n) a past (t ∷ text) h =
    ap (λ (v : Verdict). v then walk (t ∷ past) (bytes n (a + 8)) text) (unless_true _ (Range a t) (in_allowed (0 to 255 ∷ []) t (inl (zero-le, byte t (h 0)))))
    ∙ fine_then _
    ∙ bytes_pass n (a + 8) (t ∷ past) text (λ i. h (suc i))

-- "Text at 57: 18 bytes, any"
pub any-text-passes : (text : List ℕ) → Bytes text → walk [] nankai.text text ≡ Ok tt
any-text-passes text h = bytes_pass 18 57 [] text h

-- what is asked of a page's numbers, as the code asks it
pub front-walk : (p : PageNumbers) (z : Spares) → walk [] nankai.front (number_values p z).front ≡ ranged (ltb z.first (2 ^ 10)) 43 z.first then ranged (leb 1 p.serial && leb p.serial 15) 53 p.serial
unfolding walk judge
front-walk p z = simp (then_fine, allowed_one)

pub behind-walk : (p : PageNumbers) (z : Spares) → walk [] nankai.behind (number_values p z).behind
    ≡ ranged (leb 1 p.number && leb p.number 63) 201 p.number
    then ranged (leb p.number p.total && leb p.total 63) 207 p.total
    then ranged (ltb z.second (2 ^ 1)) 213 z.second
unfolding walk judge
behind-walk p z = simp (then_fine, allowed_one)
