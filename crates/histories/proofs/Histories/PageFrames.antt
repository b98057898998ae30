-- For each page and each text there is a frame that brings it; and what a frame brings is 18 bytes.
use mathlib.Core.Path.{◌≡◌, refl, subst, sym}
use mathlib.Core.List.{List, [], ◌∷◌}
use mathlib.Core.Logic.{inl, ⊎_elim}
use Prim.Native.Nat.{ℕ, zero, suc, ◌+◌, ◌<◌, ◌≤◌}
use native.Mathlib.Omega.{arith}
use native.Mathlib.Nat.{suc-ne-zero, suc_inj}
use lib.ListN.{length, get_or, replicate, get_or-replicate, get_or-eq_default, take, drop_of_length-le}
use Rattle.slots.specs.declared.slot.Slot.{Slot}
use Rattle.report.specs.declared.record.Record.{Record}
use Rattle.rows.specs.Layout.{bytes}
use Rattle.slots.specs.Slots.{no_slot, slot_parts}
use Rattle.report.specs.Records.{values}
use Rattle.rows.specs.Kept.{Kept, Empty}
use Rattle.report.specs.Rules.{KeepsRules}
use Rattle.report.proofs.Claims.{valid_keeps_rules, keeping_rules_is_valid}
use Rattle.pages.specs.declared.name.Name.{Name}
use Rattle.pages.proofs.States.{Text}
use Rattle.rows.proofs.Rules.Tests.{below?}
use Rattle.histories.specs.Soundness.{InRange}
use Rattle.histories.specs.Frames.{Frame, Brings}
use Rattle.histories.proofs.Soundness.KeptRules.{Bytes18, page_record, page_holds}
use Rattle.report.specs.declared.body.Body.{Body}
use Rattle.report.specs.declared.body.Body.TheVariants.{NoCategory}
use Rattle.report.specs.Categories.{layout}
use Rattle.nankai.specs.Nankai.{nankai}
use lib.Seq.{take_all}

-- ---- the frame of a page

abbrev pub record_of : Name → ℕ → Text → Record
record_of n p t = page_record 0x53 n p (replicate 16 no_slot) t

no_slots_lem : (i : ℕ) → get_or (replicate 16 no_slot) i no_slot ≡ no_slot
no_slots_lem i = ⊎_elim (λ h. get_or-replicate 16 i no_slot no_slot h) (λ h. get_or-eq_default (replicate 16 no_slot) no_slot h) (below? i 16)

module _ (n : Name) (range : InRange n) (p : ℕ) (t : Text) (low : 1 ≤ p) (high : p ≤ n.total) (is : Bytes18 t) where
  keeps : KeepsRules (record_of n p t)
  keeps = record {
    preamble = inl (omega arith, omega arith);
    category = λ e. no_nankai e;
    tidy = record {
      slots = λ i h. absurd (none h);
      others = λ i h. subst (λ (x : Slot). Empty (slot_parts x)) (sym (no_slots_lem i)) (refl, (refl, (refl, (refl, (refl, tt)))));
      spare = λ e. refl;
      text = let all : length t ≤ 18 = omega (arith, is.long) in subst Empty (sym (drop_of_length-le t all)) tt;
    };
    rows = page_holds 0x53 n p (replicate 16 no_slot) t range low high is;
  }
    where
      no_nankai : (record_of n p t).body ≡ NoCategory → ⊥
      no_nankai e = cc

      none : {i : ℕ} → i < 0 → ⊥
      none h = omega arith

  abbrev pub frame_of : Frame
  frame_of = record { came = record_of n p t; slots = refl; text = is.long }

  pub frame_brings : Brings n frame_of.came p t
  frame_brings = record {
    valid = keeping_rules_is_valid (record_of n p t) (record { slots = refl; text = is.long }) keeps;
    common = refl;
    body = refl;
    text = refl;
  }

-- ---- what a frame brings

kept_bytes : (k a : ℕ) (past : List ℕ) (t : Text) → length t ≡ k → Kept past (bytes k a) t → (j : ℕ) → get_or t j 0 < 256
kept_bytes zero a past [] l h j = omega arith
kept_bytes zero a past (x ∷ t) l h j = absurd (suc-ne-zero (length t) l)
kept_bytes (suc k) a past [] l h j = omega arith
kept_bytes (suc k) a past (x ∷ t) l h zero = ⊎_elim (λ z. omega arith) (λ z. absurd z) h.0
kept_bytes (suc k) a past (x ∷ t) l h (suc j) = kept_bytes k (a + 8) (x ∷ past) t (suc_inj l) h.1 j

pub brings_bytes : (n : Name) (f : Frame) (p : ℕ) (t : Text) → Brings n f.came p t → Bytes18 t
unfolding values
brings_bytes n f p t b =
    let r = f.came in
    let kept = subst (λ (x : Body). Kept [] (layout x).text (take (length (layout x).text) r.text)) b.body (valid_keeps_rules r (record { slots = f.slots; text = f.text }) b.valid).rows.text in
    subst Bytes18 b.text (record { long = f.text; bytes = kept_bytes 18 57 [] r.text f.text (subst (Kept [] nankai.text) (take_all 18 r.text (omega (arith, f.text))) kept) })
