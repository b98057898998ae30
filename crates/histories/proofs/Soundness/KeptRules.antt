-- A page of a bulletin whose name is in range keeps the rules of category 4.
use mathlib.Core.Path.{◌≡◌, refl, sym, subst}
use mathlib.Core.List.{List, [], ◌∷◌}
use mathlib.Core.Logic.{◌⊎◌, inl, inr, ⊎_elim}
use Prim.Native.Nat.{ℕ, zero, suc, ◌+◌, ◌<◌, ◌≤◌}
use native.Mathlib.Omega.{arith}
use lib.ListN.{length, get_or, replicate}
use Rattle.report.specs.declared.record.Record.{Record}
use Rattle.slots.specs.declared.slot.Slot.{Slot}
use Rattle.rows.specs.Layout.{bytes, ◌to◌}
use Rattle.nankai.specs.Nankai.{nankai}
use Rattle.report.specs.Records.{values}
use Rattle.rows.specs.Kept.{In, Kept, Holds}
use Rattle.pages.specs.declared.name.Name.{Name}
use Rattle.pages.proofs.States.{Text}
use Rattle.histories.specs.Soundness.{InRange}
use Rattle.report.specs.declared.body.Body.TheVariants.{Nankai}
use lib.Seq.{take_all}
use lib.Dec.{lit<}
use Rattle.rows.specs.Values.{no_spares}

-- "18 bytes, any"
pub record Bytes18 (t : Text) : Type 0 where
  pub long : length t ≡ 18
  pub bytes : (k : ℕ) → get_or t k 0 < 256

same_bytes : (n v : ℕ) → v < 256 → (k : ℕ) → get_or (replicate n v) k 0 < 256
same_bytes zero v h k = omega arith
same_bytes (suc n) v h zero = h
same_bytes (suc n) v h (suc k) = same_bytes n v h k

pub all_alike : (v : ℕ) → v < 256 → Bytes18 (replicate 18 v)
all_alike v h = record { long = refl; bytes = same_bytes 18 v h }

-- the last of the values of a name
pub total_in_range : (n : Name) → InRange n → (1 ≤ n.total) × (n.total ≤ 63)
total_in_range n range = range.1.1.1.1.1.1.1.0

-- ---- codes

pub two-codes : (a b v : ℕ) → In (a to a ∷ b to b ∷ []) v → (v ≡ a) ⊎ (v ≡ b)
two-codes a b v h = ⊎_elim (λ p. inl (omega arith)) (λ q. ⊎_elim (λ p. inr (omega arith)) (λ n. absurd n) q) h

pub codes-two : (a b v : ℕ) → (v ≡ a) ⊎ (v ≡ b) → In (a to a ∷ b to b ∷ []) v
codes-two a b v h = ⊎_elim (λ e. inl (omega arith, omega arith)) (λ e. inr (inl (omega arith, omega arith))) h

only : (v : ℕ) → In (v to v ∷ []) v
only v = inl (omega arith, omega arith)

-- any bytes
kept_bytes : (k a : ℕ) (past : List ℕ) (t : Text) → ((j : ℕ) → get_or t j 0 < 256) → Kept past (bytes k a) t
kept_bytes zero a past t b = tt
kept_bytes (suc k) a past [] b = tt
kept_bytes (suc k) a past (x ∷ t) b = (inl (omega arith, omega (arith, b 0)), kept_bytes k (a + 8) (x ∷ past) t (λ j. b (suc j)))

-- ---- the record of a page

-- without slots, and with zeros in Reserved and in the spares
abbrev pub page_record : ℕ → Name → ℕ → List Slot → Text → Record
page_record preamble n p slots t = record {
  preamble = preamble;
  reserved = 0;
  common = n.common;
  body = Nankai (record { serial = n.serial; number = p; total = n.total });
  slots = slots;
  text = t;
  spares = no_spares;
}

pub page_holds : (preamble : ℕ) (n : Name) (p : ℕ) (slots : List Slot) (t : Text) → InRange n → 1 ≤ p → p ≤ n.total → Bytes18 t
    → Holds nankai (values (page_record preamble n p slots t))
unfolding values
page_holds preamble n p slots t range low high is = record {
  head = (
    only 43,
    (
      codes-two 2 7 n.common.rc range.0,
      (
        only 4,
        (
          inl range.1.0,
          (
            inl range.1.1.0,
            (
              inl (omega arith, range.1.1.1.0),
              (
                inl (omega arith, range.1.1.1.1.0),
                (codes-two 0 2 n.common.it range.1.1.1.1.1.0, tt),
              ),
            ),
          ),
        ),
      ),
    ),
  );
  front = (lit< tt, (inl range.1.1.1.1.1.1.0, tt));
  slots = tt;
  text = subst (Kept [] nankai.text) (sym (take_all 18 t (omega (arith, is.long)))) (kept_bytes 18 57 [] t is.bytes);
  behind = (inl (low, omega (arith, (total_in_range n range).1)), ((high, (total_in_range n range).1), (lit< tt, tt)));
  last = (only 1, (inl (omega arith, omega arith), tt));
}
