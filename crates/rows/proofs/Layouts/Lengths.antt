-- Each row of a table has its value, and what `each` lists stands in its place.
use mathlib.Core.Path.{sym, ◌≡◌, refl, ap, ◌∙◌}
use Prim.Native.Nat.{ℕ, zero, suc, ◌+◌, ◌<◌}
use native.Mathlib.Omega.{arith}
use mathlib.Core.List.{List, [], ◌∷◌}
use lib.ListN.{length, length-map, get_or}
use Rattle.rows.specs.Layout.{shifted, Row, Layout, common, ending, slot_rows, Slots}
use Rattle.rows.specs.Values.{Values, each, values_of, cut}

pub length-each : {A : Type 0} (n : ℕ) (f : ℕ → A) → length (each n f) ≡ n
length-each zero f = refl
length-each (suc n) f = ap suc (length-each n (λ i. f (suc i)))

pub each_at : {A : Type 0} (n : ℕ) (f : ℕ → A) (d : A) (i : ℕ) → i < n → get_or (each n f) i d ≡ f i
each_at zero f d i h = absurd (omega arith)
each_at (suc n) f d zero h = refl
each_at (suc n) f d (suc i) h = each_at n (λ j. f (suc j)) d i (omega arith)

-- a value for each row of each slot, from the bit `at` on
abbrev pub SlotsFilled : Slots → ℕ → List (List ℕ) → Type 0
SlotsFilled k at [] = Unit
SlotsFilled k at (v ∷ vs) = (length v ≡ length (slot_rows k at)) × SlotsFilled k (at + k.bits) vs

-- a value for each row of the layout
pub record Filled (l : Layout) (v : Values) : Type 0 where
  pub head : length v.head ≡ length (common l)
  pub front : length v.front ≡ length l.front
  pub slots : length v.slots ≡ l.slots.count
  pub fields : SlotsFilled l.slots l.slots.first v.slots
  pub text : length v.text ≡ length l.text
  pub behind : length v.behind ≡ length l.behind
  pub last : length v.last ≡ length ending

-- a slot has as many rows wherever it stands
pub length-shifted : (a : ℕ) (rs : List Row) → length (shifted a rs) ≡ length rs
length-shifted a [] = refl
length-shifted a (r ∷ rs) = ap suc (length-shifted a rs)

each-filled : (k : Slots) (at n : ℕ) (f : ℕ → List ℕ) → ((i : ℕ) → length (f i) ≡ length k.rows) → SlotsFilled k at (each n f)
each-filled k at zero f h = tt
each-filled k at (suc n) f h = (h 0 ∙ sym (length-shifted at k.rows), each-filled k (at + k.bits) n (λ i. f (suc i)) (λ i. h (suc i)))

pub frame-filled : (s : List ℕ) (l : Layout) → Filled l (values_of s l)
unfolding values_of
frame-filled s l = record {
  head = length-map (common l) (cut s);
  front = length-map l.front (cut s);
  slots = length-each l.slots.count _;
  fields = each-filled l.slots l.slots.first l.slots.count _
      (λ i. length-map (slot_rows l.slots _) (cut s) ∙ length-shifted _ l.slots.rows);
  text = length-map l.text (cut s);
  behind = length-map l.behind (cut s);
  last = length-map ending (cut s);
}
