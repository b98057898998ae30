-- Values that fill one layout and are the same one behind the other are the same.
use mathlib.Core.Path.{◌≡◌, refl, sym, ap, ap₂, ◌∙◌}
use Prim.Native.Nat.{ℕ, ◌+◌}
use native.Mathlib.Nat.{suc-ne-zero, suc_inj}
use mathlib.Core.List.{List, [], ◌∷◌, ◌++◌, append_assoc}
use lib.ListN.{length, take, drop}
use lib.Seq.{take_at, drop_at}
use Rattle.rows.specs.Layout.{Layout, Slots}
use Rattle.rows.specs.Values.{Values, joined, flat}
use Rattle.rows.proofs.Layouts.Lengths.{SlotsFilled, Filled}

-- two lists of one length, and what stands behind them
front_same : (xs ys us vs : List ℕ) → length xs ≡ length ys → xs ++ us ≡ ys ++ vs → (xs ≡ ys) × (us ≡ vs)
front_same xs ys us vs l e = (
  sym (take_at xs us (length ys) l) ∙ ap (take (length ys)) e ∙ take_at ys vs (length ys) refl,
  sym (drop_at xs us (length ys) l) ∙ ap (drop (length ys)) e ∙ drop_at ys vs (length ys) refl,
)

-- the same of slots
slots_same : (k : Slots) (at : ℕ) (xs ys : List (List ℕ)) (us vs : List ℕ) → SlotsFilled k at xs → SlotsFilled k at ys → length xs ≡ length ys
    → joined xs ++ us ≡ joined ys ++ vs → (xs ≡ ys) × (us ≡ vs)
slots_same k at [] [] us vs f g n e = (refl, e)
slots_same k at [] (y ∷ ys) us vs f g n e = absurd (suc-ne-zero (length ys) (sym n))
slots_same k at (x ∷ xs) [] us vs f g n e = absurd (suc-ne-zero (length xs) n)
slots_same k at (x ∷ xs) (y ∷ ys) us vs f g n e =
    let q = front_same x y (joined xs ++ us) (joined ys ++ vs) (f.0 ∙ sym g.0) (sym (append_assoc x (joined xs) us) ∙ e ∙ append_assoc y (joined ys) vs) in
    let t = slots_same k (at + k.bits) xs ys us vs f.1 g.1 (suc_inj n) q.1 in
    (ap₂ (λ (a : List ℕ) (b : List (List ℕ)). a ∷ b) q.0 t.0, t.1)

pub flat_same : (l : Layout) (v w : Values) → Filled l v → Filled l w → flat v ≡ flat w → v ≡ w
flat_same l v w f g e =
    let vs = v.text ++ (v.behind ++ v.last) in
    let ws = w.text ++ (w.behind ++ w.last) in
    let a = front_same v.head w.head (v.front ++ (joined v.slots ++ vs)) (w.front ++ (joined w.slots ++ ws)) (f.head ∙ sym g.head) e in
    let b = front_same v.front w.front (joined v.slots ++ vs) (joined w.slots ++ ws) (f.front ∙ sym g.front) a.1 in
    let c = slots_same l.slots l.slots.first v.slots w.slots vs ws f.fields g.fields (f.slots ∙ sym g.slots) b.1 in
    let t = front_same v.text w.text (v.behind ++ v.last) (w.behind ++ w.last) (f.text ∙ sym g.text) c.1 in
    let d = front_same v.behind w.behind v.last w.last (f.behind ∙ sym g.behind) t.1 in
    λ i. record { head = a.0 i; front = b.0 i; slots = c.0 i; text = t.0 i; behind = d.0 i; last = d.1 i }
