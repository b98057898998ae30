-- Where the value of an 8 stands, and that it is none of its field's normal range.
use mathlib.Core.Path.{◌≡◌, refl, sym, ap, ap₂, ◌∙◌}
use mathlib.Core.Logic.{◌⊎◌, inl, inr, ⊎_elim, ◌↔◌}
use mathlib.Core.Bool.{Bool, true, not, ◌&&◌}
use Prim.Native.Nat.{ℕ, zero, suc, ◌+◌, ◌≤◌, ◌<◌}
use native.Mathlib.Nat.{suc_inj, suc-ne-zero}
use native.Mathlib.Omega.{arith}
use mathlib.Core.List.{List, [], ◌∷◌, ◌++◌, map}
use lib.Dec.{eqb}
use lib.ListN.{length, length-append}
use borrow.Author.Tests.{eqb-false, not-true}
use Rattle.bits.specs.Frame.{field_of}
use Rattle.rows.specs.declared.refusal.Refusal.{Refusal}
use Rattle.rows.specs.declared.refusal.Refusal.TheVariants.{Range, Gap}
use Rattle.rows.specs.Refusals.{says}
use Rattle.rows.specs.Layout.{Rule, among, rising, in_group, spare, Row, Slots, Layout, common, ending, slot_rows, slots_rows, all_rows}
use Rattle.rows.specs.Values.{Values, cut, flat, joined}
use Rattle.rows.specs.Kept.{Keeps, Together, latest}
use Rattle.rows.specs.Faults.{RowFault, LaterFault, SlotsFault, Fault}
use Rattle.rows.specs.Found.{Normal, FoundAt, Starts}
use Rattle.rows.proofs.Layouts.Lengths.{SlotsFilled, Filled}
use Rattle.rows.proofs.Rules.Outcomes.{and_both}
use Rattle.rows.proofs.Rules.JudgedRows.{Rises}

-- ---- one stretch of rows

-- what breaks its rule is not normal, whatever stands before the stretch
not_normal : (r : Rule) (past : List ℕ) (v : ℕ) (next : List ℕ) (before : ℕ) → latest past ≤ before → (Keeps r past v next → ⊥) → Normal r before v → ⊥
not_normal (among ss) past v next before h k n = k n
not_normal (rising hi) past v next before h k n = k (omega (arith, h, n.0), n.1)
not_normal (in_group ss c) past v next before h k n = k (inl n)
not_normal (spare w) past v next before h k n = k n

pub same_place : {p q x v : ℕ} → ◌≡◌ {A = Refusal} (Range p x) (Range q v) → q ≡ p
same_place e = sym (ap (λ (y : Refusal). (says y).place) e)

pub same_value : {p q x v : ℕ} → ◌≡◌ {A = Refusal} (Range p x) (Range q v) → v ≡ x
same_value e = sym (ap (λ (y : Refusal). (says y).value) e)

no_gap_is_8 : {p q x : ℕ} → ◌≡◌ {A = Refusal} (Range p x) (Gap q) → ⊥
no_gap_is_8 e = omega (arith, ap (λ (y : Refusal). (says y).number) e)

module _ (p x : ℕ) where
  from_row : (past : List ℕ) (rs : List Row) (vs : List ℕ) (before : ℕ) → latest past ≤ before → RowFault past rs vs (Range p x) → FoundAt before rs vs p x
  from_row past [] vs before h f = f
  from_row past (r ∷ rs) [] before h f = f
  from_row past (r ∷ rs) (v ∷ vs) before h f = ⊎_elim
      (λ u. inl (same_place u.1, (same_value u.1, not_normal r.rule past v vs before h u.0)))
      (λ u. inr (from_row (v ∷ past) rs vs v (omega arith) u))
      f

  -- ---- one stretch behind the other

  in_front : (rs qs : List Row) (vs ws : List ℕ) (before : ℕ) → FoundAt before rs vs p x → FoundAt before (rs ++ qs) (vs ++ ws) p x
  in_front [] qs vs ws before f = absurd f
  in_front (r ∷ rs) qs [] ws before f = absurd f
  in_front (r ∷ rs) qs (v ∷ vs) ws before f = ⊎_elim inl (λ u. inr (in_front rs qs vs ws v u)) f

  behind : (rs qs : List Row) (vs ws : List ℕ) (before : ℕ) → length vs ≡ length rs → ((b : ℕ) → FoundAt b qs ws p x) → FoundAt before (rs ++ qs) (vs ++ ws) p x
  behind [] qs [] ws before n f = f before
  behind [] qs (v ∷ vs) ws before n f = absurd (suc-ne-zero (length vs) n)
  behind (r ∷ rs) qs [] ws before n f = absurd (suc-ne-zero (length rs) (sym n))
  behind (r ∷ rs) qs (v ∷ vs) ws before n f = inr (behind rs qs vs ws v (suc_inj n) f)

  either : (rs qs : List Row) (vs ws : List ℕ) (before : ℕ) → length vs ≡ length rs → RowFault [] rs vs (Range p x) ⊎ ((b : ℕ) → FoundAt b qs ws p x)
      → FoundAt before (rs ++ qs) (vs ++ ws) p x
  either rs qs vs ws before n = ⊎_elim (λ u. in_front rs qs vs ws before (from_row [] rs vs before (omega arith) u)) (behind rs qs vs ws before n)

  -- ---- slots

  later-found : (k : Slots) (gap : Bool) (at n : ℕ) (vs : List (List ℕ)) → length vs ≡ n → SlotsFilled k at vs → LaterFault k gap at vs (Range p x)
      → (before : ℕ) → FoundAt before (slots_rows k n at) (joined vs) p x
  later-found k gap at n [] l s f before = absurd f
  later-found k gap at zero (v ∷ vs) l s f before = absurd (suc-ne-zero (length vs) l)
  later-found k gap at (suc n) (v ∷ vs) l s f before =
      let next = at + k.bits in
      either (slot_rows k at) (slots_rows k n next) v (joined vs) before s.0 (⊎_elim
      (λ u. inr (λ b. later-found k _ next n vs (suc_inj l) s.1 u.1 b))
      (λ u. ⊎_elim (λ g. absurd (no_gap_is_8 g.1)) (⊎_elim inl (λ w. inr (λ b. later-found k gap next n vs (suc_inj l) s.1 w b))) u.1)
      f)

  slots_found : (k : Slots) (n : ℕ) (vs : List (List ℕ)) → length vs ≡ n → SlotsFilled k k.first vs → SlotsFault k vs (Range p x)
      → (before : ℕ) → FoundAt before (slots_rows k n k.first) (joined vs) p x
  slots_found k n [] l s f before = absurd f
  slots_found k zero (v ∷ vs) l s f before = absurd (suc-ne-zero (length vs) l)
  slots_found k (suc n) (v ∷ vs) l s f before =
      let next = k.first + k.bits in
      either (slot_rows k k.first) (slots_rows k n next) v (joined vs) before s.0
      (⊎_elim inl (λ u. inr (λ b. later-found k _ next n vs (suc_inj l) s.1 u b)) f)

-- ---- all rows of a table

length-joined : (k : Slots) (at n : ℕ) (vs : List (List ℕ)) → length vs ≡ n → SlotsFilled k at vs → length (joined vs) ≡ length (slots_rows k n at)
length-joined k at zero [] l s = refl
length-joined k at (suc n) [] l s = absurd (suc-ne-zero n (sym l))
length-joined k at zero (v ∷ vs) l s = absurd (suc-ne-zero (length vs) l)
length-joined k at (suc n) (v ∷ vs) l s =
    length-append v (joined vs) ∙ ap₂ (λ (a b : ℕ). a + b) s.0 (length-joined k (at + k.bits) n vs (suc_inj l) s.1) ∙ sym (length-append (slot_rows k at) _)

pub table_found : (p x : ℕ) (l : Layout) (v : Values) → Filled l v → Fault l v (Range p x) → FoundAt 0 (all_rows l) (flat v) p x
table_found p x l v i = λ f. in_common f 0
  where
    slots : List Row
    slots = slots_rows l.slots l.slots.count l.slots.first

    in_behind : RowFault [] l.behind v.behind (Range p x) ⊎ RowFault [] ending v.last (Range p x) → (b : ℕ) → FoundAt b (l.behind ++ ending) (v.behind ++ v.last) p x
    in_behind f b = either p x l.behind ending v.behind v.last b i.behind (⊎_elim inl (λ u. inr (λ c. from_row p x [] ending v.last c (omega arith) u)) f)

    in_text : RowFault [] l.text v.text (Range p x) ⊎ (RowFault [] l.behind v.behind (Range p x) ⊎ RowFault [] ending v.last (Range p x))
        → (b : ℕ) → FoundAt b (l.text ++ (l.behind ++ ending)) (v.text ++ (v.behind ++ v.last)) p x
    in_text f b = either p x l.text (l.behind ++ ending) v.text (v.behind ++ v.last) b i.text (⊎_elim inl (λ u. inr (in_behind u)) f)

    in_slots : SlotsFault l.slots v.slots (Range p x)
        ⊎ (RowFault [] l.text v.text (Range p x) ⊎ (RowFault [] l.behind v.behind (Range p x) ⊎ RowFault [] ending v.last (Range p x)))
        → (b : ℕ) → FoundAt b (slots ++ (l.text ++ (l.behind ++ ending))) (joined v.slots ++ (v.text ++ (v.behind ++ v.last))) p x
    in_slots f b = ⊎_elim
        (λ u. in_front p x slots _ (joined v.slots) _ b (slots_found p x l.slots l.slots.count v.slots i.slots i.fields u b))
        (λ u. behind p x slots _ (joined v.slots) _ b (length-joined l.slots l.slots.first l.slots.count v.slots i.slots i.fields) (in_text u))
        f

    in_rows : RowFault [] l.front v.front (Range p x)
        ⊎ (SlotsFault l.slots v.slots (Range p x)
        ⊎ (RowFault [] l.text v.text (Range p x) ⊎ (RowFault [] l.behind v.behind (Range p x) ⊎ RowFault [] ending v.last (Range p x))))
        → (b : ℕ) → FoundAt b (l.front ++ (slots ++ (l.text ++ (l.behind ++ ending)))) (v.front ++ (joined v.slots ++ (v.text ++ (v.behind ++ v.last)))) p x
    in_rows f b = either p x l.front (slots ++ (l.text ++ (l.behind ++ ending))) v.front (joined v.slots ++ (v.text ++ (v.behind ++ v.last))) b i.front
        (⊎_elim inl (λ u. inr (in_slots u)) f)

    in_common : Fault l v (Range p x) → (b : ℕ) → FoundAt b (all_rows l) (flat v) p x
    in_common f b = either p x (common l) (l.front ++ (slots ++ (l.text ++ (l.behind ++ ending)))) v.head (v.front ++ (joined v.slots ++ (v.text ++ (v.behind ++ v.last)))) b i.head
        (⊎_elim inl (λ u. inr (in_rows u)) f)

-- ---- in a frame

pub field_found : (s : List ℕ) (rs : List Row) (before p x : ℕ) → FoundAt before rs (map (cut s) rs) p x → (w : ℕ) × (Starts rs p w × (x ≡ field_of s p w))
field_found s [] before p x f = absurd f
field_found s (r ∷ rs) before p x f = ⊎_elim
    (λ u. (r.width, (inl (u.0, refl), sym u.1.0 ∙ ap (λ (q : ℕ). field_of s q r.width) u.0)))
    (λ u. let q = field_found s rs (cut s r) p x u in (q.0, (inr q.1.0, q.1.1)))
    f

-- ---- where no row starts

abbrev pub none_starts : List Row → ℕ → Bool
none_starts [] p = true
none_starts (r ∷ rs) p = not (eqb r.first p) && none_starts rs p

pub nowhere : (past : List ℕ) (rs : List Row) (vs : List ℕ) (p x : ℕ) → none_starts rs p ≡ true → RowFault past rs vs (Range p x) → ⊥
nowhere past [] vs p x h f = f
nowhere past (r ∷ rs) [] p x h f = f
nowhere past (r ∷ rs) (v ∷ vs) p x h f =
    let q = and_both (not (eqb r.first p)) (none_starts rs p) h in
    ⊎_elim (λ u. eqb-false r.first p (not-true _ q.0) (same_place u.1)) (nowhere (v ∷ past) rs vs p x q.1) f

-- ---- rows that rise have one row at a bit

none_before : (a e : ℕ) (rs : List Row) (p w : ℕ) → Rises a e rs → p < a → Starts rs p w → ⊥
none_before a e [] p w h k f = f
none_before a e (r ∷ rs) p w h k f = ⊎_elim (λ u. omega (arith, h.0, k, u.0)) (none_before (suc r.first) e rs p w h.1 (omega (arith, h.0, k))) f

pub one_width : (a e : ℕ) (rs : List Row) (p w u : ℕ) → Rises a e rs → Starts rs p w → Starts rs p u → w ≡ u
one_width a e [] p w u h f g = absurd f
one_width a e (r ∷ rs) p w u h (inl f) (inl g) = sym f.1 ∙ g.1
one_width a e (r ∷ rs) p w u h (inl f) (inr g) = absurd (none_before (suc r.first) e rs p u h.1 (omega (arith, f.0)) g)
one_width a e (r ∷ rs) p w u h (inr f) (inl g) = absurd (none_before (suc r.first) e rs p w h.1 (omega (arith, g.0)) f)
one_width a e (r ∷ rs) p w u h (inr f) (inr g) = one_width (suc r.first) e rs p w u h.1 f g

-- ---- what a field may hold: its normal range, or its code where its group has them all

abbrev pub Coded : Rule → List ℕ → ℕ → List ℕ → Type 0
Coded (among ss) past v next = ⊥
Coded (rising hi) past v next = ⊥
Coded (in_group ss c) past v next = Together c past v next
Coded (spare w) past v next = ⊥

pub normal_or_coded : (r : Rule) (past : List ℕ) (v : ℕ) (next : List ℕ) → Keeps r past v next ↔ Normal r (latest past) v ⊎ Coded r past v next
normal_or_coded (among ss) past v next = (inl, ⊎_elim (λ h. h) (λ h. absurd h))
normal_or_coded (rising hi) past v next = (inl, ⊎_elim (λ h. h) (λ h. absurd h))
normal_or_coded (in_group ss c) past v next = (λ h. h, λ h. h)
normal_or_coded (spare w) past v next = (inl, ⊎_elim (λ h. h) (λ h. absurd h))
