-- What a record is that is admitted.
use Rattle.std.specs.Prelude.{Ok, Err, None, Some, Option}
use mathlib.Core.Path.{◌≡◌, refl, sym, ◌∙◌}
use mathlib.Core.Bool.{Bool, true, false, cond}
use Prim.Native.Nat.{ℕ, ◌≤◌}
use native.Mathlib.Omega.{arith}
use Rattle.nankai.specs.declared.PageNumbers.{PageNumbers}
use Rattle.report.specs.declared.record.Record.{Record}
use Rattle.rows.specs.declared.refusal.Refusal.{Refusal}
use Rattle.rows.specs.declared.refusal.Refusal.TheVariants.{NoPage, OtherBulletin, Unsound}
use Rattle.rows.specs.Refusals.{Verdict}
use Rattle.report.specs.Runs.Writing.{write_answer, Valid}
use Rattle.pages.specs.declared.name.Name.{Name}
use Rattle.bulletin.specs.declared.store.Store.{Store}
use Rattle.pages.specs.Names.{same_name}
use Rattle.bulletin.specs.Stores.{sound_store}
use Rattle.bulletin.specs.Takings.{bulletin_of, page_number_in, writable, admission, number_in}
use Rattle.report.specs.declared.body.Body.TheVariants.{Nankai}
use Rattle.report.specs.declared.body.Body.{Body}
use Rattle.rows.specs.declared.common.Common.{Common}
use Rattle.report.proofs.Categories.{paged_back}
use Rattle.pages.proofs.Numbered.{numbered}
use Rattle.report.specs.Categories.{paged_of}

pub of_bulletin : (n : Name) (c : Common) (b : Body) (p : PageNumbers) → paged_of b ≡ Some p → same_name (bulletin_of c p) n ≡ true → Ok p.number ≡ page_number_in n c b
unfolding page_number_in
of_bulletin n c b p e f = simp (e, f)

pub writable_record : (s : Store) (r : Record) (v : Verdict) → sound_store s ≡ true → v ≡ write_answer r 32 → v ≡ Ok tt
    → page_number_in s.name r.common r.body ≡ admission s r
unfolding admission
writable_record s r v e f g = simp (e, sym f ∙ g)

-- ---- and back: what an admitted record is

no_number : (x : Refusal) (k : ℕ) → Err x ≡ Ok k → ⊥
no_number x k e = cc

-- a record is admitted under k: the store is sound, and the record can be written and is page k of the store's bulletin
pub record Admits (s : Store) (r : Record) (k : ℕ) : Type 0 where
  pub sound : sound_store s ≡ true
  pub valid : Valid r
  pub page : PageNumbers
  pub is : r.body ≡ Nankai page
  pub same : same_name (bulletin_of r.common page) s.name ≡ true
  pub number : page.number ≡ k

belongs : (n : Name) (c : Common) (g : Option PageNumbers) (k : ℕ) → number_in n c g ≡ Ok k
    → (p : PageNumbers) × (g ≡ Some p) × (same_name (bulletin_of c p) n ≡ true) × (p.number ≡ k)
belongs n c None k h = absurd (no_number NoPage k h)
belongs n c (Some p) k h = go (same_name (bulletin_of c p) n) refl h
  where
    go : (t : Bool) → same_name (bulletin_of c p) n ≡ t → cond t (Ok p.number) (Err OtherBulletin) ≡ Ok k
        → (q : PageNumbers) × (Some p ≡ Some q) × (same_name (bulletin_of c q) n ≡ true) × (q.number ≡ k)
    go true e f = (p, refl, e, cc)
    go false e f = absurd (no_number OtherBulletin k f)

belongs_back : (n : Name) (c : Common) (b : Body) (k : ℕ) → page_number_in n c b ≡ Ok k
    → (p : PageNumbers) × (b ≡ Nankai p) × (same_name (bulletin_of c p) n ≡ true) × (p.number ≡ k)
unfolding page_number_in
belongs_back n c b k h = let q = belongs n c (paged_of b) k h in (q.0, paged_back b q.0 q.1, q.2, q.3)

pub admits : (s : Store) (r : Record) (k : ℕ) → admission s r ≡ Ok k → Admits s r k
unfolding admission
admits s r k h = go (sound_store s) refl (write_answer r 32) refl h
  where
    go : (t : Bool) → sound_store s ≡ t → (v : Verdict) → write_answer r 32 ≡ v
        → cond t (writable v (page_number_in s.name r.common r.body)) (Err Unsound) ≡ Ok k → Admits s r k
    go true e (Ok tt) f h =
        let b = belongs_back s.name r.common r.body k h in
        record { sound = e; valid = f; page = b.0; is = b.1; same = b.2; number = b.3 }
    go true e (Err x) f h = absurd (no_number x k h)
    go false e v f h = absurd (no_number Unsound k h)

-- the page of a record that can be written has a number from 1 to 63
pub admitted_number : (n : Name) (r : Record) (k : ℕ) → Valid r → page_number_in n r.common r.body ≡ Ok k → (1 ≤ k) × (k ≤ 63)
admitted_number n r k v h =
    let b = belongs_back n r.common r.body k h in
    let p = numbered r b.0 v b.1 in
    let e : b.0.number ≡ k = b.3 in
    (omega (arith, p.low), omega (arith, p.high, p.most))
