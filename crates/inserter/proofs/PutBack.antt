-- The one page that a taking can have changed, put back alone.
use Rattle.std.specs.Prelude.{Err}
use mathlib.Core.Path.{◌≡◌, refl, sym, subst, ap, ◌∙◌}
use mathlib.Core.List.{List}
use mathlib.Core.Logic.{◌⊎◌, inl, inr}
use Prim.Native.Nat.{ℕ, ◌-◌, ◌<◌, ◌≤◌}
use native.Mathlib.Omega.{arith}
use lib.ListN.{length, set}
use lib.Seq.{get_or-set_same, set-get_or, set_out}
use Rattle.rows.specs.declared.refusal.Refusal.{Refusal}
use Rattle.report.specs.declared.record.Record.{Record}
use Rattle.report.specs.declared.body.Body.{Body}
use Rattle.report.specs.Categories.{paged_of}
use Rattle.pages.specs.declared.page.Page.{Page}
use Rattle.pages.specs.declared.page.Kept.{Kept}
use Rattle.pages.specs.declared.page.Kept.TheVariants.{Own, Other, Neither}
use Rattle.pages.specs.Pages.{held_page, join, kept_of, no_page}
use Rattle.pages.proofs.KeptPages.{joined_by, kept_page}
use Rattle.bulletin.specs.declared.store.Store.{Store}
use Rattle.bulletin.specs.Stores.{page_behind}
use Rattle.bulletin.specs.Takings.{put_page, take_of, with_page, Taking}
use Rattle.bulletin.proofs.Claims.{a_sound_store_takes_every_page}
use Rattle.bulletin.proofs.Taking.TakingOutcomes.{Admits}
use Rattle.bulletin.proofs.Taking.TakenOrRefused.{taken_or_refused}
use Rattle.record_bytes.specs.Unpacked.{record_from}
use Rattle.record_bytes.proofs.Accepted.{record_shaped}
use Rattle.store_bytes.specs.Stores.{page_into, store_into, store_or_zeros}
use Rattle.store_bytes.proofs.Claims.{one_page_is_enough}
use Rattle.store_bytes.proofs.OnePage.{any_eighteen, any_long}
use Rattle.inserter.specs.Answers.{pages_before}
use Rattle.inserter.proofs.Kept.{same_bytes}

join_eighteen : (p q : Page) → length p.text ≡ 18 → length q.text ≡ 18 → length (join p q).text ≡ 18
join_eighteen p q a b = subst (λ (x : Page). length x.text ≡ 18) (joined_by p q (kept_of p q) refl refl) (by (kept_of p q))
  where
    by : (k : Kept) → length (kept_page k p q).text ≡ 18
    by Own = a
    by Other = b
    by Neither = refl

module _ (buffer bytes : List ℕ) where
  abbrev s : Store
  s = store_or_zeros buffer

  abbrev r : Record
  r = record_from bytes

  abbrev i : ℕ
  i = pages_before (paged_of r.body)

  had_eighteen : i < 63 → length (page_behind s i).text ≡ 18
  had_eighteen h = any_eighteen buffer i (omega (arith, any_long buffer, h))

  -- a taking puts a page of 18 bytes there, be it the same, and changes nothing else
  put_there : (p : Page) × ((take_of s r).store ≡ with_page s i p) × (i < 63 → length p.text ≡ 18)
  unfolding put_page pages_before
  put_there = by (taken_or_refused s r)
    where
      joined : Page
      joined = join (page_behind s i) (held_page r.text)

      by : ((k : ℕ) × Admits s r k) ⊎ ((x : Refusal) × (take_of s r ≡ record { answer = Err x; store = s }))
          → (p : Page) × ((take_of s r).store ≡ with_page s i p) × (i < 63 → length p.text ≡ 18)
      by (inl (k, a)) =
          let here : a.page.number - 1 ≡ i = sym (ap (λ (b : Body). pages_before (paged_of b)) a.is) in (
            joined,
            ap (λ (t : Taking). t.store) (a_sound_store_takes_every_page s r a.page a.sound a.valid a.is a.same)
                ∙ ap (λ (n : ℕ). with_page s n (join (page_behind s n) (held_page r.text))) here,
            λ h. join_eighteen (page_behind s i) (held_page r.text) (had_eighteen h) (record_shaped bytes).text,
          )
      by (inr (x, e)) =
          let same : s.pages ≡ set s.pages i (page_behind s i) = sym (set-get_or s.pages i no_page) in
          (page_behind s i, ap (λ (t : Taking). t.store) e ∙ (λ j. record { name = s.name; pages = same j }), had_eighteen)

  put_back : i < 63 → page_into (page_behind (take_of s r).store i) i buffer ≡ store_into (take_of s r).store buffer
  put_back h =
      let q = put_there in
      let found : page_behind (take_of s r).store i ≡ q.0 =
      ap (λ (z : Store). page_behind z i) q.1 ∙ get_or-set_same s.pages i q.0 no_page (omega (arith, any_long buffer, h))
      in ap (λ (p : Page). page_into p i buffer) found
      ∙ one_page_is_enough buffer i q.0 h (q.2 h)
      ∙ ap (λ (z : Store). store_into z buffer) (sym q.1)

  nothing_to_put : 63 ≤ i → buffer ≡ store_into (take_of s r).store buffer
  nothing_to_put h =
      let q = put_there in
      let same : with_page s i q.0 ≡ s = λ j. record { name = s.name; pages = set_out s.pages i q.0 (omega (arith, any_long buffer, h)) j }
      in sym (same_bytes buffer) ∙ ap (λ (z : Store). store_into z buffer) (sym (q.1 ∙ same))

  -- what is left in the buffer, by the place that was found
  module _ (t : Store) (n : ℕ) (is : t ≡ (take_of s r).store) (at : n ≡ i) where
    pub page-left : n < 63 → page_into (page_behind t n) n buffer ≡ store_into t buffer
    page-left h =
        (λ j. page_into (page_behind (is j) (at j)) (at j) buffer) ∙ put_back (omega (arith, at, h)) ∙ ap (λ (u : Store). store_into u buffer) (sym is)

    pub none_left : 63 ≤ n → buffer ≡ store_into t buffer
    none_left h = nothing_to_put (omega (arith, at, h)) ∙ ap (λ (u : Store). store_into u buffer) (sym is)
