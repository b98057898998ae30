-- `inserter::stores::lz_take` meets its contract.
use mathlib.Core.Path.{◌≡◌, ap, ◌∙◌}
use Rattle.report.specs.declared.record.Record.{Record}
use Rattle.report.specs.Categories.{paged_of}
use Rattle.bulletin.specs.Takings.{take_of, Taking, Taken}
use Rattle.record_bytes.specs.Unpacked.{record_from}
use Rattle.store_bytes.specs.Stores.{store_into, store_or_zeros}
use Rattle.inserter.specs.Answers.{call_result, pages_before, taken_word}
use Rattle.inserter.proofs.PutBack.{page-left, none_left}
use Rattle.inserter.proofs.stores.lz_take.Goals as goal
use Rattle.inserter.proofs.stores.lz_take.Goals.{then-i-lt-PAGES, else-i-lt-PAGES}

pub returns : goal.returns
returns c =
    let buffer = c.args.store.now in
    let bytes = c.args.record_bytes.now in
    let after = c.take-took.new.self in
    let taking : Taking = take_of (store_or_zeros buffer) (record_from bytes) in
    let same : take_of c.unpack_store-held.result c.unpack-came.result ≡ taking = λ i. take_of (c.unpack_store-held.ensures i) (c.unpack-came.ensures i) in
    let is : after ≡ taking.store = c.take-took.ensures.value.1 ∙ ap (λ (t : Taking). t.store) same in
    let at = c.pages_before-i.ensures ∙ ap (λ (r : Record). pages_before (paged_of r.body)) c.unpack-came.ensures in
    let left : c.if-i-lt-PAGES.store ≡ store_into after buffer =
    elim c.if-i-lt-PAGES.branch [
      | then-i-lt-PAGES w ↦ w.store-is ∙ w.pack_page.ensures ∙ page-left buffer bytes after _ is at w.if-i-lt-PAGES.true
      | else-i-lt-PAGES w ↦ w.store-is ∙ none_left buffer bytes after _ is at w.if-i-lt-PAGES.false
    ]
    in
    let told : c.taken_word.result ≡ taken_word taking.answer =
    c.taken_word.ensures ∙ ap (λ (t : Taken). taken_word t) (c.take-took.ensures.value.0 ∙ ap (λ (t : Taking). t.answer) same)
    in
    λ i. call_result (told i) ((left ∙ (λ j. store_into (is j) buffer)) i)
