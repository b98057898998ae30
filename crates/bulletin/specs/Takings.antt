-- Taking a record: "14, then what writing that record to 32 bytes would refuse, 12, 13".
use Rattle.bulletin.specs.declared.take.Took.{Took}
use Rattle.bulletin.specs.declared.take.Took.TheVariants.{New, Same, Disputed}
use Rattle.std.specs.Prelude.{cond, List, ℕ, ◌-◌, set, eqb, Ok, Err, None, Some, Option, Result}
use Rattle.report.specs.declared.record.Record.{Record}
use Rattle.nankai.specs.declared.PageNumbers.{PageNumbers}
use Rattle.rows.specs.declared.refusal.Refusal.{Refusal}
use Rattle.rows.specs.declared.refusal.Refusal.TheVariants.{NoPage, OtherBulletin, Unsound}
use Rattle.rows.specs.declared.refusal.Said.{Said}
use Rattle.rows.specs.Refusals.{plain, says, answers, Verdict}
use Rattle.rows.specs.Runs.Questions.{◌then◌, unless}
use Rattle.report.specs.Runs.Writing.{write_answer}
use Rattle.pages.specs.declared.page.Page.{Page}
use Rattle.pages.specs.declared.name.Name.{Name}
use Rattle.bulletin.specs.declared.store.Store.{Store}
use Rattle.pages.specs.Pages.{join, held_page}
use Rattle.pages.specs.Names.{same_name}
use Rattle.bulletin.specs.Stores.{sound_store, page_behind}
use Rattle.report.specs.declared.body.Body.{Body}
use Rattle.rows.specs.declared.common.Common.{Common}
use Rattle.report.specs.Categories.{paged_of}

-- what a taking answers: that the record is new, the same or disputed, or why it is refused
abbrev pub Taken : Type 0
Taken = Result Took Refusal

-- what it comes to: the answer, and a store
pub record Taking : Type 0 where
  pub answer : Taken
  pub store : Store

-- which page of the bulletin a record brings, or why it is refused
abbrev pub Admission : Type 0
Admission = Result ℕ Refusal

-- "new where it was absent, same where it was held with those 18 bytes, and disputed otherwise": by the page before and after
unfoldable pub taking_answer : Page → Page → Taken
taking_answer before after = cond (eqb before.mark 0) (Ok New) (cond (eqb after.mark 1) (Ok Same) (Ok Disputed))

-- the bulletin that a page names
abbrev pub bulletin_of : Common → PageNumbers → Name
bulletin_of c p = record { common = c; serial = p.serial; total = p.total }

-- 12, then 13
abbrev pub number_in : Name → Common → Option PageNumbers → Admission
number_in n c None = Err NoPage
number_in n c (Some p) = cond (same_name (bulletin_of c p) n) (Ok p.number) (Err OtherBulletin)

unfoldable pub page_number_in : Name → Common → Body → Admission
page_number_in n c b = number_in n c (paged_of b)

abbrev pub writable : Verdict → Admission → Admission
writable (Ok tt) a = a
writable (Err x) a = Err x

-- each step as it is asked: 14, then what writing refuses, then 12 and 13
unfoldable pub admission : Store → Record → Admission
admission s r = cond (sound_store s) (writable (write_answer r 32) (page_number_in s.name r.common r.body)) (Err Unsound)

abbrev pub with_page : Store → ℕ → Page → Store
with_page s i p = record { name = s.name; pages = set s.pages i p }

-- the page behind i others is joined with one held with the text
unfoldable pub put_page : Store → ℕ → List ℕ → Taking
put_page s i t =
    let after = join (page_behind s i) (held_page t) in
    record { answer = taking_answer (page_behind s i) after; store = with_page s i after }

-- "A refused taking leaves the store as given"
unfoldable pub taking : Admission → Store → List ℕ → Taking
taking (Ok k) s t = put_page s (k - 1) t
taking (Err x) s t = record { answer = Err x; store = s }

abbrev pub take_of : Store → Record → Taking
take_of s r = taking (admission s r) s r.text

-- ---- what taking says, in the paper's numbers

-- a taken record says 0, be it new, the same or disputed: "A refused taking .. answers none of new, same, disputed"
abbrev pub taken_says : Taken → Said
taken_says (Ok New) = plain 0
taken_says (Ok Same) = plain 0
taken_says (Ok Disputed) = plain 0
taken_says (Err x) = says x

abbrev pub admission_verdict : Admission → Verdict
admission_verdict (Ok k) = Ok tt
admission_verdict (Err x) = Err x

-- "14, then what writing that record to 32 bytes would refuse, 12, 13"
abbrev pub take_says : Store → Record → Said
take_says s r = answers (unless (sound_store s) Unsound then write_answer r 32 then admission_verdict (page_number_in s.name r.common r.body))
