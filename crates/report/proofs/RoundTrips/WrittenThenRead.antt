-- What is written and then read is the record.
use Rattle.std.specs.Prelude.{Ok}
use mathlib.Core.Path.{◌≡◌, refl, sym, ap, ap₂, ◌∙◌, subst}
use Prim.Native.Nat.{ℕ, ◌+◌, ◌*◌, ◌/◌, ◌%◌, ◌^◌, ◌<◌}
use native.Mathlib.Nat.{mod-eq_of_lt}
use mathlib.Core.Logic.{⊎_elim}
use mathlib.Core.List.{List, ◌∷◌, map}
use lib.ListN.{length, get_or, drop}
use Rattle.bits.specs.Layout.{encode, decode, Fit}
use Rattle.bits.specs.Frame.{number, bytes_of, field_of}
use Rattle.bits.proofs.Layouts.{encode_lt, decode-encode}
use Rattle.bits.proofs.Bytes.{number_bytes_of}
use Rattle.parity.specs.Parity.{parity_of, parity_of_front}
use Rattle.parity.proofs.Front.{parity_of_front_lem}
use Rattle.report.specs.declared.record.Record.{Record}
use Rattle.rows.specs.Layout.{all_rows}
use Rattle.rows.specs.Values.{Values, cut, values_of, part_widths, sides_at, spares_from}
use Rattle.report.specs.Records.{body_of, record_as, record_of, values, body_by}
use Rattle.slots.specs.Slots.{slots_of, tidy_slots}
use Rattle.report.specs.Runs.Reading.{reading, read_of}
use Rattle.rows.specs.Kept.{In, Holds}
use Rattle.report.specs.Conforms.{Conforms}
use Rattle.report.specs.Runs.Writing.{front_values, front_widths, front, frame, write_of, Valid}
use Rattle.report.specs.Rules.{KeepsRules}
use Rattle.rows.proofs.Rules.Outcomes.{and_both}
use Rattle.report.proofs.Reading.Frames.{conforming_fine}
use Rattle.rows.proofs.Layouts.Lengths.{frame-filled}
use Rattle.rows.proofs.Layouts.Rows.{values-flat}
use Rattle.rows.proofs.Layouts.Fits.{holds_fit}
use Rattle.rows.proofs.Rules.Spans.{in_below}
use Rattle.rows.proofs.Layouts.Flattened.{flat_same}
use Rattle.report.proofs.Writing.Unused.{tidy_is}
use Rattle.report.proofs.Writing.Validity.{valid_keeps}
use Rattle.report.proofs.Writing.Ends.{parity_lt, ended_lt, ended-front, ended_parity, ended_padding}
use Rattle.report.proofs.RoundTrips.ReadThenWritten.{valid_written}
use Rattle.report.specs.declared.body.Body.{Body}
use Rattle.report.specs.declared.body.Body.TheVariants.{NoCategory}
use Rattle.report.proofs.Shaped.{Shaped, frame-shaped, record_filled}
use Rattle.report.proofs.Categories.{body_again, spares_again, text_apart, told_apart}
use Rattle.report.specs.Categories.{categories, layout, preambles, sides_of}
use Rattle.report.proofs.Tables.{fits_all, front_fields, front-total, suited_slots}
use Rattle.slots.proofs.Tables.{frame_slots_tidy, same_slots, slots_agree}
use Rattle.report.proofs.Texts.{same_text}

-- ---- the number that is written

-- the values of bits 0 to 225
pub front_fit : (r : Record) → Shaped r → KeepsRules r → Fit (front_widths (layout r.body)) (front_values r)
front_fit r s k =
    let l = layout r.body in
    (in_below 256 preambles r.preamble refl k.preamble, holds_fit l (values r) (record_filled r s) (fits_all r.body) k.rows)

pub front_lt : (r : Record) → Shaped r → KeepsRules r → front r < 2 ^ 226
unfolding front
front_lt r s k =
    let ws = front_widths (layout r.body) in
    subst (λ (n : ℕ). encode ws (front_values r) < 2 ^ n) (front-total r.body) (encode_lt ws (front_values r) (front_fit r s k))

front_decoded : (r : Record) → Shaped r → KeepsRules r → decode (front_widths (layout r.body)) (front r) ≡ front_values r
unfolding front
front_decoded r s k = decode-encode (front_widths (layout r.body)) (front_values r) (front_fit r s k)

-- ---- the frame that is written

-- what holds of the bytes s of the record r
record Wrote (r : Record) (s : List ℕ) : Type 0 where
  long : length s ≡ 32
  padding : field_of s 250 6 ≡ 0
  parity : parity_of s ≡ field_of s 226 24
  preamble : field_of s 0 8 ≡ r.preamble
  same : values_of s (layout r.body) ≡ values r

wrote : (r : Record) → Shaped r → KeepsRules r → Wrote r (bytes_of (frame r))
unfolding frame
wrote r h k =
    let l = layout r.body in
    let m = front r in
    let p = parity_of_front m in
    let small = parity_lt m in
    let s = bytes_of (frame r) in
    let n : number s ≡ (m * 2 ^ 24 + p) * 2 ^ 6 = number_bytes_of (frame r) ∙ mod-eq_of_lt (ended_lt m p small (front_lt r h k)) in
    let f : number s / 2 ^ 30 ≡ m = ap (λ (x : ℕ). x / 2 ^ 30) n ∙ ended-front m p small in
    let e : field_of s 0 8 ∷ map (cut s) (all_rows l) ≡ front_values r =
    sym (front_fields s r.body) ∙ ap (decode (front_widths l)) f ∙ front_decoded r h k
    in
    record {
      long = refl;
      padding = ap (λ (x : ℕ). x / 1 % 2 ^ 6) n ∙ ended_padding m p small;
      parity = parity_of_front_lem s ∙ ap parity_of_front f ∙ sym (ap (λ (x : ℕ). x / 2 ^ 6 % 2 ^ 24) n ∙ ended_parity m p small);
      preamble = ap (λ (vs : List ℕ). get_or vs 0 0) e;
      same = flat_same l (values_of s l) (values r) (frame-filled s l) (record_filled r h) (values-flat s l ∙ ap (drop 1) e);
    }

-- ---- its record

-- what reading the bytes s finds, where they have the values of r
record Seen (r : Record) (s : List ℕ) : Type 0 where
  message : field_of s 8 6 ≡ 43
  version : field_of s 214 6 ≡ 1
  code : field_of s 17 4 ≡ (layout r.body).code
  body : body_of s ≡ r.body
  whole : record_as s r.body ≡ r

seen : (r : Record) (s : List ℕ) → Shaped r → KeepsRules r → Wrote r s → Seen r s
unfolding values_of values record_as
seen r s h keeps w =
    let l = layout r.body in
    let k = l.slots in
    let fits = suited_slots r.body in
    let e = w.same in
    -- the value i of the head, and of the last fields
    let head : (i : ℕ) → get_or (values_of s l).head i 0 ≡ get_or (values r).head i 0 = λ i. ap (λ (v : Values). get_or v.head i 0) e in
    let last : (i : ℕ) → get_or (values_of s l).last i 0 ≡ get_or (values r).last i 0 = λ i. ap (λ (v : Values). get_or v.last i 0) e in
    let sides : sides_at s l ≡ sides_of r.body r.spares = λ i. record { front = (e i).front; behind = (e i).behind } in
    let t = and_both (tidy_slots (part_widths k) k.count r.slots) _ (tidy_is r keeps.tidy) in
    let slots : slots_of s k ≡ r.slots =
    same_slots k fits k.count (slots_of s k) r.slots ((frame-shaped s r.body).slots ∙ sym h.slots) (frame_slots_tidy k fits s) t.0
    (slots_agree k fits s ∙ ap (λ (v : Values). v.slots) e)
    in
    let text = same_text s l r.text (text_apart r.body) h.text keeps.tidy.text (ap (λ (v : Values). v.text) e) in
    let spares = ap (spares_from l) sides ∙ spares_again r.body r.spares keeps.tidy.spare in
    record {
      message = head 0;
      version = last 0;
      code = head 2;
      body = ap (body_by s) (head 2) ∙ body_again r.body r.spares (sides_at s) sides;
      whole = λ i. record {
        preamble = w.preamble i;
        reserved = last 1 i;
        common = record { rc = head 1 i; month = head 3 i; day = head 4 i; hour = head 5 i; minute = head 6 i; it = head 7 i };
        body = r.body;
        slots = slots i;
        text = text i;
        spares = spares i;
      };
    }

-- ---- so it conforms

known_category : (b : Body) → (b ≡ NoCategory → ⊥) → In categories (layout b).code
known_category b h = ⊎_elim (λ e. absurd (h e)) (λ k. k) (told_apart b)

-- the frame that a valid record writes conforms, and its record is that record
pub record Returns (r : Record) (s : List ℕ) : Type 0 where
  pub conforms : Conforms s
  pub again : record_of s ≡ r

pub returns : (r : Record) → Shaped r → Valid r → Returns r (bytes_of (frame r))
returns r h v =
    let s = bytes_of (frame r) in
    let k = valid_keeps r h v in
    let w = wrote r h k in
    let f = seen r s h k w in
    record {
      conforms = record {
        long = w.long;
        padding = w.padding;
        preamble = subst (In preambles) (sym w.preamble) k.preamble;
        parity = w.parity;
        message = f.message;
        version = f.version;
        category = subst (In categories) (sym f.code) (known_category r.body k.category);
        rows = subst (λ (b : Body). Holds (layout b) (values_of s (layout b))) (sym f.body) (subst (Holds (layout r.body)) (sym w.same) k.rows);
      };
      again = ap (record_as s) f.body ∙ f.whole;
    }

pub read_again : (r : Record) (buffer : List ℕ) → Shaped r → Valid r → length buffer ≡ 32 → read_of (write_of r buffer) ≡ record { answer = Ok tt; «record» = r }
read_again r buffer h v l =
    let s = bytes_of (frame r) in
    let q = returns r h v in
    ap read_of (valid_written r buffer v l) ∙ ap₂ reading (conforming_fine s q.conforms) q.again
