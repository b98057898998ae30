-- A field rests on the bytes that hold it, and on no others.
use mathlib.Core.Path.{◌≡◌, sym, ap, ap₂, ◌∙◌}
use Prim.Native.Nat.{ℕ, zero, suc, ◌+◌, ◌-◌, ◌*◌, ◌/◌, ◌%◌, ◌^◌, ◌≤◌, ◌<◌}
use native.Mathlib.Nat.{mod-one}
use native.Mathlib.Omega.{arith}
use mathlib.Core.List.{List}
use lib.ListN.{length, get_or, take}
use Rattle.bits.specs.Frame.{Bytes, number, field_of}
use Rattle.bits.proofs.Bytes.{number_shr}
use Rattle.bits.proofs.ByteLoops.{read_more}
use Rattle.bits.proofs.Windows.{window}

-- the bytes from q on, n of them, as one number
abbrev run : List ℕ → ℕ → ℕ → ℕ
run s q n = number (take (q + n) s) % 2 ^ (8 * n)

run_more : (s : List ℕ) (q n : ℕ) → q + n < length s → Bytes s → run s q (suc n) ≡ run s q n * 256 + get_or s (q + n) 0
run_more s q n h b =
    let width : q + n - q ≡ n = omega arith in
    let wider : q + n + 1 - q ≡ suc n = omega arith in
    let next : q + n + 1 ≡ q + suc n = omega arith in
    sym (rw (width, wider, next) at (read_more s q (q + n) h (omega arith) b))

-- runs of the same bytes are the same number
same_run : (s t : List ℕ) (q n : ℕ) → length s ≡ 32 → length t ≡ 32 → Bytes s → Bytes t → q + n ≤ 32
    → ((i : ℕ) → q ≤ i → i < q + n → get_or s i 0 ≡ get_or t i 0) → run s q n ≡ run t q n
same_run s t q zero l m b d h e = mod-one _ ∙ sym (mod-one _)
same_run s t q (suc n) l m b d h e =
    run_more s q n (omega arith) b
    ∙ ap₂ (λ (x y : ℕ). x * 256 + y) (same_run s t q n l m b d (omega arith) (λ i p r. e i p (omega arith))) (e (q + n) (omega arith) (omega arith))
    ∙ sym (run_more t q n (omega arith) d)

-- a field is a part of the run of bytes that hold it
field_in_run : (s : List ℕ) (a w : ℕ) → length s ≡ 32 → Bytes s → a + w ≤ 256
    → field_of s a w ≡ run s (a / 8) ((a + w + 7) / 8 - a / 8) / 2 ^ (8 * ((a + w + 7) / 8) - (a + w)) % 2 ^ w
field_in_run s a w l b h =
    let last = (a + w + 7) / 8 in
    let behind : 8 * (32 - last) + (8 * last - (a + w)) ≡ 256 - (a + w) = omega arith in
    let whole : a / 8 + (last - a / 8) ≡ last = omega arith in
    let front : number s / 2 ^ (8 * (32 - last)) ≡ number (take (a / 8 + (last - a / 8)) s) =
    rw l at (number_shr s last (omega arith) b) ∙ ap (λ (k : ℕ). number (take k s)) (sym whole) in
    sym (rw (front, behind) at (window (number s) (8 * (32 - last)) (8 * (last - a / 8)) (8 * last - (a + w)) w (omega arith)))

pub same_bytes_same_field : (s t : List ℕ) (a w : ℕ) → length s ≡ 32 → length t ≡ 32 → Bytes s → Bytes t → a + w ≤ 256
    → ((i : ℕ) → a / 8 ≤ i → i < (a + w + 7) / 8 → get_or s i 0 ≡ get_or t i 0) → field_of s a w ≡ field_of t a w
same_bytes_same_field s t a w l m b d h e =
    let n = (a + w + 7) / 8 - a / 8 in
    field_in_run s a w l b h
    ∙ ap (λ (x : ℕ). x / 2 ^ (8 * ((a + w + 7) / 8) - (a + w)) % 2 ^ w) (same_run s t (a / 8) n l m b d (omega arith) (λ i p r. e i p (omega arith)))
    ∙ sym (field_in_run t a w m d h)
