-- For the code's proofs: encodings of kind 4 in two words (`TwoWords` of specs/), read from ten
-- bytes, decoded, written, and laid into an answer of four words.
use mathlib.Core.Path.{◌≡◌, refl, sym, ap, ap₂, ◌∙◌}
use mathlib.Core.Bool.{Bool, true, false, not, ◌&&◌, cond}
use mathlib.Core.List.{[], List, ◌++◌, map, ◌∷◌}
use Prim.Native.Nat.{ℕ, zero, suc, ◌+◌, ◌-◌, ◌*◌, ◌/◌, ◌%◌, ◌^◌, ◌≤◌, ◌<◌}
use native.Mathlib.Nat.{suc-ne-zero, add-zero, zero-add}
use native.Mathlib.Omega.{arith}
use lib.Dec.{T, leb, eqb, leb→le, nleb→lt, ltb, ltb→lt, nltb→le}
use borrow.Author.Tests.{eq-eqb, ne_eqb}
use lib.ListN.{length, take, drop, get_or}
use Rattle.totals_spec.specs.formats.Decode.{is_finite, Unpacked, zero_of, finite, infinity, nan}
use Rattle.totals_spec.specs.formats.Decode.{is_signaling}
use Rattle.totals_spec.specs.ten_bytes.Extended.{sign_in, field_in, significand_in}
use Rattle.totals_spec.specs.ten_bytes.Extended.{unsupported_fields, unsupported, extended_fields}
use Rattle.totals_spec.specs.ten_bytes.Extended.{decode_extended, subnormal_extended, tens_in}
use Rattle.totals_spec.specs.ten_bytes.Extended.{extended_bits, extended, spread, extended_written}
use Rattle.totals_spec.specs.ten_bytes.Extended.{with_spread, extended_accepted}
use Rattle.totals_spec.specs.ten_bytes.TwoWords.{joined, head_of, significand_of}
use Rattle.totals_spec.specs.entries.Bytes.{from_bytes, to_bytes}
use Rattle.totals_spec.specs.Basics.{flag, any}
use Rattle.totals_spec.specs.formats.Encodes.{Encodes}
use Rattle.totals_spec.specs.formats.Encode.{assembled, encode}
use Rattle.totals_spec.specs.sums.Totals.{Answer, special, accepted}
use Rattle.totals_spec.specs.formats.Settings.{Settings}
use Rattle.totals_spec.specs.sums.Nan.{default_nan_of, select_all}
use Rattle.totals_spec.specs.terms.Terms.{Item, nan_item, invalid_item, infinite, zero_item, term}
use Rattle.totals_spec.specs.formats.KindValues.{Gives, AllGive}
use Rattle.totals_spec.specs.formats.Format.{ieee}
use Rattle.totals_spec.proofs.entries.ValuesInBytes.{one_byte}
use Rattle.totals_spec.proofs.ten_bytes.Calls.{tens-values}
use Rattle.totals_spec.proofs.ten_bytes.WrittenOut.{spread-assembled}
use Rattle.totals_spec.proofs.entries.AnswerFields.{two-numbers}

-- ---- reading

module _ (h m : ℕ) (hh : h < 65536) (hm : m < 2 ^ 64) where
  pub halves-sign : sign_in (joined h m) ≡ leb 32768 h
  halves-sign = go (leb 32768 h) (leb→le 32768 h) (nleb→lt 32768 h)
    where
      go : (t : Bool) → (T t → 32768 ≤ h) → (T (not t) → h < 32768) → sign_in (joined h m) ≡ t
      go true a b = eq-eqb ((h * 2 ^ 64 + m) / 2 ^ 79 % 2) 1 (omega (arith, a tt))
      go false a b = ne_eqb ((h * 2 ^ 64 + m) / 2 ^ 79 % 2) 1 (λ e. omega (arith, e, b tt))

  pub halves-field : field_in (joined h m) ≡ h % 32768
  halves-field = omega arith

  pub halves-significand : significand_in (joined h m) ≡ m
  halves-significand = omega arith

  pub halves-unsupported : unsupported (joined h m) ≡ unsupported_fields (h % 32768) m
  unfolding unsupported
  halves-unsupported = ap₂ unsupported_fields halves-field halves-significand

  pub halves-decoded : decode_extended (joined h m) ≡ extended_fields (leb 32768 h) (h % 32768) m
  unfolding decode_extended
  halves-decoded = λ i. extended_fields (halves-sign i) (halves-field i) (halves-significand i)

  -- a subnormal number or a pseudo-denormal: a field of 0 above some bit
  pub halves-subnormal : subnormal_extended (joined h m) ≡ (eqb (h % 32768) 0 && not (eqb m 0))
  unfolding subnormal_extended
  halves-subnormal = rw (halves-decoded, halves-field) (go (leb 32768 h) (h % 32768) m)
    where
      and-false : (b : Bool) → (b && false) ≡ false
      and-false true = refl
      and-false false = refl

      go : (s : Bool) (x n : ℕ) → (is_finite (extended_fields s x n) && eqb x 0) ≡ (eqb x 0 && not (eqb n 0))
      go s zero zero = refl
      go s zero (suc n) = rw (ne_eqb (suc n) 0 (suc-ne-zero n))
      go s (suc x) n =
          let none = ne_eqb (suc x) 0 (suc-ne-zero x) in
          let v = extended_fields s (suc x) n in
          ap (λ (b : Bool). is_finite v && b) none ∙ and-false (is_finite v) ∙ sym (ap (λ (b : Bool). b && not (eqb n 0)) none)

-- the i-th value in bytes: its significand is the first eight of its ten, and its head the last two
pub tens-halves : (l : List ℕ) (i : ℕ) → i < length l / 10
    → get_or (tens_in l) i 0 ≡ joined (get_or l (10 * i + 8) 0 + 256 * get_or l (10 * i + 9) 0) (from_bytes (take 8 (drop (10 * i) l)))
tens-halves l i h = (tens-values l).1 i h ∙ ten-bytes (10 * i) (omega arith)
  where
    ten-bytes : (k : ℕ) → k + 10 ≤ length l
        → from_bytes (take 10 (drop k l)) ≡ joined (get_or l (k + 8) 0 + 256 * get_or l (k + 9) 0) (from_bytes (take 8 (drop k l)))
    ten-bytes k r =
        omega (
          arith,
          one_byte l k (k + 1) 9 (omega arith) (omega arith),
          one_byte l (k + 1) (k + 2) 8 (omega arith) (omega arith),
          one_byte l (k + 2) (k + 3) 7 (omega arith) (omega arith),
          one_byte l (k + 3) (k + 4) 6 (omega arith) (omega arith),
          one_byte l (k + 4) (k + 5) 5 (omega arith) (omega arith),
          one_byte l (k + 5) (k + 6) 4 (omega arith) (omega arith),
          one_byte l (k + 6) (k + 7) 3 (omega arith) (omega arith),
          one_byte l (k + 7) (k + 8) 2 (omega arith) (omega arith),
          one_byte l (k + 8) (k + 9) 1 (omega arith) (omega arith),
          one_byte l (k + 9) (k + 10) 0 (omega arith) (omega arith),
          one_byte l k (k + 1) 7 (omega arith) (omega arith),
          one_byte l (k + 1) (k + 2) 6 (omega arith) (omega arith),
          one_byte l (k + 2) (k + 3) 5 (omega arith) (omega arith),
          one_byte l (k + 3) (k + 4) 4 (omega arith) (omega arith),
          one_byte l (k + 4) (k + 5) 3 (omega arith) (omega arith),
          one_byte l (k + 5) (k + 6) 2 (omega arith) (omega arith),
          one_byte l (k + 6) (k + 7) 1 (omega arith) (omega arith),
          one_byte l (k + 7) (k + 8) 0 (omega arith) (omega arith),
        )

-- ---- writing

pub bits-joined : (s : Bool) (x m : ℕ) → extended_bits s x m ≡ joined (flag 32768 s + x) (flag (2 ^ 63) (not (eqb x 0)) + m)
bits-joined s x m = go s (flag (2 ^ 63) (not (eqb x 0)) + m)
  where
    go : (t : Bool) (n : ℕ) → flag (2 ^ 79) t + x * 2 ^ 64 + n ≡ (flag 32768 t + x) * 2 ^ 64 + n
    go true n = omega arith
    go false n = omega arith

pub halves-written : (v : Unpacked) → Encodes extended v → spread (encode extended v) ≡ joined (head_of v) (significand_of v)
unfolding encode extended
halves-written (zero_of s) e = spread-assembled s 0 0 (omega arith) (omega arith) ∙ bits-joined s 0 0 ∙ ap (λ (h : ℕ). joined h 0) (add-zero (flag 32768 s))
halves-written (finite s k m) e = go (ltb m (2 ^ 63)) (ltb→lt m (2 ^ 63)) (nltb→le m (2 ^ 63))
  where
    go : (t : Bool) → (T t → m < 2 ^ 63) → (T (not t) → 2 ^ 63 ≤ m)
        → spread (cond t (assembled extended s 0 m) (assembled extended s (suc k) (m - 2 ^ 63))) ≡ joined (flag 32768 s + cond t 0 (suc k)) m
    go true l g = spread-assembled s 0 m (omega arith) (l tt) ∙ bits-joined s 0 m ∙ ap (joined (flag 32768 s + 0)) (zero-add m)
    go false l g =
        let r : 2 ^ 63 + (m - 2 ^ 63) ≡ m = omega (arith, g tt) in
        spread-assembled s (suc k) (m - 2 ^ 63) (omega (arith, e.0)) (omega (arith, e.1)) ∙ bits-joined s (suc k) (m - 2 ^ 63)
        ∙ rw (ne_eqb (suc k) 0 (suc-ne-zero k)) (ap (joined (flag 32768 s + suc k)) r)
halves-written (infinity s) e = spread-assembled s 32767 0 (omega arith) (omega arith) ∙ bits-joined s 32767 0
halves-written (nan s g m) e =
    spread-assembled s 32767 (flag (2 ^ 62) (not g) + m) (omega arith) (fits (not g)) ∙ bits-joined s 32767 (flag (2 ^ 62) (not g) + m)
  where
    fits : (t : Bool) → flag (2 ^ 62) t + m < 2 ^ 63
    fits true = omega (arith, e)
    fits false = omega (arith, e)

-- an answer as four words
pub four-words : (r : Answer) (old : List ℕ) (h m : ℕ) → r.result ≡ joined h m → h < 65536 → m < 2 ^ 64 → r.flags < 256 → r.side < 4
    → extended_written r old
    ≡ to_bytes 8 m ++ (to_bytes 8 (h + 65536 * r.flags + 16777216 * r.side) ++ (to_bytes 8 0 ++ (to_bytes 8 r.passes ++ drop 32 old)))
unfolding extended_written
four-words r old h m e hh hm hf hs =
    ap (λ (l : List ℕ). l ++ (to_bytes 1 r.flags ++ (to_bytes 13 r.side ++ rest))) result
    ∙ ap (λ (l : List ℕ). to_bytes 8 m ++ (to_bytes 2 h ++ (to_bytes 1 r.flags ++ (l ++ rest)))) side
    ∙ sym (ap (λ (l : List ℕ). to_bytes 8 m ++ (l ++ (to_bytes 8 0 ++ rest))) second)
  where
    rest : List ℕ
    rest = to_bytes 8 r.passes ++ drop 32 old

    result : to_bytes 10 r.result ≡ to_bytes 8 m ++ to_bytes 2 h
    result = ap (to_bytes 10) (omega (arith, e)) ∙ two-numbers 8 2 m h hm

    side : to_bytes 13 r.side ≡ to_bytes 5 r.side ++ to_bytes 8 0
    side = ap (to_bytes 13) (omega arith) ∙ two-numbers 5 8 r.side 0 (omega (arith, hs))

    second : to_bytes 8 (h + 65536 * r.flags + 16777216 * r.side) ≡ to_bytes 2 h ++ (to_bytes 1 r.flags ++ to_bytes 5 r.side)
    second =
        ap (to_bytes 8) (omega arith) ∙ two-numbers 2 6 h (r.flags + 256 * r.side) (omega (arith, hh))
        ∙ ap (λ (l : List ℕ). to_bytes 2 h ++ l) (two-numbers 1 5 r.flags r.side (omega (arith, hf)))

-- ---- the record, by whether some encoding is unsupported

module _ (c : Settings) (products first : Bool) (l : List ℕ) (items : List Item) where
  pub unsupported-record : any unsupported l ≡ true
      → extended_accepted c products first l items ≡ with_spread (special extended (any subnormal_extended l) (default_nan_of c) true)
  unfolding extended_accepted
  unsupported-record h = rw h

  pub supported-record : any unsupported l ≡ false
      → extended_accepted c products first l items
      ≡ with_spread (accepted extended c (any subnormal_extended l) products first (any (λ b. is_signaling (decode_extended b)) l)
      (select_all c (map decode_extended l)) items)
  unfolding extended_accepted
  supported-record h = rw h

-- ---- every item can be of an Ieee format

pub ieee-give : (l : List Item) → AllGive ieee l
ieee-give [] = tt
ieee-give (i ∷ l) = (one i, ieee-give l)
  where
    one : (i : Item) → Gives ieee i
    one nan_item = tt
    one invalid_item = tt
    one (infinite s) = tt
    one (zero_item s) = tt
    one (term t) = tt
