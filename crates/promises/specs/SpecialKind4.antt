-- Values of ten bytes (kind 4): an unsupported encoding, quiet NaNs, infinities, zeros, terms that
-- cancel and flag 128, said of the elements; and what an encoding stands for, by its fields.
use Rattle.std.specs.Prelude.{◌≡◌, ◌≢◌, ◌↔◌, Bool, true, false, not, ◌||◌, List, length, ℕ, suc}
use Rattle.std.specs.Prelude.{◌+◌, ◌-◌, ◌*◌, ◌^◌, ◌<◌, pos}
use Rattle.totals_spec.specs.Basics.{any, flag}
use Rattle.totals_spec.specs.formats.Format.{Format}
use Rattle.totals_spec.specs.formats.Settings.{Settings, summand_of}
use Rattle.totals_spec.specs.formats.Decode.{Unpacked, zero_of, finite, infinity, nan, is_nan}
use Rattle.totals_spec.specs.formats.Decode.{is_signaling}
use Rattle.totals_spec.specs.formats.Encode.{encode}
use Rattle.totals_spec.specs.sums.Totals.{Answer, pairs}
use Rattle.totals_spec.specs.ten_bytes.Promises.{AllNumbers}
use Rattle.totals_spec.specs.ten_bytes.Extended.{extended, spread, decode_extended}
use Rattle.totals_spec.specs.ten_bytes.Extended.{subnormal_extended}
use Rattle.totals_spec.specs.ten_bytes.Extended.{unsupported, field_in, significand_in, sign_in}
use Rattle.totals_spec.specs.ten_bytes.Extended.{extended_operand, extended_terms}
use Rattle.totals_spec.specs.ten_bytes.Extended.{extended_sum_refusal}
use Rattle.totals_spec.specs.ten_bytes.Extended.{extended_sum_answer, extended_dot_terms}
use Rattle.totals_spec.specs.ten_bytes.Extended.{extended_dot_refusal, extended_dot_answer}
use Rattle.promises.specs.Special.{AllOf, default_of, is_infinity, is_infinite_value}
use Rattle.promises.specs.Special.{infinity_times_zero, infinite_product, ZeroSign}
use Rattle.promises.specs.Special.{is_zero_value, is_any_zero, zero_product}
use Rattle.promises.specs.SpecialExtended.{ExtendedNanOf, some_extended}
use Rattle.promises.specs.Kind4.{exact_of, exact_dot}

-- ---- the record without a pass: the value v, flag 128 where some element is subnormal, flag 1
-- where the answer is invalid, and no other

pub record ExtendedGiven (v : Unpacked) (sub invalid : Bool) (a : Answer) : Type 0 where
  pub result : a.result ≡ spread (encode extended v)
  pub flags : a.flags ≡ flag 128 sub + flag 1 invalid
  pub passes : a.passes ≡ 0
  pub last_edge : a.last_edge ≡ pos 0

-- some element of a dot's two lists is subnormal
abbrev pub either_subnormal : List ℕ → List ℕ → Bool
either_subnormal xs ys = any subnormal_extended xs || any subnormal_extended ys

-- some element passes a test
abbrev pub either : (Unpacked → Bool) → List ℕ → List ℕ → Bool
either t xs ys = some_extended t xs || some_extended t ys

-- some pair passes a test; under denormals-are-zero a subnormal is a zero
abbrev pub some_extended_pair : (Unpacked → Unpacked → Bool) → Settings → List ℕ → List ℕ → Bool
some_extended_pair t c xs ys =
    any (λ x. t (extended_operand c x.0) (extended_operand c x.1)) (pairs xs ys)

-- ---- an unsupported encoding comes before every NaN and every infinity

abbrev pub Extended-sum-unsupported : Type 0
Extended-sum-unsupported = (f : Format) (c : Settings) (u : ℕ) (l : List ℕ)
    → extended_sum_refusal f c u l ≡ 0 → any unsupported l ≡ true
    → ExtendedGiven (default_of c) (any subnormal_extended l) true (extended_sum_answer f c u l)

abbrev pub Extended-dot-unsupported : Type 0
Extended-dot-unsupported = (f : Format) (c : Settings) (xs ys : List ℕ)
    → extended_dot_refusal f c xs ys ≡ 0 → (any unsupported xs || any unsupported ys) ≡ true
    → ExtendedGiven (default_of c) (either_subnormal xs ys) true (extended_dot_answer f c xs ys)

-- ---- magnitude and square sums: a quiet NaN decides where there is no infinity

abbrev pub Extended-magnitudes-quiet : Type 0
Extended-magnitudes-quiet = (f : Format) (c : Settings) (u : ℕ) (l : List ℕ)
    → extended_sum_refusal f c (suc u) l ≡ 0 → any unsupported l ≡ false
    → some_extended is_nan l ≡ true → some_extended is_signaling l ≡ false
    → some_extended is_infinite_value l ≡ false
    → ExtendedNanOf c l false (extended_sum_answer f c (suc u) l)

-- and an infinity of either sign gives the positive infinity, beside quiet NaNs too
abbrev pub Extended-magnitudes-infinite : Type 0
Extended-magnitudes-infinite = (f : Format) (c : Settings) (u : ℕ) (l : List ℕ)
    → extended_sum_refusal f c (suc u) l ≡ 0 → any unsupported l ≡ false
    → some_extended is_infinite_value l ≡ true → some_extended is_signaling l ≡ false
    → ExtendedGiven (infinity false) (any subnormal_extended l) false
    (extended_sum_answer f c (suc u) l)

-- ---- infinities in a list of values: of both signs they are invalid

abbrev pub Extended-sum-infinities : Type 0
Extended-sum-infinities = (f : Format) (c : Settings) (l : List ℕ)
    → extended_sum_refusal f c 0 l ≡ 0 → any unsupported l ≡ false
    → some_extended is_nan l ≡ false
    → some_extended (is_infinity false) l ≡ true → some_extended (is_infinity true) l ≡ true
    → ExtendedGiven (default_of c) (any subnormal_extended l) true (extended_sum_answer f c 0 l)

-- of one sign they give that infinity, saturate or not
abbrev pub Extended-sum-infinite : Type 0
Extended-sum-infinite = (f : Format) (c : Settings) (s : Bool) (l : List ℕ)
    → extended_sum_refusal f c 0 l ≡ 0 → any unsupported l ≡ false
    → some_extended is_nan l ≡ false
    → some_extended (is_infinity s) l ≡ true → some_extended (is_infinity (not s)) l ≡ false
    → ExtendedGiven (infinity s) (any subnormal_extended l) false (extended_sum_answer f c 0 l)

-- ---- dots: an infinity times a zero, without a NaN, gives the default NaN and flag 1

abbrev pub Extended-dot-invalid : Type 0
Extended-dot-invalid = (f : Format) (c : Settings) (xs ys : List ℕ)
    → extended_dot_refusal f c xs ys ≡ 0 → (any unsupported xs || any unsupported ys) ≡ false
    → either is_nan xs ys ≡ false → some_extended_pair infinity_times_zero c xs ys ≡ true
    → ExtendedGiven (default_of c) (either_subnormal xs ys) true (extended_dot_answer f c xs ys)

-- infinite products of both signs are invalid too
abbrev pub Extended-dot-infinities : Type 0
Extended-dot-infinities = (f : Format) (c : Settings) (xs ys : List ℕ)
    → extended_dot_refusal f c xs ys ≡ 0 → (any unsupported xs || any unsupported ys) ≡ false
    → either is_nan xs ys ≡ false → some_extended_pair infinity_times_zero c xs ys ≡ false
    → some_extended_pair (infinite_product false) c xs ys ≡ true
    → some_extended_pair (infinite_product true) c xs ys ≡ true
    → ExtendedGiven (default_of c) (either_subnormal xs ys) true (extended_dot_answer f c xs ys)

-- of one sign they give that infinity
abbrev pub Extended-dot-infinite : Type 0
Extended-dot-infinite = (f : Format) (c : Settings) (s : Bool) (xs ys : List ℕ)
    → extended_dot_refusal f c xs ys ≡ 0 → (any unsupported xs || any unsupported ys) ≡ false
    → either is_nan xs ys ≡ false → some_extended_pair infinity_times_zero c xs ys ≡ false
    → some_extended_pair (infinite_product s) c xs ys ≡ true
    → some_extended_pair (infinite_product (not s)) c xs ys ≡ false
    → ExtendedGiven (infinity s) (either_subnormal xs ys) false (extended_dot_answer f c xs ys)

-- ---- zeros: those of one sign keep it; +0 of none; of mixed signs +0, and −0 in mode 4 alone

abbrev pub ExtendedZero : Settings → (plus minus sub : Bool) → Answer → Type 0
ExtendedZero c plus minus sub a =
    (negative : Bool) × ZeroSign c plus minus negative
    × ExtendedGiven (zero_of negative) sub false a

-- a list of zeros and, under denormals-are-zero, subnormals, pseudo-denormals too
abbrev pub Extended-sum-of-zeros : Type 0
Extended-sum-of-zeros = (f : Format) (c : Settings) (l : List ℕ)
    → extended_sum_refusal f c 0 l ≡ 0
    → AllOf (λ b. is_any_zero (extended_operand c b) ≡ true) l
    → ExtendedZero c (any (λ b. is_zero_value false (extended_operand c b)) l)
    (any (λ b. is_zero_value true (extended_operand c b)) l) (any subnormal_extended l)
    (extended_sum_answer f c 0 l)

-- in magnitude and square sums every zero counts as positive
abbrev pub Extended-magnitudes-of-zeros : Type 0
Extended-magnitudes-of-zeros = (f : Format) (c : Settings) (u : ℕ) (l : List ℕ)
    → extended_sum_refusal f c (suc u) l ≡ 0
    → AllOf (λ b. is_any_zero (extended_operand c b) ≡ true) l
    → ExtendedGiven (zero_of false) (any subnormal_extended l) false
    (extended_sum_answer f c (suc u) l)

-- a pair whose product is a zero of either sign
abbrev pub ZeroPair : Settings → ℕ × ℕ → Type 0
ZeroPair c x =
    (zero_product false (extended_operand c x.0) (extended_operand c x.1)
    || zero_product true (extended_operand c x.0) (extended_operand c x.1)) ≡ true

abbrev pub Extended-dot-of-zeros : Type 0
Extended-dot-of-zeros = (f : Format) (c : Settings) (xs ys : List ℕ)
    → extended_dot_refusal f c xs ys ≡ 0 → AllOf (ZeroPair c) (pairs xs ys)
    → ExtendedZero c (some_extended_pair (zero_product false) c xs ys)
    (some_extended_pair (zero_product true) c xs ys) (either_subnormal xs ys)
    (extended_dot_answer f c xs ys)

-- ---- terms that cancel: a zero of which the sign is − in mode 4, toward negative, alone,
-- whichever zeros stand among the terms

pub record ExtendedCancelled (c : Settings) (sub : Bool) (a : Answer) : Type 0 where
  pub negative : Bool
  pub sign : (negative ≡ true) ↔ (c.rounding ≡ 4)
  pub result : a.result ≡ spread (encode extended (zero_of negative))
  pub flags : a.flags ≡ flag 128 sub

abbrev pub Extended-sum-cancelled : Type 0
Extended-sum-cancelled = (f : Format) (c : Settings) (u : ℕ) (l : List ℕ)
    → extended_sum_refusal f c u l ≡ 0 → AllNumbers l
    → 0 < length (extended_terms c (summand_of u) l) → (exact_of c u l).mag ≡ 0
    → ExtendedCancelled c (any subnormal_extended l) (extended_sum_answer f c u l)

abbrev pub Extended-dot-cancelled : Type 0
Extended-dot-cancelled = (f : Format) (c : Settings) (xs ys : List ℕ)
    → extended_dot_refusal f c xs ys ≡ 0 → AllNumbers xs → AllNumbers ys
    → 0 < length (extended_dot_terms c xs ys) → (exact_dot c xs ys).mag ≡ 0
    → ExtendedCancelled c (either_subnormal xs ys) (extended_dot_answer f c xs ys)

-- ---- flag 128: the flags of an accepted call, less 128 where some element is subnormal, are below
-- 128. So it is set exactly there, after a NaN and beside an unsupported encoding too

abbrev pub Extended-sum-subnormal : Type 0
Extended-sum-subnormal = (f : Format) (c : Settings) (u : ℕ) (l : List ℕ)
    → extended_sum_refusal f c u l ≡ 0
    → (rest : ℕ) × (rest < 128)
    × ((extended_sum_answer f c u l).flags ≡ flag 128 (any subnormal_extended l) + rest)

abbrev pub Extended-dot-subnormal : Type 0
Extended-dot-subnormal = (f : Format) (c : Settings) (xs ys : List ℕ)
    → extended_dot_refusal f c xs ys ≡ 0
    → (rest : ℕ) × (rest < 128)
    × ((extended_dot_answer f c xs ys).flags ≡ flag 128 (either_subnormal xs ys) + rest)

-- an element is subnormal exactly where it is not zero below a field of 0: a pseudo-denormal, whose
-- leading bit is set, counts as one
abbrev pub Extended-subnormal-means : Type 0
Extended-subnormal-means = (b : ℕ)
    → (subnormal_extended b ≡ true) ↔ ((field_in b ≡ 0) × (significand_in b ≢ 0))

-- ---- what an encoding stands for, by its sign, its field and its significand

pub record ExtendedReads (b : ℕ) : Type 0 where
  -- a field above 0 over a leading bit of 0
  pub nothing : (unsupported b ≡ true) ↔ ((field_in b ≢ 0) × (significand_in b < 2 ^ 63))
  -- a field of all ones over the leading bit alone
  pub infinite : (s : Bool) → (is_infinity s (decode_extended b) ≡ true)
      ↔ ((field_in b ≡ 2 ^ 15 - 1) × (significand_in b ≡ 2 ^ 63) × (sign_in b ≡ s))
  -- or over more than it; bit 62 makes a NaN quiet
  pub nans : ((is_nan (decode_extended b) ≡ true) × (unsupported b ≡ false))
      ↔ ((field_in b ≡ 2 ^ 15 - 1) × (2 ^ 63 < significand_in b))
  pub signaling : ((is_signaling (decode_extended b) ≡ true) × (unsupported b ≡ false))
      ↔ ((field_in b ≡ 2 ^ 15 - 1) × (2 ^ 63 < significand_in b)
      × (significand_in b < 2 ^ 63 + 2 ^ 62))
  pub zeros : (s : Bool) → (is_zero_value s (decode_extended b) ≡ true)
      ↔ ((field_in b ≡ 0) × (significand_in b ≡ 0) × (sign_in b ≡ s))
  -- any other is the significand times 2 to the field less one, in least numbers; to 0 below a
  -- field of 0
  pub number : unsupported b ≡ false → field_in b ≢ 2 ^ 15 - 1 → significand_in b ≢ 0
      → decode_extended b ≡ finite (sign_in b) (field_in b - 1) (significand_in b)

abbrev pub Extended-reads : Type 0
Extended-reads = (b : ℕ) → ExtendedReads b

-- and what a zero, an infinity and a NaN are in bits
abbrev pub Extended-bits : Type 0
Extended-bits = (s g : Bool) (m : ℕ)
    → (spread (encode extended (zero_of s)) ≡ flag (2 ^ 79) s)
    × (spread (encode extended (infinity s)) ≡ flag (2 ^ 79) s + (2 ^ 15 - 1) * 2 ^ 64 + 2 ^ 63)
    × (m < 2 ^ 62 → spread (encode extended (nan s g m))
    ≡ flag (2 ^ 79) s + (2 ^ 15 - 1) * 2 ^ 64 + (2 ^ 63 + (flag (2 ^ 62) (not g) + m)))
