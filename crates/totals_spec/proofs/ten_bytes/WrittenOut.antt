-- The encodings of kind 4 (`Extended` of specs/): what is written out with its leading bit is read
-- as it was meant, and is canonical.
use native.Mathlib.Omega.{arith}
use mathlib.Core.Bool.{not, Bool, true, false, ◌&&◌}
use Prim.Native.Nat.{ℕ, ◌+◌, ◌^◌, ◌<◌, zero, suc, ◌*◌, ◌/◌, ◌%◌, ◌≤◌}
use lib.Dec.{eqb, T, ltb, ltb→lt, nltb→le}
use mathlib.Core.Path.{◌≡◌, refl, ◌∙◌, sym, ap}
use native.Mathlib.Nat.{suc-ne-zero, zero-add, mod-lt}
use borrow.Author.Tests.{eq-eqb, ne_eqb, lt-ltb, le-ltb, eqb-true, eqb-false}
use lib.Pow.{pow_pos, shr-shr}
use Rattle.totals_spec.specs.formats.Bounds.{RangeBounds}
use Rattle.totals_spec.specs.ten_bytes.Extended.{extended, sign_in, field_in, significand_in}
use Rattle.totals_spec.specs.ten_bytes.Extended.{extended_number, extended_fields, decode_extended}
use Rattle.totals_spec.specs.ten_bytes.Extended.{extended_bits, spread, subnormal_extended}
use Rattle.totals_spec.specs.Basics.{flag}
use Rattle.totals_spec.specs.formats.Format.{ieee}
use Rattle.totals_spec.specs.formats.Decode.{number, decode_fields, decode, sign_bit, field_of}
use Rattle.totals_spec.specs.formats.Decode.{fraction_of, finite, is_finite}
use Rattle.totals_spec.specs.ten_bytes.Promises.{Canonical, Pseudo-denormal}
use Rattle.totals_spec.specs.formats.Encode.{assembled}
use Rattle.totals_spec.proofs.formats.DecodedBack.{sign-back, field_back, fraction-back}

-- at most 64 digits
pub extended-bounds : RangeBounds extended
unfolding extended
extended-bounds =
    record { kind-le = omega arith; e-ge = omega arith; e-le = omega arith; w-ge = omega arith; p-le = omega arith; named-le = tt }

-- ---- the fields of what is written

-- the significand, its leading bit before the fraction
abbrev led : ℕ → ℕ → ℕ
led x m = flag (2 ^ 63) (not (eqb x 0)) + m

led-lt : (x m : ℕ) → m < 2 ^ 63 → led x m < 2 ^ 64
led-lt x m hm = go (not (eqb x 0))
  where
    go : (t : Bool) → flag (2 ^ 63) t + m < 2 ^ 64
    go true = omega arith
    go false = omega arith

module _ (s : Bool) (x m : ℕ) (hx : x < 2 ^ 15) (hm : m < 2 ^ 63) where
  pub bits-sign : sign_in (extended_bits s x m) ≡ s
  bits-sign = go s (led x m) (led-lt x m hm)
    where
      go : (t : Bool) (n : ℕ) → n < 2 ^ 64 → eqb ((flag (2 ^ 79) t + x * 2 ^ 64 + n) / 2 ^ 79 % 2) 1 ≡ t
      go true n h = eq-eqb ((2 ^ 79 + x * 2 ^ 64 + n) / 2 ^ 79 % 2) 1 (omega arith)
      go false n h = ne_eqb ((0 + x * 2 ^ 64 + n) / 2 ^ 79 % 2) 1 (λ e. omega (arith, e))

  bits-field : field_in (extended_bits s x m) ≡ x
  bits-field = go s (led x m) (led-lt x m hm)
    where
      go : (t : Bool) (n : ℕ) → n < 2 ^ 64 → (flag (2 ^ 79) t + x * 2 ^ 64 + n) / 2 ^ 64 % 2 ^ 15 ≡ x
      go true n h = omega arith
      go false n h = omega arith

  bits-significand : significand_in (extended_bits s x m) ≡ led x m
  bits-significand = go s (led x m) (led-lt x m hm)
    where
      go : (t : Bool) (n : ℕ) → n < 2 ^ 64 → (flag (2 ^ 79) t + x * 2 ^ 64 + n) % 2 ^ 64 ≡ n
      go true n h = omega arith
      go false n h = omega arith

  pub bits_fit : extended_bits s x m < 2 ^ 80
  bits_fit = go s (led x m) (led-lt x m hm)
    where
      go : (t : Bool) (n : ℕ) → n < 2 ^ 64 → flag (2 ^ 79) t + x * 2 ^ 64 + n < 2 ^ 80
      go true n h = omega arith
      go false n h = omega arith

  pub bits-canonical : Canonical (extended_bits s x m)
  bits-canonical = rw (bits-significand, bits-field) (go (eqb x 0))
    where
      go : (t : Bool) → ltb (flag (2 ^ 63) (not t) + m) (2 ^ 63) ≡ t
      go true = lt-ltb (0 + m) (2 ^ 63) (omega arith)
      go false = le-ltb (2 ^ 63 + m) (2 ^ 63) (omega arith)

  -- ---- and what they stand for

  eqb-led : eqb (2 ^ 63 + m) (2 ^ 63) ≡ eqb m 0
  eqb-led = go (eqb m 0) refl
    where
      go : (t : Bool) → eqb m 0 ≡ t → eqb (2 ^ 63 + m) (2 ^ 63) ≡ t
      go true e = eq-eqb (2 ^ 63 + m) (2 ^ 63) (omega (arith, eqb-true m 0 e))
      go false e = ne_eqb (2 ^ 63 + m) (2 ^ 63) (λ z. eqb-false m 0 e (omega (arith, z)))

  ltb-led : ltb (2 ^ 63 + m) (2 ^ 63 + 2 ^ 62) ≡ ltb m (2 ^ 62)
  ltb-led = go (ltb m (2 ^ 62)) (ltb→lt m (2 ^ 62)) (nltb→le m (2 ^ 62))
    where
      go : (t : Bool) → (T t → m < 2 ^ 62) → (T (not t) → 2 ^ 62 ≤ m) → ltb (2 ^ 63 + m) (2 ^ 63 + 2 ^ 62) ≡ t
      go true h k = lt-ltb (2 ^ 63 + m) (2 ^ 63 + 2 ^ 62) (omega (arith, h tt))
      go false h k = le-ltb (2 ^ 63 + m) (2 ^ 63 + 2 ^ 62) (omega (arith, k tt))

  mod-led : (2 ^ 63 + m) % 2 ^ 62 ≡ m % 2 ^ 62
  mod-led = omega arith

  led-fields : (y : ℕ) → extended_fields s y (led y m) ≡ decode_fields ieee extended s y m
  unfolding extended
  led-fields zero = rw (zero-add m) (go m)
    where
      go : (n : ℕ) → extended_number s 0 n ≡ number 63 s 0 n
      go zero = refl
      go (suc n) = refl
  led-fields (suc y) = rw (ne_eqb (suc y) 0 (suc-ne-zero y), le-ltb (2 ^ 63 + m) (2 ^ 63) (omega arith), eqb-led, ltb-led, mod-led)

  pub bits-decoded : decode_extended (extended_bits s x m) ≡ decode_fields ieee extended s x m
  unfolding decode_extended
  bits-decoded = rw (bits-sign, bits-field, bits-significand) (led-fields x)

-- ---- an encoding of `extended` with its leading bit written out

module _ (b : ℕ) where
  pub field_lt : field_of extended b < 2 ^ 15
  unfolding extended
  field_lt = mod-lt (b / 2 ^ 63) (pow_pos 15)

  pub fraction-lt : fraction_of extended b < 2 ^ 63
  unfolding extended
  fraction-lt = mod-lt b (pow_pos 63)

  pub spread-decoded : decode_extended (spread b) ≡ decode extended b
  unfolding spread decode
  spread-decoded = bits-decoded (sign_bit extended b) _ _ field_lt fraction-lt ∙ kinds
    where
      kinds : decode_fields ieee extended (sign_bit extended b) (field_of extended b) (fraction_of extended b) ≡ decode extended b
      kinds = unfold decode extended in refl

  pub spread-fits : spread b < 2 ^ 80
  unfolding spread
  spread-fits = bits_fit (sign_bit extended b) _ _ field_lt fraction-lt

  pub spread-canonical : Canonical (spread b)
  unfolding spread
  spread-canonical = bits-canonical (sign_bit extended b) _ _ field_lt fraction-lt

-- what a program writes: the fields of an encoding, with the leading bit
pub spread-assembled : (s : Bool) (x m : ℕ) → x < 2 ^ 15 → m < 2 ^ 63 → spread (assembled extended s x m) ≡ extended_bits s x m
unfolding spread extended
spread-assembled s x m hx hm =
    rw (sign-back extended extended-bounds s x m hx hm, field_back extended extended-bounds s x m hx hm, fraction-back extended extended-bounds s x m hx hm)

-- ---- a leading bit below a field of 0

module _ (s : Bool) where
  low-fields : (m : ℕ) → 2 ^ 63 ≤ m → extended_fields s 0 m ≡ finite s 0 m
  low-fields zero h = absurd (let z : ⊥ = omega arith in z)
  low-fields (suc m) h = refl

  one-fields : (m : ℕ) → 2 ^ 63 ≤ m → extended_fields s 1 m ≡ finite s 0 m
  one-fields m h = rw (le-ltb m (2 ^ 63) h)

pub pseudo-denormal : Pseudo-denormal
unfolding subnormal_extended decode_extended
pseudo-denormal b e h = (field, up ∙ sym low, below, above)
  where
    field : field_in (b + 2 ^ 64) ≡ 1
    field = omega (arith, e)

    -- one above a multiple of 2^15
    next : (q : ℕ) → q % 2 ^ 15 ≡ 0 → (q + 1) / 2 ^ 15 ≡ q / 2 ^ 15
    next q z = omega (arith, z)

    sign : sign_in (b + 2 ^ 64) ≡ sign_in b
    sign =
        let up : (b + 2 ^ 64) / 2 ^ 64 ≡ b / 2 ^ 64 + 1 = omega arith in
        ap (λ (n : ℕ). eqb (n % 2) 1)
        (sym (shr-shr (b + 2 ^ 64) 64 15) ∙ ap (λ (n : ℕ). n / 2 ^ 15) up ∙ next (b / 2 ^ 64) e ∙ shr-shr b 64 15)

    significand : significand_in (b + 2 ^ 64) ≡ significand_in b
    significand = omega arith

    low : extended_fields (sign_in b) (field_in b) (significand_in b) ≡ finite (sign_in b) 0 (significand_in b)
    low = rw e (low-fields (sign_in b) (significand_in b) h)

    up : extended_fields (sign_in (b + 2 ^ 64)) (field_in (b + 2 ^ 64)) (significand_in (b + 2 ^ 64)) ≡ finite (sign_in b) 0 (significand_in b)
    up = rw (sign, field, significand) (one-fields (sign_in b) (significand_in b) h)

    below : (is_finite (extended_fields (sign_in b) (field_in b) (significand_in b)) && eqb (field_in b) 0) ≡ true
    below = rw (low, e)

    above : (is_finite (extended_fields (sign_in (b + 2 ^ 64)) (field_in (b + 2 ^ 64)) (significand_in (b + 2 ^ 64))) && eqb (field_in (b + 2 ^ 64)) 0) ≡ false
    above = rw (up, field)
