-- A NaN among operands: what is decoded fits its format, and denormals-are-zero makes none and
-- changes none.
use mathlib.Core.Path.{◌≡◌, refl}
use mathlib.Core.Bool.{Bool, true, false, ◌&&◌, cond}
use Prim.Native.Nat.{ℕ, zero, suc, ◌-◌, ◌%◌, ◌^◌}
use native.Mathlib.Nat.{mod-lt}
use lib.Dec.{eqb, ltb}
use lib.Pow.{pow_pos}
use Rattle.totals_spec.specs.Basics.{is_set}
use Rattle.totals_spec.specs.formats.Format as spec
use Rattle.totals_spec.specs.formats.Settings as env
use Rattle.totals_spec.specs.formats.Decode as dec
use Rattle.totals_spec.specs.ten_bytes.Extended.{sign_in, field_in, decode_extended, subnormal_extended, extended_operand}
use Rattle.format.specs.Fits.{Encodes}
use Rattle.binary.specs.Nans.{if_nan}

-- ---- what is decoded, and the operand of it

module _ (format : spec.Format) where
  encodes-cond : (b : Bool) (x y : dec.Unpacked) → Encodes format (if_nan x) → Encodes format (if_nan y) → Encodes format (if_nan (cond b x y))
  encodes-cond true x y h k = h
  encodes-cond false x y h k = k

  module _ (s : Bool) (x m : ℕ) where
    encodes-number : Encodes format (if_nan (dec.number (spec.fraction_bits format) s x m))
    encodes-number = go x m
      where
        go : (x m : ℕ) → Encodes format (if_nan (dec.number (spec.fraction_bits format) s x m))
        go zero zero = tt
        go zero (suc m) = tt
        go (suc x) m = tt

    -- a payload is below 2^(fraction bits - 1)
    encodes-fields : (k : spec.Kind) → Encodes format (if_nan (dec.decode_fields k format s x m))
    encodes-fields spec.ieee =
        let n = dec.nan s (ltb m (2 ^ (spec.fraction_bits format - 1))) (m % 2 ^ (spec.fraction_bits format - 1)) in
        encodes-cond (dec.top_field format x) (cond (eqb m 0) (dec.infinity s) n) (dec.number (spec.fraction_bits format) s x m)
        (encodes-cond (eqb m 0) (dec.infinity s) n tt (mod-lt m (pow_pos (spec.fraction_bits format - 1)))) encodes-number
    encodes-fields spec.no_inf =
        encodes-cond (dec.top_field format x && dec.ones format m) (dec.nan s false 0) (dec.number (spec.fraction_bits format) s x m) (pow_pos (spec.fraction_bits format - 1))
        encodes-number
    encodes-fields spec.fnuz =
        encodes-cond (s && eqb x 0 && eqb m 0) (dec.nan s false 0) (dec.number (spec.fraction_bits format) s x m) (pow_pos (spec.fraction_bits format - 1))
        encodes-number
    encodes-fields spec.finite_only = encodes-number

  pub decoded-encodes : (b : ℕ) → Encodes format (if_nan (dec.decode format b))
  unfolding dec.decode
  decoded-encodes b = encodes-fields (dec.sign_bit format b) (dec.field_of format b) (dec.fraction_of format b) (spec.kind_of format.kind)

-- denormals-are-zero makes no NaN, and changes none
zeroed-held : (x : dec.Unpacked) (a z s : Bool) → if_nan (cond (a && (dec.is_finite x && z)) (dec.zero_of s) x) ≡ if_nan x
zeroed-held x false z s = refl
zeroed-held (dec.zero_of t) true z s = refl
zeroed-held (dec.finite t k m) true true s = refl
zeroed-held (dec.finite t k m) true false s = refl
zeroed-held (dec.infinity t) true z s = refl
zeroed-held (dec.nan t g m) true z s = refl

pub operand-held : (format : spec.Format) (settings : env.Settings) (b : ℕ) → if_nan (dec.operand format settings b) ≡ if_nan (dec.decode format b)
unfolding dec.operand dec.is_subnormal
operand-held format settings b = zeroed-held (dec.decode format b) (is_set settings.denormals_are_zero) (eqb (dec.field_of format b) 0) (dec.sign_bit format b)

pub extended-held : (settings : env.Settings) (b : ℕ) → if_nan (extended_operand settings b) ≡ if_nan (decode_extended b)
unfolding extended_operand subnormal_extended
extended-held settings b = zeroed-held (decode_extended b) (is_set settings.denormals_are_zero) (eqb (field_in b) 0) (sign_in b)

pub if-encodes : (format : spec.Format) (v : dec.Unpacked) → Encodes format v → Encodes format (if_nan v)
if-encodes format (dec.zero_of s) h = tt
if-encodes format (dec.finite s k m) h = tt
if-encodes format (dec.infinity s) h = tt
if-encodes format (dec.nan s g m) h = h
