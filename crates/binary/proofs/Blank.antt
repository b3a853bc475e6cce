-- An encoding whose bits are all 0 but for the sign: no finite number.
use Rattle.std.proofs.Common.{◌≡◌, ℕ, ◌-◌, ◌%◌, ◌^◌, Bool, true, false, cond, ◌&&◌, T, eqb, ltb, sym, refl, ap, subst, eqb→eq}
use Rattle.totals_spec.specs.Basics.{is_set}
use Rattle.totals_spec.specs.formats.Format as spec
use Rattle.totals_spec.specs.formats.Settings as env
use Rattle.totals_spec.specs.formats.Decode.{zero_of, infinity, nan, number, top_field, ones, decode_fields, decode, operand}
use Rattle.totals_spec.specs.formats.Decode.{is_finite, is_subnormal, sign_bit, field_of, fraction_of}
use Rattle.totals_spec.proofs.formats.Valid.{and_left, and_right}
use Rattle.binary.specs.Encodings.{top_field_of, is_blank}
use Rattle.binary.proofs.Cases.{number-zero}

number-blank : (t : ℕ) (s : Bool) (x m : ℕ) → (eqb x 0 && eqb m 0) ≡ true → is_finite (number t s x m) ≡ false
number-blank t s x m e =
    let b = subst T (sym e) tt in
    sym (ap is_finite (number-zero t s x m (eqb→eq x 0 (and_left (eqb x 0) (eqb m 0) b)) (eqb→eq m 0 (and_right (eqb x 0) (eqb m 0) b))))

fields-blank : (k : spec.Kind) (format : spec.Format) (s : Bool) (x m : ℕ) → (eqb x 0 && eqb m 0) ≡ true → is_finite (decode_fields k format s x m) ≡ false
fields-blank spec.ieee format s x m e = either (top_field format x)
  where
    other : (b : Bool) → is_finite (cond b (infinity s) (nan s (ltb m (2 ^ (spec.fraction_bits format - 1))) (m % 2 ^ (spec.fraction_bits format - 1)))) ≡ false
    other true = refl
    other false = refl

    either : (b : Bool) → is_finite (cond b (top_field_of (spec.fraction_bits format) s m) (number (spec.fraction_bits format) s x m)) ≡ false
    either true = other (eqb m 0)
    either false = number-blank _ s x m e
fields-blank spec.no_inf format s x m e = nan-or (top_field format x && ones format m)
  where
    nan-or : (b : Bool) → is_finite (cond b (nan s false 0) (number (spec.fraction_bits format) s x m)) ≡ false
    nan-or true = refl
    nan-or false = number-blank _ s x m e
fields-blank spec.fnuz format s x m e = nan-or (s && eqb x 0 && eqb m 0)
  where
    nan-or : (b : Bool) → is_finite (cond b (nan s false 0) (number (spec.fraction_bits format) s x m)) ≡ false
    nan-or true = refl
    nan-or false = number-blank _ s x m e
fields-blank spec.finite_only format s x m e = number-blank _ s x m e

pub operand-blank : (format : spec.Format) (settings : env.Settings) (b : ℕ) → is_blank format b ≡ true → is_finite (operand format settings b) ≡ false
unfolding operand decode
operand-blank format settings b e = either (is_set settings.denormals_are_zero && is_subnormal format b)
  where
    either : (z : Bool) → is_finite (cond z (zero_of (sign_bit format b)) (decode format b)) ≡ false
    either true = refl
    either false = fields-blank (spec.kind_of format.kind) format (sign_bit format b) (field_of format b) (fraction_of format b) e
