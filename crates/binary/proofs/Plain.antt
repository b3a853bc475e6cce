-- What it says of an encoding that `is_plain` answers true: it is a normal number, in every kind.
use Rattle.std.proofs.Common.{◌≡◌, ℕ, ◌+◌, ◌-◌, ◌^◌, ◌<◌, true, false, not, eqb, sym, ◌∙◌, true≢false, eq-eqb}
use mathlib.Core.Bool.{and-false}
use Rattle.totals_spec.specs.formats.Format as spec
use Rattle.totals_spec.specs.formats.Decode.{finite, decode, is_subnormal, sign_bit, field_of, fraction_of}
use Rattle.binary.specs.Encodings.{is_plain}
use Rattle.binary.proofs.Cases.{decode-plain, not-sub, positive}

pub record Plain (format : spec.Format) (b : ℕ) : Type 0 where
  pub number : decode format b ≡ finite (sign_bit format b) (field_of format b - 1) (2 ^ spec.fraction_bits format + fraction_of format b)
  pub normal : is_subnormal format b ≡ false
  pub some : 0 < field_of format b

module _ (format : spec.Format) (b : ℕ) (e : is_plain format b ≡ true) where
  not_none : field_of format b ≡ 0 → ⊥
  not_none z = true≢false (sym e ∙ rw (eq-eqb _ _ z))

  not_top : field_of format b ≡ 2 ^ format.E - 1 → ⊥
  not_top z = true≢false (sym e ∙ rw (eq-eqb _ _ z) (and-false (not (eqb (field_of format b) 0))))

  pub plainly : Plain format b
  unfolding decode is_subnormal
  plainly = record {
    number = decode-plain format.kind format (sign_bit format b) (field_of format b) (fraction_of format b) not_none not_top;
    normal = not-sub (decode format b) _ not_none;
    some = positive _ not_none;
  }
