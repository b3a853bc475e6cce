-- Plainly normal numbers: their terms, and the positions that count for T.
use Rattle.std.specs.Prelude.{Bool, ◌&&◌, cond, ℕ, zero, suc, ◌+◌, ◌-◌, ◌*◌, ◌^◌}
use Rattle.totals_spec.specs.formats.Format as spec
use Rattle.totals_spec.specs.formats.Settings as env
use Rattle.totals_spec.specs.formats.Decode as dec
use Rattle.totals_spec.specs.terms.Terms as terms
use Rattle.binary.specs.Encodings.{is_plain}

abbrev pub both_plain : spec.Format → ℕ → ℕ → Bool
both_plain format left right = is_plain format left && is_plain format right

-- the exponent field of one, and 0 for an element that takes a closer look; of a pair the sum of
-- the two fields
abbrev pub plain_field : spec.Format → ℕ → ℕ
plain_field format bits = cond (is_plain format bits) (dec.field_of format bits) 0

abbrev pub plain_fields : spec.Format → ℕ → ℕ → ℕ
plain_fields format left right =
    cond (both_plain format left right) (dec.field_of format left + dec.field_of format right) 0

abbrev pub plain_number : spec.Format → ℕ → dec.Unpacked
plain_number format bits =
    dec.finite (dec.sign_bit format bits) (dec.field_of format bits - 1)
    (2 ^ spec.fraction_bits format + dec.fraction_of format bits)

-- the product of two normal numbers
abbrev pub plain_product : spec.Format → ℕ → ℕ → terms.Term
plain_product format left right =
    terms.product (terms.unlike (dec.sign_bit format left) (dec.sign_bit format right))
    (dec.field_of format left - 1) (2 ^ spec.fraction_bits format + dec.fraction_of format left)
    (dec.field_of format right - 1) (2 ^ spec.fraction_bits format + dec.fraction_of format right)

-- ---- the position that counts for T, by the exponent fields of normal numbers. The exponent is
-- the field less 1, and the significand has p digits

-- n places above a base; 0 for the field 0, which no normal number has
abbrev pub above_base : ℕ → ℕ → ℕ
above_base base zero = 0
above_base base (suc k) = suc k + base

-- of a product, by the sum of the two fields
abbrev pub fields_top : spec.Format → ℕ → ℕ
fields_top format fields = above_base (2 * spec.digits format + 1021) fields

-- of an element, by its field
abbrev pub field_top : spec.Format → env.Summand → ℕ → ℕ
field_top format env.value field = above_base (spec.digits format + 1022) field
field_top format env.magnitude field = above_base (spec.digits format + 1022) field
field_top format env.square field = fields_top format (field + field)
