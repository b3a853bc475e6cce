-- The parts of decoding that have a function of their own, and encodings that tell by their
-- fields alone.
use Rattle.std.specs.Prelude.{ℕ, ◌-◌, ◌%◌, ◌^◌, Bool, false, cond, not, ◌&&◌, ◌==◌, nat_lt}
use Rattle.totals_spec.specs.formats.Format as spec
use Rattle.totals_spec.specs.formats.Decode.{Unpacked, infinity, nan, top_field, ones, field_of, fraction_of}

-- an exponent field of all ones, in Ieee
abbrev pub top_field_of : ℕ → Bool → ℕ → Unpacked
top_field_of fraction_bits negative fraction =
    cond (fraction == 0) (infinity negative)
    (nan negative (nat_lt fraction (2 ^ (fraction_bits - 1))) (fraction % 2 ^ (fraction_bits - 1)))

-- the NaN pattern of a kind other than Ieee
abbrev pub nan_pattern : spec.Kind → spec.Format → Bool → ℕ → ℕ → Bool
nan_pattern spec.ieee format negative field fraction = false
nan_pattern spec.no_inf format negative field fraction = top_field format field && ones format fraction
nan_pattern spec.fnuz format negative field fraction = negative && field == 0 && fraction == 0
nan_pattern spec.finite_only format negative field fraction = false

-- an exponent field that is neither 0 nor all ones: a normal number in every kind
abbrev pub is_plain : spec.Format → ℕ → Bool
is_plain format bits = not (field_of format bits == 0) && not (top_field format (field_of format bits))

-- all bits but the sign are 0
abbrev pub is_blank : spec.Format → ℕ → Bool
is_blank format bits = field_of format bits == 0 && fraction_of format bits == 0
