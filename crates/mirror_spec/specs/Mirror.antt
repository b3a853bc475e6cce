-- Mirror: what it is to negate a value and an encoding, to exchange the two directed modes, and to
-- negate a record.
use Rattle.std.specs.Prelude.{not, cond, ℕ, ◌+◌, ◌-◌, ◌^◌, eqb, Bool, true, false}
use Rattle.totals_spec.specs.formats.Decode.{Unpacked, zero_of, finite, infinity, nan, sign_bit}
use Rattle.totals_spec.specs.formats.Format.{Format, Kind, ieee, no_inf, fnuz, finite_only, kind_of}
use Rattle.totals_spec.specs.ten_bytes.Extended.{sign_in}
use Rattle.totals_spec.specs.formats.Settings.{Settings}
use Rattle.totals_spec.specs.sums.Totals.{Answer}

-- ---- negating

abbrev pub opposite : Unpacked → Unpacked
opposite (zero_of s) = zero_of (not s)
opposite (finite s k m) = finite (not s) k m
opposite (infinity s) = infinity (not s)
opposite (nan s g m) = nan (not s) g m

-- the encoding with the other sign bit
abbrev pub other_sign : Format → ℕ → ℕ
other_sign f b = cond (sign_bit f b) (b - 2 ^ (f.W - 1)) (b + 2 ^ (f.W - 1))

-- in Fnuz the sign bit alone is the NaN, and its zero is its own negative
abbrev pub negated_by : Kind → Format → ℕ → ℕ
negated_by ieee f b = other_sign f b
negated_by no_inf f b = other_sign f b
negated_by fnuz f b = cond (eqb b 0) 0 (other_sign f b)
negated_by finite_only f b = other_sign f b

unfoldable pub negated : Format → ℕ → ℕ
negated f b = negated_by (kind_of f.kind) f b

-- in kind 4 the sign is bit 79
abbrev pub negated_extended : ℕ → ℕ
negated_extended b = cond (sign_in b) (b - 2 ^ 79) (b + 2 ^ 79)

-- ---- the modes toward positive and toward negative, 3 and 4, exchanged; every other setting stays

abbrev pub exchanged : ℕ → ℕ
exchanged n = cond (eqb n 3) 4 (cond (eqb n 4) 3 n)

unfoldable pub mirrored : Settings → Settings
mirrored c = record {
  rounding = exchanged c.rounding;
  tininess = c.tininess;
  nan_propagation = c.nan_propagation;
  default_nan_sign = c.default_nan_sign;
  flush_to_zero = c.flush_to_zero;
  denormals_are_zero = c.denormals_are_zero;
  saturate = c.saturate;
  precision = c.precision;
}

-- ---- the negated result, which lies above the negated sum where the result lay below; all else
-- stays

abbrev pub other_side : ℕ → ℕ
other_side n = cond (eqb n 1) 2 (cond (eqb n 2) 1 n)

abbrev pub negated_answer : (negative : ℕ → ℕ) → Answer → Answer
negated_answer negative a = record {
  result = negative a.result;
  flags = a.flags;
  passes = a.passes;
  last_edge = a.last_edge;
  refusal = a.refusal;
  place = a.place;
  side = other_side a.side;
}

-- what a result has to be
abbrev pub neither_zero_nor_nan : Unpacked → Bool
neither_zero_nor_nan (zero_of s) = false
neither_zero_nor_nan (finite s k m) = true
neither_zero_nor_nan (infinity s) = true
neither_zero_nor_nan (nan s g m) = false
