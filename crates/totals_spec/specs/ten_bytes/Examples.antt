-- Examples of kind 4, as tests that the checker computes. Results, flags and passes are those of
-- another implementation; the sides were worked out in exact arithmetic.
use Rattle.std.specs.Prelude.{ℕ, [], ℤ, ◌+◌, ◌*◌, ◌^◌, Bool, ◌&&◌, eqb, ◌∷◌, negsuc, List, ◌++◌}
use Rattle.std.specs.Prelude.{replicate, pos, T as Holds}
use Rattle.std.proofs.Math.Option.{Option, none, some}
use Rattle.std.specs.Float.Ieee.{size, span, climb}
use Rattle.totals_spec.specs.formats.Format.{Format, binary64, bias, valid_format, lift}
use Rattle.totals_spec.specs.formats.Format.{exponent_range, depth, origin, fall, grid, rise}
use Rattle.totals_spec.specs.formats.Settings.{Settings, no_settings, with_rounding, valid_settings}
use Rattle.totals_spec.specs.formats.Settings.{precision_of}
use Rattle.totals_spec.specs.sums.Totals.{Answer, sum_answer, dot_answer, special, sum_rounded}
use Rattle.totals_spec.specs.sums.Totals.{reported, finite_total, without_nan, accepted}
use Rattle.totals_spec.specs.sums.Totals.{sum_refusal, sum_accepted, dot_refusal}
use Rattle.totals_spec.specs.ten_bytes.Extended.{kind4, extended_sum_answer, extended_dot_answer}
use Rattle.totals_spec.specs.ten_bytes.Extended.{sum_call, dot_call, extended, valid_extended}
use Rattle.totals_spec.specs.ten_bytes.Extended.{unsupported, decode_extended, subnormal_extended}
use Rattle.totals_spec.specs.ten_bytes.Extended.{extended_operand, spread, extended_accepted}
use Rattle.totals_spec.specs.ten_bytes.Extended.{extended_item, extended_sum, extended_sum_refusal}
use Rattle.totals_spec.specs.ten_bytes.Extended.{extended_pair, extended_dot, extended_dot_refusal}
use Rattle.totals_spec.specs.ten_bytes.Extended.{tens_in, extended_written, extended_entered}
use Rattle.totals_spec.specs.ten_bytes.Extended.{extended_sum_entry, extended_dot_entry}
use Rattle.totals_spec.specs.examples.Rows.{same_int, entered_as, refused_as}
use Rattle.totals_spec.specs.Basics.{difference, raised}
use Rattle.totals_spec.specs.formats.Decode.{decode, is_subnormal, operand}
use Rattle.totals_spec.specs.terms.Terms.{single, product, item, plus_sum, minus_sum, top_of}
use Rattle.totals_spec.specs.chain.Chain.{lost_end, look_at, half, wrapped, decide, sum_of, pass}
use Rattle.totals_spec.specs.chain.Chain.{run, chain}
use Rattle.totals_spec.specs.rounding.Round.{dropped, rounded_at, overflows, largest, overflow}
use Rattle.totals_spec.specs.rounding.Round.{number_of, finished, tiny_sum, round_to, round}
use Rattle.totals_spec.specs.formats.Encode.{encode}
use Rattle.totals_spec.specs.sums.Nan.{default_nan_of, select_all}
use Rattle.totals_spec.specs.rounding.Side.{leans_of, side_of}
use Rattle.totals_spec.specs.entries.Bytes.{values_in, written, entered, sum_entry, dot_entry}

abbrev named4 : (E W : ℕ) → Option ℤ → Format
named4 e w b = record { kind = 4; E = e; W = w; named = b }

abbrev settings : (rounding nan_propagation default_nan_sign flush_to_zero denormals_are_zero
    saturate precision : ℕ) → Settings
settings m n d f z s q =
    record {
      rounding = m;
      tininess = 0;
      nan_propagation = n;
      default_nan_sign = d;
      flush_to_zero = f;
      denormals_are_zero = z;
      saturate = s;
      precision = q;
    }

-- ---- encodings

-- 2^(x − 16383): the leading bit alone below the exponent field x
abbrev power : ℕ → ℕ
power x = x * 2 ^ 64 + 2 ^ 63

abbrev minus : ℕ → ℕ
minus b = 2 ^ 79 + b

abbrev one : ℕ
one = power 0x3fff

abbrev most : ℕ
most = 0x7ffeffffffffffffffff

abbrev least : ℕ
least = 1

abbrev infinite : ℕ
infinite = 0x7fff8000000000000000

abbrev quiet_nan : ℕ
quiet_nan = 0x7fffc000000000000000

abbrev signaling_nan : ℕ
signaling_nan = 0x7fff8000000000000001

abbrev pseudo_denormal : ℕ
pseudo_denormal = 0x00008000000000000000

abbrev unnormal : ℕ
unnormal = 0x3fff4000000000000000

abbrev pseudo_infinity : ℕ
pseudo_infinity = 0x7fff0000000000000000

abbrev pseudo_nan : ℕ
pseudo_nan = 0x7fff4000000000000000

abbrev total_is : (result flags passes side : ℕ) → Answer → Bool
total_is x f n s a =
    eqb a.result x && eqb a.flags f && eqb a.passes n && eqb a.side s && eqb a.refusal 0
    && eqb a.place 0

-- ---- totals

-- a pseudo-denormal counts as subnormal: its value, alone, twice and times 2; a zero of its sign
-- under denormals-are-zero, of which a magnitude has none
unfoldable pub pseudo_denormals : Bool
pseudo_denormals =
    total_is 0x18000000000000000 0x80 1 0
    (extended_sum_answer kind4 no_settings 0 (pseudo_denormal ∷ []))
    && total_is 0x28000000000000000 0x80 1 0
    (extended_sum_answer kind4 no_settings 0 (pseudo_denormal ∷ pseudo_denormal ∷ []))
    && total_is 0x28000000000000000 0x80 1 0
    (extended_dot_answer kind4 no_settings (pseudo_denormal ∷ []) (power 0x4000 ∷ []))
    && total_is 0 0x80 0 0
    (extended_sum_answer kind4 (settings 0 0 0 0 1 0 0) 0 (pseudo_denormal ∷ []))
    && total_is 0x80000000000000000000 0x80 0 0
    (extended_sum_answer kind4 (settings 0 0 0 0 1 0 0) 0 (minus pseudo_denormal ∷ []))
    && total_is 0 0x80 0 0
    (extended_sum_answer kind4 (settings 0 0 0 0 1 0 0) 1 (minus pseudo_denormal ∷ []))
    && total_is 0 0xb8 1 1 (extended_sum_answer kind4 no_settings 2 (pseudo_denormal ∷ []))
    && total_is 0x7fffc000000000000000 0x81 0 3
    (extended_dot_answer kind4 (settings 0 0 0 0 1 0 0) (pseudo_denormal ∷ []) (infinite ∷ []))

-- an unsupported encoding decides: alone; before a signaling NaN and infinities of both signs;
-- behind a subnormal number and NaNs; in either list of a dot
unfoldable pub unsupported_ones : Bool
unsupported_ones =
    total_is 0x7fffc000000000000000 0x01 0 3
    (extended_sum_answer kind4 no_settings 0 (unnormal ∷ []))
    && total_is 0xffffc000000000000000 0x01 0 3
    (extended_sum_answer kind4 (settings 0 0 1 0 0 0 0) 0 (unnormal ∷ []))
    && total_is 0x7fffc000000000000000 0x01 0 3
    (extended_sum_answer kind4 no_settings 0
    (pseudo_infinity ∷ signaling_nan ∷ infinite ∷ minus infinite ∷ []))
    && total_is 0x7fffc000000000000000 0x81 0 3
    (extended_sum_answer kind4 no_settings 1 (least ∷ quiet_nan ∷ pseudo_nan ∷ []))
    && total_is 0x7fffc000000000000000 0x01 0 3
    (extended_sum_answer kind4 (settings 0 1 0 0 0 0 0) 0 (signaling_nan ∷ minus pseudo_nan ∷ []))
    && total_is 0x7fffc000000000000000 0x01 0 3
    (extended_dot_answer kind4 no_settings (one ∷ signaling_nan ∷ []) (one ∷ unnormal ∷ []))
    && total_is 0x7fffc000000000000000 0x81 0 3
    (extended_dot_answer kind4 no_settings (pseudo_infinity ∷ pseudo_denormal ∷ [])
    (infinite ∷ one ∷ []))

-- NaNs, of which bit 62 alone makes one quiet, infinities and zeros
unfoldable pub specials : Bool
specials =
    total_is 0x7fffe000000000000000 0x01 0 3
    (extended_sum_answer kind4 no_settings 0 (0x7fffa000000000000000 ∷ []))
    && total_is 0xffffc000000000000001 0x01 0 3
    (extended_sum_answer kind4 no_settings 0 (one ∷ minus signaling_nan ∷ []))
    && total_is 0x7fffc000000000000000 0x00 0 3
    (extended_sum_answer kind4 no_settings 0 (minus infinite ∷ quiet_nan ∷ []))
    && total_is 0x7fff8000000000000000 0x00 0 3
    (extended_sum_answer kind4 no_settings 1 (minus infinite ∷ quiet_nan ∷ []))
    && total_is 0xffff8000000000000000 0x00 0 3
    (extended_sum_answer kind4 no_settings 0 (minus infinite ∷ one ∷ []))
    && total_is 0x7fffc000000000000000 0x01 0 3
    (extended_sum_answer kind4 no_settings 0 (minus infinite ∷ infinite ∷ []))
    && total_is 0x7fffc000000000000000 0x01 0 3
    (extended_dot_answer kind4 no_settings (infinite ∷ one ∷ []) (0 ∷ one ∷ []))
    && total_is 0x7fffc000000000000001 0x01 0 3
    (extended_dot_answer kind4 no_settings (infinite ∷ signaling_nan ∷ []) (0 ∷ one ∷ []))
    && total_is 0 0x00 0 0 (extended_sum_answer kind4 no_settings 0 [])
    && total_is 0x80000000000000000000 0x00 0 0
    (extended_sum_answer kind4 no_settings 0 (minus 0 ∷ []))
    && total_is 0x80000000000000000000 0x00 0 0
    (extended_sum_answer kind4 (with_rounding 4) 0 (0 ∷ minus 0 ∷ []))
    && total_is 0x80000000000000000000 0x00 1 0
    (extended_sum_answer kind4 (with_rounding 4) 0 (one ∷ minus one ∷ minus 0 ∷ []))

-- 1 with 2^−64, and with ±2^−1000 besides; overflow, to the largest and saturated; the least
-- number, and flushed; subnormal results; the square of 2^−9000; a product of all ones; precision
unfoldable pub roundings : Bool
roundings =
    total_is 0x3fff8000000000000000 0x10 1 1
    (extended_sum_answer kind4 no_settings 0 (one ∷ power 0x3fbf ∷ []))
    && total_is 0x3fff8000000000000001 0x50 2 2
    (extended_sum_answer kind4 no_settings 0 (one ∷ power 0x3fbf ∷ power 0x3c17 ∷ []))
    && total_is 0x3fff8000000000000000 0x10 2 1
    (extended_sum_answer kind4 no_settings 0 (one ∷ power 0x3fbf ∷ minus (power 0x3c17) ∷ []))
    && total_is 0xbfff8000000000000001 0x50 1 1
    (extended_sum_answer kind4 (with_rounding 4) 0 (minus one ∷ minus (power 0x3f9b) ∷ []))
    && total_is 0x7fff8000000000000000 0x54 1 3
    (extended_sum_answer kind4 no_settings 0 (most ∷ most ∷ []))
    && total_is 0x7ffeffffffffffffffff 0x14 1 1
    (extended_sum_answer kind4 (with_rounding 5) 0 (most ∷ most ∷ []))
    && total_is 0x7ffeffffffffffffffff 0x14 1 1
    (extended_sum_answer kind4 (settings 0 0 0 0 0 1 0) 0 (most ∷ most ∷ []))
    && total_is 0x1 0xa0 1 0 (extended_sum_answer kind4 no_settings 0 (least ∷ []))
    && total_is 0 0xb8 1 1 (extended_sum_answer kind4 (settings 0 0 0 1 0 0 0) 0 (least ∷ []))
    && total_is 0x7fffffffffffffff 0xa0 1 0
    (extended_sum_answer kind4 no_settings 0 (power 0x1 ∷ minus least ∷ []))
    && total_is 0x18000000000000000 0x80 1 0
    (extended_sum_answer kind4 no_settings 0 (0x7fffffffffffffff ∷ least ∷ []))
    && total_is 0 0x38 1 1 (extended_sum_answer kind4 no_settings 2 (power 0x1cd7 ∷ []))
    && total_is 0x4000fffffffffffffffe 0x10 1 1
    (extended_dot_answer kind4 no_settings (0x3fffffffffffffffffff ∷ [])
    (0x3fffffffffffffffffff ∷ []))
    && total_is 0x3fff8000000000000000 0x10 1 1
    (extended_sum_answer kind4 (settings 0 0 0 0 0 0 24) 0 (one ∷ power 0x3fe7 ∷ []))
    && total_is 0x3fff8000010000000000 0x50 1 2
    (extended_sum_answer kind4 (settings 3 0 0 0 0 0 24) 0 (one ∷ power 0x3fe7 ∷ []))
    && total_is 0x3fff8000000000000001 0x00 1 0
    (extended_sum_answer kind4 (settings 0 0 0 0 0 0 64) 0 (one ∷ power 0x3fc0 ∷ []))
    && total_is 0x40008000000000000000 0x00 1 0
    (extended_sum_answer kind4 no_settings 1 (minus one ∷ one ∷ []))

-- many passes: 2^1500 − 2^−1500 in a dot; the largest, its negative and the least number
unfoldable pub chains : Bool
chains =
    total_is 0x4bb78000000000000000 0x50 7 2
    (extended_dot_answer kind4 no_settings (power 0x45db ∷ one ∷ [])
    (power 0x45db ∷ minus (power 0x3a23) ∷ []))
    && total_is 1 0xa0 43 0
    (extended_sum_answer kind4 no_settings 0 (most ∷ minus most ∷ least ∷ []))

-- the last edge of 1 alone, and of 1, 2^−64, 2^−1000: T − 702, and 701 lower
unfoldable pub edges : Bool
edges =
    same_int (extended_sum_answer kind4 no_settings 0 (one ∷ [])).last_edge (negsuc 701)
    && same_int
    (extended_sum_answer kind4 no_settings 0 (one ∷ power 0x3fbf ∷ power 0x3c17 ∷ [])).last_edge
    (negsuc 1402)

-- ---- calls

-- the ten bytes of 2^(x − 16383), by the two of x
abbrev power_bytes : ℕ → ℕ → List ℕ
power_bytes low high = replicate 7 0 ++ (128 ∷ low ∷ high ∷ [])

abbrev untouched : ℕ → List ℕ
untouched n = replicate n 7

abbrev refused_sum : (code : ℕ) → Format → Settings → (u bytes buffer : ℕ) → Bool
refused_sum n f c u bytes buffer = entered_as n (untouched buffer)
    (sum_call f c u (replicate bytes 0) (untouched buffer))

abbrev refused_dot : (code : ℕ) → Format → Settings → (left right buffer : ℕ) → Bool
refused_dot n f c left right buffer = entered_as n (untouched buffer)
    (dot_call f c (replicate left 0) (replicate right 0) (untouched buffer))

unfoldable pub calls : Bool
calls =
    -- 1 first: eight bytes are no value of kind 4, whatever else is wrong
    refused_sum 1 kind4 no_settings 0 9 32
    && refused_sum 1 (named4 11 64 none) no_settings 0 8 24
    && refused_sum 1 kind4 no_settings 0 11 31
    && refused_dot 1 kind4 no_settings 10 15 32
    -- 2: under 32 bytes
    && refused_sum 2 (named4 11 80 none) no_settings 0 10 31
    && refused_dot 2 kind4 no_settings 10 20 31
    -- 3: another E, another W, a named bias, its own among them
    && refused_sum 3 (named4 11 80 none) (with_rounding 8) 0 10 32
    && refused_sum 3 (named4 15 64 none) no_settings 0 10 32
    && refused_sum 3 (named4 15 79 none) no_settings 0 10 32
    && refused_sum 3 (named4 15 80 (some (pos 16383))) no_settings 0 10 32
    && refused_dot 3 (named4 15 80 (some (pos 0))) no_settings 10 20 32
    -- 4: a precision of 65, a summand of 3; before 5
    && refused_sum 4 kind4 (settings 0 0 0 0 0 0 65) 0 10 32
    && refused_sum 4 kind4 no_settings 3 10 32
    && refused_dot 4 kind4 (with_rounding 8) 10 20 32
    -- 5: lists of one value and of two
    && refused_dot 5 kind4 no_settings 10 20 32
    -- a list of words; kind 5
    && refused_as 3 0 (sum_answer kind4 no_settings 0 [])
    && refused_as 3 0 (dot_answer kind4 no_settings [] [])
    && refused_sum 3 (record { kind = 5; E = 15; W = 80; named = none }) no_settings 0 8 24
    -- of other kinds a value has eight bytes, and an answer 24
    && refused_sum 1 binary64 no_settings 0 10 32
    && entered_as 0 (replicate 6 0 ++ (240 ∷ 63 ∷ replicate 8 0 ++ (1 ∷ replicate 7 0 ++ (7 ∷ []))))
    (sum_call binary64 no_settings 0 (replicate 6 0 ++ (240 ∷ 63 ∷ [])) (untouched 25))
    -- 1 and 2^−64; an unnormal; 1 times 2; what lies behind 32 bytes stays
    && entered_as 0
    (power_bytes 255 63 ++ (16 ∷ 1 ∷ replicate 12 0 ++ (1 ∷ replicate 7 0 ++ (7 ∷ []))))
    (sum_call kind4 no_settings 0 (power_bytes 255 63 ++ power_bytes 191 63) (untouched 33))
    && entered_as 0 (replicate 7 0 ++ (192 ∷ 255 ∷ 127 ∷ 1 ∷ 3 ∷ replicate 20 0))
    (sum_call kind4 no_settings 0 (replicate 7 0 ++ (64 ∷ 255 ∷ 63 ∷ [])) (untouched 32))
    && entered_as 0 (power_bytes 0 64 ++ (0 ∷ 0 ∷ replicate 12 0 ++ (1 ∷ replicate 7 0)))
    (dot_call kind4 no_settings (power_bytes 255 63) (power_bytes 0 64) (untouched 32))

unfoldable pub extended_examples : Bool
extended_examples = calls && unsupported_ones && specials && pseudo_denormals && edges && roundings

-- THE THEOREMS: the tests compute to true
pub extended-agree : Holds extended_examples
unfolding
    extended_examples calls unsupported_ones specials pseudo_denormals edges roundings
    extended valid_extended unsupported decode_extended subnormal_extended extended_operand spread
    extended_accepted extended_item extended_sum extended_sum_refusal
    extended_sum_answer extended_pair extended_dot extended_dot_refusal extended_dot_answer
    with_rounding
    difference raised bias lift exponent_range depth origin fall grid rise valid_settings
    precision_of
    decode single product plus_sum minus_sum top_of
    lost_end look_at half wrapped decide sum_of pass run chain size span climb
    dropped rounded_at overflows largest overflow number_of finished tiny_sum round_to round encode
    leans_of side_of default_nan_of select_all
    special sum_rounded reported finite_total without_nan accepted
    tens_in extended_written extended_entered extended_sum_entry extended_dot_entry sum_call
    dot_call
    values_in written entered sum_entry dot_entry binary64 valid_format is_subnormal operand item
    sum_refusal sum_accepted sum_answer dot_refusal dot_answer
extended-agree = tt

pub chains-agree : Holds chains
unfolding
    chains
    extended valid_extended unsupported decode_extended subnormal_extended extended_operand spread
    extended_accepted extended_item extended_sum extended_sum_refusal
    extended_sum_answer extended_pair extended_dot extended_dot_refusal extended_dot_answer
    with_rounding
    difference raised bias lift exponent_range depth origin fall grid rise valid_settings
    precision_of
    decode single product plus_sum minus_sum top_of
    lost_end look_at half wrapped decide sum_of pass run chain size span climb
    dropped rounded_at overflows largest overflow number_of finished tiny_sum round_to round encode
    leans_of side_of default_nan_of select_all
    special sum_rounded reported finite_total without_nan accepted
chains-agree = tt
