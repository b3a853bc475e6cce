-- Examples of pence, as tests that the checker computes.
use Rattle.std.specs.Prelude.{Bool, ◌&&◌, [], pos, negsuc, ℕ, List, ℤ, ◌∷◌, T as Holds}
use Rattle.std.proofs.Math.Option.{none, some}
use Rattle.std.specs.Float.Ieee.{size, span, climb}
use Rattle.totals_spec.specs.formats.Format.{binary64, Format, bias, valid_format, lift, depth}
use Rattle.totals_spec.specs.formats.Format.{exponent_range, origin, fall, grid, rise}
use Rattle.totals_spec.specs.pence.Pence.{pence_answer, sum_pence, pence_of, sum_figure}
use Rattle.totals_spec.specs.examples.Rows.{pence_is, binary16, pence_at, half16}
use Rattle.totals_spec.specs.pence.Hundredfold.{chain_pence, hundred_item, nearest_whole}
use Rattle.totals_spec.specs.pence.Hundredfold.{whole_figure}
use Rattle.totals_spec.specs.chain.Chain.{chain, lost_end, look_at, half, wrapped, decide, sum_of}
use Rattle.totals_spec.specs.chain.Chain.{pass, run}
use Rattle.totals_spec.specs.rounding.Round.{largest, dropped, rounded_at, overflows, overflow}
use Rattle.totals_spec.specs.rounding.Round.{number_of, finished, tiny_sum, round_to, round}
use Rattle.totals_spec.specs.formats.Decode.{decode, is_subnormal, operand}
use Rattle.totals_spec.specs.Basics.{difference, raised}
use Rattle.totals_spec.specs.formats.Settings.{valid_settings, precision_of}
use Rattle.totals_spec.specs.terms.Terms.{single, product, item, pair_item, plus_sum, minus_sum}
use Rattle.totals_spec.specs.terms.Terms.{top_of}
use Rattle.totals_spec.specs.formats.Encode.{encode}
use Rattle.totals_spec.specs.sums.Nan.{default_nan_of, select_all}
use Rattle.totals_spec.specs.rounding.Side.{leans_of, side_of}
use Rattle.totals_spec.specs.sums.Totals.{special, sum_rounded, reported, finite_total, without_nan}
use Rattle.totals_spec.specs.sums.Totals.{accepted, sum_refusal, sum_accepted, sum_answer}
use Rattle.totals_spec.specs.chain.Settled.{settled}

unfoldable pub pence_examples : Bool
pence_examples =
    pence_is (pos 13) 0 (pence_answer binary64 0x3fc0000000000000)
    && pence_is (negsuc 12) 0 (pence_answer binary64 0xbfc0000000000000)
    && pence_is (pos 0) 8 (pence_answer binary64 0x7ff0000000000000)

-- ---- the pence of a list

-- by the exact sum, and by the chain
abbrev pub both_are : ℤ → ℕ → Format → List ℕ → Bool
both_are x n f l = pence_is x n (sum_pence f l) && pence_is x n (chain_pence f l)

unfoldable pub sum_pence_examples : Bool
sum_pence_examples =
    -- 0.125 and −2^−60, which the sum rounded to binary64 does not show; 0.125 alone, which is a
    -- tie; both negated
    both_are (pos 12) 0 binary64 (0x3fc0000000000000 ∷ 0xbc30000000000000 ∷ [])
    && both_are (pos 13) 0 binary64 (0x3fc0000000000000 ∷ [])
    && both_are (negsuc 11) 0 binary64 (0xbfc0000000000000 ∷ 0x3c30000000000000 ∷ [])
    && both_are (negsuc 12) 0 binary64 (0xbfc0000000000000 ∷ [])
    -- beside a boundary of the chain: 0.125 and 2^−1000 less or more; 2^55 and 2^−1000 more, which
    -- a chain at 53 digits would know to 512 pence only
    && both_are (pos 12) 0 binary64 (0x3fc0000000000000 ∷ 0x8170000000000000 ∷ [])
    && both_are (pos 13) 0 binary64 (0x3fc0000000000000 ∷ 0x0170000000000000 ∷ [])
    && both_are (pos 3602879701896396800) 0 binary64 (0x4360000000000000 ∷ 0x0170000000000000 ∷ [])
    -- nothing; −2^−1074; 2^1000, 0.125, −2^1000
    && both_are (pos 0) 0 binary64 []
    && both_are (pos 0) 0 binary64 (0x8000000000000001 ∷ [])
    && both_are (pos 13) 0 binary64
    (0x7e70000000000000 ∷ 0x3fc0000000000000 ∷ 0xfe70000000000000 ∷ [])
    -- sums beyond binary16: 57344 twice, and its largest number, 65504, twice
    && both_are (pos 11468800) 0 binary16 (0x7b00 ∷ 0x7b00 ∷ [])
    && both_are (pos 13100800) 0 binary16 (0x7bff ∷ 0x7bff ∷ [])
    -- 92233720368547744, 14 and 9/128 are 2^63 − 0.96875 pence, of either sign; with 77/1024 they
    -- are 2^63 − 0.48046875, which is 2^63
    && both_are (pos 9223372036854775807) 0 binary64
    (0x43747ae147ae147a ∷ 0x402c000000000000 ∷ 0x3fb2000000000000 ∷ [])
    && both_are (negsuc 9223372036854775806) 0 binary64
    (0xc3747ae147ae147a ∷ 0xc02c000000000000 ∷ 0xbfb2000000000000 ∷ [])
    && both_are (pos 0) 8 binary64
    (0x43747ae147ae147a ∷ 0x402c000000000000 ∷ 0x3fb3400000000000 ∷ [])
    && both_are (pos 0) 8 binary64
    (0xc3747ae147ae147a ∷ 0xc02c000000000000 ∷ 0xbfb3400000000000 ∷ [])
    -- a bias of −3 and the kind's own: 8 and 24, 1/2 and 3/2
    && both_are (pos 3200) 0 (record { kind = 3; E = 2; W = 4; named = some (negsuc 2) })
    (1 ∷ 3 ∷ [])
    && both_are (pos 200) 0 (record { kind = 3; E = 2; W = 4; named = none }) (1 ∷ 3 ∷ [])
    -- a bias of −5: the least number, which is subnormal, is 1/16; once and twice
    && both_are (pos 6) 0 (half16 (negsuc 4)) (1 ∷ [])
    && both_are (pos 13) 0 (half16 (negsuc 4)) (1 ∷ 1 ∷ [])
    -- a bias of −2000, where a penny lies below the unit: the least number, and with its negative
    && both_are (pos 0) 8 (half16 (negsuc 1999)) (1 ∷ [])
    && both_are (pos 0) 0 (half16 (negsuc 1999)) (1 ∷ 0x8001 ∷ [])
    -- a list with an infinity, with infinities of both signs, with a quiet and with a signaling NaN
    && pence_is (pos 0) 8 (sum_pence binary64 (0x3fc0000000000000 ∷ 0x7ff0000000000000 ∷ []))
    && pence_is (pos 0) 8 (sum_pence binary64 (0x7ff0000000000000 ∷ 0xfff0000000000000 ∷ []))
    && pence_is (pos 0) 8 (sum_pence binary64 (0x3fc0000000000000 ∷ 0x7ff8000000000000 ∷ []))
    && pence_is (pos 0) 8 (sum_pence binary64 (0x7ff0000000000001 ∷ 0x3fc0000000000000 ∷ []))
    -- a stray bit behind a NaN; a format that is none, and a stray bit; a bias that may not be
    -- named
    && pence_at (pos 0) 7 1 (sum_pence binary16 (0x7e00 ∷ 0x10000 ∷ []))
    && pence_is (pos 0) 3
    (sum_pence (record { kind = 4; E = 5; W = 16; named = none }) (0x10000 ∷ []))
    && pence_is (pos 0) 3 (sum_pence (half16 (pos 268435457)) [])

pub pence-agree : Holds pence_examples
unfolding pence_examples pence_answer pence_of valid_format depth bias lift decode binary64
pence-agree = tt

pub sum-pence-agree : Holds sum_pence_examples
unfolding
    sum_pence_examples half16 binary64 binary16 sum_pence sum_figure pence_answer pence_of
    hundred_item nearest_whole whole_figure settled
    difference raised valid_format bias lift exponent_range depth origin fall grid rise
    valid_settings precision_of
    decode is_subnormal operand single product item pair_item plus_sum minus_sum top_of
    lost_end look_at half wrapped decide sum_of pass run chain size span climb
    dropped rounded_at overflows largest overflow number_of finished tiny_sum round_to round encode
    leans_of side_of default_nan_of select_all
    special sum_rounded reported finite_total without_nan accepted sum_refusal sum_accepted
    sum_answer
sum-pence-agree = tt
