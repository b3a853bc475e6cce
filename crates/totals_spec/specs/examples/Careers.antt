-- The careers C1 to C12 of the specification as the rows of a table, and its other examples, as
-- tests that the checker computes.
--
-- The last edges follow from the rules of the chain. A chain begins at T − 702, and without a pass
-- the edge is 0:
--   C1, C2, C3, C12   no pass: 0
--   C4, C6            T = 0, and the first pass is exact: −702
--   C5                T = 1000, so 298; there S = 0 and the lost bit is 0; the next one is max(298,
--   65) − 766 = −468, exact
--   C7                T = 0, so −702; n = 703, r = 649, d = 0: a boundary; the next edge is −702 −
--   701 = −1403, exact
--   C8, C9            T = 1023: 321
--   C10               T = −1074: −1776
--   C11               T = −600 − 600 + 1: −1901
use Rattle.std.specs.Prelude.{◌+◌, List, [], ◌∷◌, pos, negsuc, Bool, ◌&&◌, ◌++◌, replicate}
use Rattle.std.specs.Prelude.{T as Holds}
use Rattle.std.proofs.Math.Option.{none, some}
use Rattle.std.specs.Float.Ieee.{size, span, climb}
use Rattle.totals_spec.specs.examples.Rows.{Row, row, binary16, leans_to, small, refused_as}
use Rattle.totals_spec.specs.examples.Rows.{entered_as, pence_is, half16, answers, all_agree}
use Rattle.totals_spec.specs.chain.Chain.{half, pass, lost_end, look_at, wrapped, decide, sum_of}
use Rattle.totals_spec.specs.chain.Chain.{run, chain}
use Rattle.totals_spec.specs.rounding.Round.{round, largest, dropped, rounded_at, overflows}
use Rattle.totals_spec.specs.rounding.Round.{overflow, number_of, finished, tiny_sum, round_to}
use Rattle.totals_spec.specs.formats.Format.{binary64, bias, grid, valid_format, lift}
use Rattle.totals_spec.specs.formats.Format.{exponent_range, depth, origin, fall, rise}
use Rattle.totals_spec.specs.formats.Settings.{with_rounding, valid_settings, precision_of}
use Rattle.totals_spec.specs.sums.Totals.{sum_answer, dot_answer, special, sum_rounded, reported}
use Rattle.totals_spec.specs.sums.Totals.{finite_total, without_nan, accepted, sum_refusal}
use Rattle.totals_spec.specs.sums.Totals.{sum_accepted, dot_refusal, dot_accepted, dot_place}
use Rattle.totals_spec.specs.entries.Bytes.{sum_entry, values_in, entered, written}
use Rattle.totals_spec.specs.pence.Pence.{pence_answer, pence_of}
use Rattle.totals_spec.specs.Basics.{difference, raised}
use Rattle.totals_spec.specs.formats.Decode.{decode, is_subnormal, operand}
use Rattle.totals_spec.specs.terms.Terms.{single, product, item, pair_item, plus_sum, minus_sum}
use Rattle.totals_spec.specs.terms.Terms.{top_of}
use Rattle.totals_spec.specs.formats.Encode.{encode}
use Rattle.totals_spec.specs.sums.Nan.{default_nan_of, select_all}
use Rattle.totals_spec.specs.rounding.Side.{leans_of, side_of}

unfoldable pub careers : List Row
careers =
    -- C1: empty, toward negative
    row 4 0 [] 0 0x00 0 (pos 0) 0
    -- C2: −0
    ∷ row 0 0 (0x8000000000000000 ∷ []) 0x8000000000000000 0x00 0 (pos 0) 0
    -- C3: +0, −0, toward negative
    ∷ row 4 0 (0 ∷ 0x8000000000000000 ∷ []) 0x8000000000000000 0x00 0 (pos 0) 0
    -- C4: 1, −1
    ∷ row 0 0 (0x3ff0000000000000 ∷ 0xbff0000000000000 ∷ []) 0 0x00 1 (negsuc 701) 0
    -- C5: 2^1000, 1, −2^1000
    ∷ row 0 0
    (0x7e70000000000000 ∷ 0x3ff0000000000000 ∷ 0xfe70000000000000 ∷ []) 0x3ff0000000000000 0x00 2
    (negsuc 467) 0
    -- C6: 1, 2^−53
    ∷ row 0 0 (0x3ff0000000000000 ∷ 0x3ca0000000000000 ∷ []) 0x3ff0000000000000 0x10 1
    (negsuc 701) 1
    -- C7: 1, 2^−53, 2^−1000
    ∷ row 0 0
    (0x3ff0000000000000 ∷ 0x3ca0000000000000 ∷ 0x0170000000000000 ∷ []) 0x3ff0000000000001 0x50 2
    (negsuc 1402) 2
    -- C8: 7fefffffffffffff twice
    ∷ row 0 0 (0x7fefffffffffffff ∷ 0x7fefffffffffffff ∷ []) 0x7ff0000000000000 0x54 1 (pos 321) 3
    -- C9: C8 toward zero
    ∷ row 5 0 (0x7fefffffffffffff ∷ 0x7fefffffffffffff ∷ []) 0x7fefffffffffffff 0x14 1 (pos 321) 1
    -- C10: 0000000000000001
    ∷ row 0 0 (1 ∷ []) 1 0xa0 1 (negsuc 1775) 0
    -- C11: square of 2^−600
    ∷ row 0 2 (0x1a70000000000000 ∷ []) 0 0x38 1 (negsuc 1900) 1
    -- C12: magnitude of −∞, quiet NaN
    ∷ row 0 1 (0xfff0000000000000 ∷ 0x7ff8000000000000 ∷ []) 0x7ff0000000000000 0x00 0 (pos 0) 3
    ∷ []

-- ---- rows at the margins of the passes' rules, worked out by hand; binary64 has p = 53

unfoldable pub margins : List Row
margins =
    -- 1, 2^−638, 2^−1000: at −702 n = 703, r = 649 and d = 2^64, under the margin of 2^65: a
    -- boundary, and the next pass at −1403 is exact
    row 0 0 (0x3ff0000000000000 ∷ 0x1810000000000000 ∷ 0x0170000000000000
    ∷ []) 0x3ff0000000000000 0x10 2 (negsuc 1402) 1
    -- 1, 2^−637, 2^−1000: d = 2^65, so the first pass is final
    ∷ row 0 0
    (0x3ff0000000000000 ∷ 0x1820000000000000 ∷ 0x0170000000000000 ∷ []) 0x3ff0000000000000 0x10 1
    (negsuc 701) 1
    -- 1, 2^−53, −2^−702, −2^−1000: d = 2^649 − 1, near the multiple above, which is a tie; the sum
    -- lies below it
    ∷ row 0 0
    (0x3ff0000000000000 ∷ 0x3ca0000000000000 ∷ 0x9410000000000000 ∷ 0x8170000000000000
    ∷ []) 0x3ff0000000000000 0x10 2 (negsuc 1402) 1
    -- 1, −1, 2^−580, 2^−1000: n = 123 = p + 70, d = 0: a boundary
    ∷ row 0 0
    (0x3ff0000000000000 ∷ 0xbff0000000000000 ∷ 0x1bb0000000000000 ∷ 0x0170000000000000
    ∷ []) 0x1bb0000000000000 0x10 2 (negsuc 1402) 1
    -- 1, −1, 2^−581, 2^−1000: n = 122, so it goes on at −702 + 122 − 766
    ∷ row 0 0
    (0x3ff0000000000000 ∷ 0xbff0000000000000 ∷ 0x1ba0000000000000 ∷ 0x0170000000000000
    ∷ []) 0x1ba0000000000000 0x10 2 (negsuc 1345) 1
    -- 2^1000, 2^−338, 2^−1074: a boundary at 298, and at −403 S = 2^65, n = 66: the side is known
    ∷ row 0 0 (0x7e70000000000000 ∷ 0x2ad0000000000000 ∷ 1 ∷ []) 0x7e70000000000000 0x90 2
    (negsuc 402) 1
    -- 2^1000, 2^−339, 2^−1074: n = 65, so it goes on at −403 + 65 − 766, and that pass is exact
    ∷ row 0 0 (0x7e70000000000000 ∷ 0x2ac0000000000000 ∷ 1 ∷ []) 0x7e70000000000000 0x90 3
    (negsuc 1103) 1
    -- 2^1000, −2^−338, 2^−1074: below the boundary
    ∷ row 0 0 (0x7e70000000000000 ∷ 0xaad0000000000000 ∷ 1 ∷ []) 0x7e70000000000000 0xd0 2
    (negsuc 402) 2
    -- C5 in another order
    ∷ row 0 0
    (0x3ff0000000000000 ∷ 0x7e70000000000000 ∷ 0xfe70000000000000 ∷ []) 0x3ff0000000000000 0x00 2
    (negsuc 467) 0
    -- squares of 2^−538 twice and of 2^−600: 2^−1075 + 2^−1200, just above half of the least
    -- number; rounded to 53 digits first it would be a tie
    ∷ row 0 2 (0x1e50000000000000 ∷ 0x1e50000000000000 ∷ 0x1a70000000000000 ∷ []) 1 0x78 1
    (negsuc 1776) 2
    -- −0, 1, −1: a zero in the list has no say where terms cancel
    ∷ row 0 0 (0x8000000000000000 ∷ 0x3ff0000000000000 ∷ 0xbff0000000000000 ∷ []) 0 0x00 1
    (negsuc 701) 0
    -- C6 and C7 negated: what lay below lies above, and the other way round
    ∷ row 0 0 (0xbff0000000000000 ∷ 0xbca0000000000000 ∷ []) 0xbff0000000000000 0x10 1
    (negsuc 701) 2
    ∷ row 0 0
    (0xbff0000000000000 ∷ 0xbca0000000000000 ∷ 0x8170000000000000 ∷ []) 0xbff0000000000001 0x50 2
    (negsuc 1402) 1
    ∷ []

unfoldable pub side_examples : Bool
side_examples =
    -- 1 and 2^−11 toward positive; their negatives toward positive and toward negative
    leans_to 0x3c01 0x50 2 (sum_answer binary16 (with_rounding 3) 0 (0x3c00 ∷ 0x1000 ∷ []))
    && leans_to 0xbc00 0x10 2 (sum_answer binary16 (with_rounding 3) 0 (0xbc00 ∷ 0x9000 ∷ []))
    && leans_to 0xbc01 0x50 1 (sum_answer binary16 (with_rounding 4) 0 (0xbc00 ∷ 0x9000 ∷ []))
    -- the largest number twice: toward zero and to an infinity, of either sign; NoInf's NaN, and in
    -- Finite the largest number itself
    && leans_to 0x7bff 0x14 1 (sum_answer binary16 (with_rounding 5) 0 (0x7bff ∷ 0x7bff ∷ []))
    && leans_to 0xfbff 0x14 2 (sum_answer binary16 (with_rounding 5) 0 (0xfbff ∷ 0xfbff ∷ []))
    && leans_to 0x7c00 0x54 3 (sum_answer binary16 (with_rounding 0) 0 (0x7bff ∷ 0x7bff ∷ []))
    && leans_to 0xfc00 0x54 3 (sum_answer binary16 (with_rounding 4) 0 (0xfbff ∷ 0xfbff ∷ []))
    && leans_to 0x7f 0x14 3
    (sum_answer (record { kind = 1; E = 4; W = 8; named = none }) (with_rounding 0) 0
    (0x7e ∷ 0x7e ∷ []))
    && leans_to 0x7 0x14 1
    (sum_answer (record { kind = 3; E = 2; W = 4; named = none }) (with_rounding 0) 0
    (0x7 ∷ 0x7 ∷ []))
    -- −2^−1074 flushed to −0; 1 and 2^−1074, taken as zero
    && leans_to 0x8000000000000000 0xb8 2
    (sum_answer binary64 (small 1 0) 0 (0x8000000000000001 ∷ []))
    && leans_to 0x3ff0000000000000 0x80 0
    (sum_answer binary64 (small 0 1) 0 (0x3ff0000000000000 ∷ 1 ∷ []))
    -- 1 × 1 and 2^−1074 × −2^−1074
    && leans_to 0x3ff0000000000000 0xd0 2
    (dot_answer binary64 (with_rounding 0) (0x3ff0000000000000 ∷ 1 ∷ [])
    (0x3ff0000000000000 ∷ 0x8000000000000001 ∷ []))

unfoldable pub refusals : Bool
refusals =
    -- 1: 7 bytes
    entered_as 1 (replicate 24 7)
    (sum_entry binary64 (with_rounding 0) 0 (replicate 7 0) (replicate 24 7))
    -- 2: 23 bytes
    && entered_as 2 (replicate 23 7) (sum_entry binary64 (with_rounding 0) 0 [] (replicate 23 7))
    -- 3: E 11, W 12
    && refused_as 3 0
    (sum_answer (record { kind = 0; E = 11; W = 12; named = none }) (with_rounding 0) 0 [])
    -- 4: rounding 8; a summand above 2
    && refused_as 4 0 (sum_answer binary64 (with_rounding 8) 0 [])
    && refused_as 4 0 (sum_answer binary64 (with_rounding 0) 3 [])
    -- 5: 2 and 3 values
    && refused_as 5 0 (dot_answer binary64 (with_rounding 0) (0 ∷ 0 ∷ []) (0 ∷ 0 ∷ 0 ∷ []))
    -- 7: W 16, value 10000 hex
    && refused_as 7 1 (sum_answer binary16 (with_rounding 0) 0 (0 ∷ 0x10000 ∷ []))
    && refused_as 7 0 (dot_answer binary16 (with_rounding 0) (0 ∷ 0 ∷ []) (0x10000 ∷ 0 ∷ []))
    -- several: the first; in a dot the first of the left list, even where the right list has one at
    -- a lower index
    && refused_as 7 1
    (sum_answer binary16 (with_rounding 0) 0 (0x3c00 ∷ 0x20000 ∷ 0x3c00 ∷ 0x10000 ∷ []))
    && refused_as 7 1
    (dot_answer binary16 (with_rounding 0) (0 ∷ 0x20000 ∷ 0x10000 ∷ []) (0x10000 ∷ 0 ∷ 0 ∷ []))
    && refused_as 7 1
    (dot_answer binary16 (with_rounding 0) (0 ∷ 0 ∷ 0 ∷ 0 ∷ []) (0 ∷ 0x10000 ∷ 0 ∷ 0x10000 ∷ []))
    && entered_as (7 + 256) (replicate 24 7)
    (sum_entry binary16 (with_rounding 0) 0 (replicate 10 0 ++ (1 ∷ replicate 5 0))
    (replicate 24 7))
    -- two at once: the smaller number
    && entered_as 1 (replicate 23 7)
    (sum_entry binary64 (with_rounding 0) 0 (replicate 7 0) (replicate 23 7))
    && entered_as 2 (replicate 23 7) (sum_entry binary64 (with_rounding 8) 0 [] (replicate 23 7))
    && refused_as 3 0
    (sum_answer (record { kind = 4; E = 5; W = 16; named = none }) (with_rounding 8) 0
    (0x10000 ∷ []))
    && refused_as 4 0 (dot_answer binary16 (with_rounding 8) (0x10000 ∷ []) [])
    && refused_as 5 0 (dot_answer binary16 (with_rounding 0) (0x10000 ∷ []) [])

-- ---- an accepted byte entry: 1 and 2^−53 (C6), and two bytes behind the 24

unfoldable pub entry_example : Bool
entry_example =
    entered_as 0
    (0 ∷ 0 ∷ 0 ∷ 0 ∷ 0 ∷ 0 ∷ 0xf0 ∷ 0x3f ∷ 0x10 ∷ 0 ∷ 1 ∷ 0 ∷ 0 ∷ 0 ∷ 0 ∷ 0 ∷ 1 ∷ 0 ∷ 0 ∷ 0 ∷ 0 ∷ 0
    ∷ 0 ∷ 0 ∷ 7 ∷ 7 ∷ [])
    (sum_entry binary64 (with_rounding 0) 0
    (0 ∷ 0 ∷ 0 ∷ 0 ∷ 0 ∷ 0 ∷ 0xf0 ∷ 0x3f ∷ 0 ∷ 0 ∷ 0 ∷ 0 ∷ 0 ∷ 0 ∷ 0xa0 ∷ 0x3c ∷ [])
    (replicate 26 7))

unfoldable pub biases : Bool
biases =
    -- 8 and 24 are 32, where 1 is no number of the format; and the same with its kind's own bias,
    -- of 1/2 and 3/2
    answers 4 0x80 0 (negsuc 697)
    (sum_answer (record { kind = 3; E = 2; W = 4; named = some (negsuc 2) }) (with_rounding 0) 0
    (1 ∷ 3 ∷ []))
    && answers 4 0x80 0 (negsuc 701)
    (sum_answer (record { kind = 3; E = 2; W = 4; named = none }) (with_rounding 0) 0 (1 ∷ 3 ∷ []))
    -- the kind's own, and 0: 3c00 twice is twice 1, and twice 2^15
    && answers 0x4000 0 0 (negsuc 701)
    (sum_answer (half16 (pos 15)) (with_rounding 0) 0 (0x3c00 ∷ 0x3c00 ∷ []))
    && answers 0x4000 0 0 (negsuc 686)
    (sum_answer (half16 (pos 0)) (with_rounding 0) 0 (0x3c00 ∷ 0x3c00 ∷ []))
    -- the farthest that may be named: 2^(15 − bias) twice
    && answers 0x4000 0 0 (negsuc 268436142)
    (sum_answer (half16 (pos 268435456)) (with_rounding 0) 0 (0x3c00 ∷ 0x3c00 ∷ []))
    && answers 0x4000 0 0 (pos 268434769)
    (sum_answer (half16 (negsuc 268435455)) (with_rounding 0) 0 (0x3c00 ∷ 0x3c00 ∷ []))
    -- the square of 2^(1 − bias): 2^−78, far below the least number 2^−49; 2^82, above 2^71
    && answers 0 0x38 1 (negsuc 778)
    (sum_answer (half16 (pos 40)) (with_rounding 0) 2 (0x0400 ∷ []))
    && answers 0x7c00 0x54 3 (negsuc 618)
    (sum_answer (half16 (negsuc 39)) (with_rounding 0) 2 (0x0400 ∷ []))
    -- the square of the least number, 2^1991, whose grid lies below the products' unit; toward zero
    -- the largest number, below it
    && answers 0x7c00 0xd4 3 (pos 3281)
    (sum_answer (half16 (negsuc 1999)) (with_rounding 0) 2 (1 ∷ []))
    && answers 0x7bff 0x94 1 (pos 3281)
    (sum_answer (half16 (negsuc 1999)) (with_rounding 5) 2 (1 ∷ []))
    -- in Fnuz the named bias takes the place of 2^(E − 1): 30 is 3000 pence, and with the kind's
    -- own 8 it is 24000
    && pence_is (pos 3000) 0
    (pence_answer (record { kind = 2; E = 4; W = 8; named = some (pos 11) }) 0x7f)
    && pence_is (pos 24000) 0 (pence_answer (record { kind = 2; E = 4; W = 8; named = none }) 0x7f)
    && pence_is (pos 800) 0
    (pence_answer (record { kind = 3; E = 2; W = 4; named = some (negsuc 2) }) 1)
    -- one beyond
    && refused_as 3 0 (sum_answer (half16 (pos 268435457)) (with_rounding 0) 0 [])
    && refused_as 3 0 (dot_answer (half16 (negsuc 268435456)) (with_rounding 0) [] [])
    && pence_is (pos 0) 3 (pence_answer (half16 (pos 268435457)) 0)

-- ==== THE THEOREMS: each test computes to true. The lines under `unfolding` name every definition that takes part

pub careers-agree : Holds (all_agree careers)
unfolding
    binary64 with_rounding careers all_agree
    difference raised valid_format bias lift exponent_range depth origin fall grid rise
    valid_settings precision_of
    decode is_subnormal operand single product item pair_item plus_sum minus_sum top_of
    lost_end look_at half wrapped decide sum_of pass run chain size span climb
    dropped rounded_at overflows largest overflow number_of finished tiny_sum round_to round encode
    leans_of side_of default_nan_of select_all
    special sum_rounded reported finite_total without_nan accepted sum_refusal sum_accepted
    sum_answer
careers-agree = tt

pub margins-agree : Holds (all_agree margins)
unfolding
    binary64 with_rounding margins all_agree
    difference raised valid_format bias lift exponent_range depth origin fall grid rise
    valid_settings precision_of
    decode is_subnormal operand single product item pair_item plus_sum minus_sum top_of
    lost_end look_at half wrapped decide sum_of pass run chain size span climb
    dropped rounded_at overflows largest overflow number_of finished tiny_sum round_to round encode
    leans_of side_of default_nan_of select_all
    special sum_rounded reported finite_total without_nan accepted sum_refusal sum_accepted
    sum_answer
margins-agree = tt

pub sides-agree : Holds side_examples
unfolding
    side_examples small binary64 binary16 with_rounding
    difference raised valid_format bias lift exponent_range depth origin fall grid rise
    valid_settings precision_of
    decode is_subnormal operand single product item pair_item plus_sum minus_sum top_of
    lost_end look_at half wrapped decide sum_of pass run chain size span climb
    dropped rounded_at overflows largest overflow number_of finished tiny_sum round_to round encode
    leans_of side_of default_nan_of select_all
    special sum_rounded reported finite_total without_nan accepted sum_refusal sum_accepted
    sum_answer dot_refusal dot_accepted dot_answer
sides-agree = tt

pub refusals-agree : Holds refusals
unfolding
    refusals binary64 binary16 with_rounding valid_format valid_settings sum_refusal sum_answer
    dot_refusal dot_answer dot_place values_in entered sum_entry
refusals-agree = tt

pub entry-agrees : Holds entry_example
unfolding
    entry_example values_in written entered sum_entry binary64 with_rounding
    difference raised valid_format bias lift exponent_range depth origin fall grid rise
    valid_settings precision_of
    decode is_subnormal operand single product item pair_item plus_sum minus_sum top_of
    lost_end look_at half wrapped decide sum_of pass run chain size span climb
    dropped rounded_at overflows largest overflow number_of finished tiny_sum round_to round encode
    leans_of side_of default_nan_of select_all
    special sum_rounded reported finite_total without_nan accepted sum_refusal sum_accepted
    sum_answer
entry-agrees = tt

pub biases-agree : Holds biases
unfolding
    biases half16 with_rounding pence_answer pence_of
    difference raised valid_format bias lift exponent_range depth origin fall grid rise
    valid_settings precision_of
    decode is_subnormal operand single product item pair_item plus_sum minus_sum top_of
    lost_end look_at half wrapped decide sum_of pass run chain size span climb
    dropped rounded_at overflows largest overflow number_of finished tiny_sum round_to round encode
    leans_of side_of default_nan_of select_all
    special sum_rounded reported finite_total without_nan accepted sum_refusal sum_accepted
    sum_answer dot_refusal dot_answer
biases-agree = tt
