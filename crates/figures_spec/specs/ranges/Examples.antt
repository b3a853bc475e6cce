-- Examples of ranges, as tests that the checker computes.
use Rattle.std.specs.Prelude.{ℕ, [], ◌+◌, ◌^◌, Bool, ◌&&◌, eqb, List, ◌∷◌, T as Holds}
use Rattle.std.specs.Float.Ieee.{size, span, climb}
use Rattle.totals_spec.specs.Basics.{same_list, difference, raised}
use Rattle.totals_spec.specs.formats.Format.{binary64, valid_format, bias, lift, exponent_range}
use Rattle.totals_spec.specs.formats.Format.{depth, origin, fall, grid, rise}
use Rattle.totals_spec.specs.formats.Settings.{with_rounding, valid_settings, precision_of}
use Rattle.totals_spec.specs.formats.Decode.{decode, is_subnormal, operand}
use Rattle.totals_spec.specs.terms.Terms.{single, product, item, plus_sum, minus_sum, top_of}
use Rattle.totals_spec.specs.chain.Chain.{lost_end, look_at, half, wrapped, decide, sum_of, pass}
use Rattle.totals_spec.specs.chain.Chain.{run, chain}
use Rattle.totals_spec.specs.rounding.Round.{dropped, rounded_at, overflows, largest, overflow}
use Rattle.totals_spec.specs.rounding.Round.{number_of, finished, tiny_sum, round_to, round}
use Rattle.totals_spec.specs.formats.Encode.{encode}
use Rattle.totals_spec.specs.sums.Nan.{default_nan_of, select_all}
use Rattle.totals_spec.specs.rounding.Side.{leans_of, side_of}
use Rattle.totals_spec.specs.sums.Totals.{special, sum_rounded, reported, finite_total, without_nan}
use Rattle.totals_spec.specs.sums.Totals.{accepted, sum_refusal, sum_accepted, sum_answer}
use Rattle.figures_spec.specs.ranges.Ranges.{Range, range_answer, figure_worth, range_refusal}
use Rattle.figures_spec.specs.ranges.Ranges.{lower_total, upper_total}
use Rattle.figures_spec.specs.ranges.Entry.{RangeEntry, range_entry}

abbrev one : ℕ
one = 0x3ff0000000000000

-- the greatest double, an infinity and a NaN; the sign bit makes a figure negative
abbrev most : ℕ
most = 0x7fefffffffffffff

abbrev infinite : ℕ
infinite = 0x7ff0000000000000

abbrev not_a_number : ℕ
not_a_number = 0x7ff8000000000000

abbrev minus : ℕ → ℕ
minus b = 2 ^ 63 + b

abbrev pair_is : (lower upper : ℕ) → Range → Bool
pair_is a b r = eqb r.lower a && eqb r.upper b && eqb r.refusal 0 && eqb r.place 0

abbrev refused_with : ℕ → Range → Bool
refused_with n r = eqb r.lower 0 && eqb r.upper 0 && eqb r.refusal n && eqb r.place 0

abbrev leaves : ℕ → (firsts seconds pair : List ℕ) → RangeEntry → Bool
leaves n xs ys l e = eqb e.code n && same_list e.firsts xs && same_list e.seconds ys
    && same_list e.pair l

unfoldable pub range_examples : Bool
range_examples =
    -- the greatest double twice, and its negative twice
    pair_is most infinite (range_answer (0 ∷ 0 ∷ []) (most ∷ most ∷ []) (0 ∷ 0 ∷ []) 0)
    && pair_is (minus infinite) (minus most)
    (range_answer (0 ∷ 0 ∷ []) (minus most ∷ minus most ∷ []) (0 ∷ 0 ∷ []) 0)
    -- 1 and 2^−53; a figure that is not used may be anything
    && pair_is one (one + 1)
    (range_answer (0 ∷ 0 ∷ []) (one ∷ 0x3ca0000000000000 ∷ []) (not_a_number ∷ infinite ∷ []) 0)
    -- their negatives
    && pair_is (minus (one + 1)) (minus one)
    (range_answer (0 ∷ 0 ∷ []) (minus one ∷ 0xbca0000000000000 ∷ []) (0 ∷ 0 ∷ []) 0)
    -- between −100 and 200, and a missing one under 1000
    && pair_is 0xc059000000000000 0x4092c00000000000
    (range_answer (1 ∷ 2 ∷ []) (0xc059000000000000 ∷ not_a_number ∷ [])
    (0x4069000000000000 ∷ not_a_number ∷ []) 0x408f400000000000)
    -- between the greatest double's negative and itself, alone and beside 1
    && pair_is (minus most) most (range_answer (1 ∷ []) (minus most ∷ []) (most ∷ []) 0)
    && pair_is (minus most) infinite
    (range_answer (1 ∷ 0 ∷ []) (minus most ∷ one ∷ []) (most ∷ 0 ∷ []) 0)
    -- the least number beside itself or its negative
    && pair_is 0 2 (range_answer (1 ∷ 0 ∷ []) (minus 1 ∷ 1 ∷ []) (1 ∷ 0 ∷ []) 0)
    -- zeros are +0: −0, then 1 and −1, then from +0 to −0; a missing one under −0; −0 alone;
    -- nothing
    && pair_is 0 0
    (range_answer (0 ∷ 0 ∷ 0 ∷ 1 ∷ []) (minus 0 ∷ one ∷ minus one ∷ 0 ∷ [])
    (0 ∷ 0 ∷ 0 ∷ minus 0 ∷ []) 0)
    && pair_is 0 0 (range_answer (2 ∷ []) (0 ∷ []) (0 ∷ []) (minus 0))
    && pair_is 0 0 (range_answer (0 ∷ []) (minus 0 ∷ []) (0 ∷ []) 0)
    && pair_is 0 0 (range_answer [] [] [] 0)
    -- 5, before 11
    && refused_with 5 (range_answer (0 ∷ 0 ∷ []) (0 ∷ 0 ∷ []) (0 ∷ 0 ∷ 0 ∷ []) not_a_number)
    && refused_with 5 (range_answer (0 ∷ []) [] [] 0)
    -- 11: a ceiling that is a NaN, infinite, below 0, with nothing missing
    && refused_with 11 (range_answer [] [] [] not_a_number)
    && refused_with 11 (range_answer (0 ∷ []) (0 ∷ []) (0 ∷ []) infinite)
    && refused_with 11 (range_answer (0 ∷ []) (0 ∷ []) (0 ∷ []) (minus 1))
    -- 11: a tag of 3; a used figure not finite; a low above its high, of either sign
    && refused_with 11 (range_answer (3 ∷ []) (0 ∷ []) (0 ∷ []) 0)
    && refused_with 11 (range_answer (0 ∷ []) (infinite ∷ []) (0 ∷ []) 0)
    && refused_with 11 (range_answer (1 ∷ []) (0 ∷ []) (not_a_number ∷ []) 0)
    && refused_with 11 (range_answer (1 ∷ []) ((one + 1) ∷ []) (one ∷ []) 0)
    && refused_with 11 (range_answer (1 ∷ []) (minus one ∷ []) (minus (one + 1) ∷ []) 0)
    -- the entry: what it writes, of each tag, 2 before 5, and a refused call
    && leaves 0 (most ∷ most ∷ []) (most ∷ most ∷ []) (most ∷ infinite ∷ 7 ∷ [])
    (range_entry (0 ∷ 0 ∷ []) (most ∷ most ∷ []) (0 ∷ 5 ∷ []) 0 (7 ∷ 7 ∷ 7 ∷ []))
    && leaves 0 (minus one ∷ 0 ∷ []) (0 ∷ one ∷ []) (minus one ∷ one ∷ [])
    (range_entry (1 ∷ 2 ∷ []) (minus one ∷ not_a_number ∷ []) (0 ∷ 5 ∷ []) one (7 ∷ 7 ∷ []))
    && leaves 2 [] [] (7 ∷ []) (range_entry (0 ∷ []) [] [] 0 (7 ∷ []))
    && leaves 11 (5 ∷ []) (6 ∷ []) (7 ∷ 7 ∷ [])
    (range_entry (3 ∷ []) (5 ∷ []) (6 ∷ []) 0 (7 ∷ 7 ∷ []))

-- THE THEOREM: the tests compute to true
pub ranges-agree : Holds range_examples
unfolding
    range_examples range_entry range_answer range_refusal lower_total upper_total figure_worth
    binary64 with_rounding
    difference raised valid_format bias lift exponent_range depth origin fall grid rise
    valid_settings precision_of
    decode is_subnormal operand single product item plus_sum minus_sum top_of
    lost_end look_at half wrapped decide sum_of pass run chain size span climb
    dropped rounded_at overflows largest overflow number_of finished tiny_sum round_to round encode
    leans_of side_of default_nan_of select_all
    special sum_rounded reported finite_total without_nan accepted sum_refusal sum_accepted
    sum_answer
ranges-agree = tt
