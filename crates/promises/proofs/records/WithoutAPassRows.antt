-- The rows are what the definitions give. The lines under `unfolding` name every definition that
-- takes part.
use Rattle.totals_spec.specs.Basics.{difference, raised}
use Rattle.totals_spec.specs.formats.Format.{valid_format, bias, lift, exponent_range, depth}
use Rattle.totals_spec.specs.formats.Format.{origin, fall, grid, rise}
use Rattle.totals_spec.specs.formats.Settings.{valid_settings, precision_of}
use Rattle.totals_spec.specs.formats.Decode.{decode, is_subnormal, operand}
use Rattle.totals_spec.specs.formats.Encode.{encode}
use Rattle.totals_spec.specs.sums.Nan.{default_nan_of, select_all}
use Rattle.totals_spec.specs.terms.Terms.{single, product, item, pair_item, plus_sum, minus_sum}
use Rattle.totals_spec.specs.terms.Terms.{top_of}
use Rattle.totals_spec.specs.chain.Chain.{lost_end, look_at, half, wrapped, decide, sum_of, pass}
use Rattle.totals_spec.specs.chain.Chain.{run, chain}
use Rattle.totals_spec.specs.rounding.Round.{dropped, rounded_at, overflows, largest, overflow}
use Rattle.totals_spec.specs.rounding.Round.{number_of, finished, tiny_sum, round_to, round}
use Rattle.totals_spec.specs.rounding.Side.{leans_of, side_of}
use Rattle.totals_spec.specs.sums.Totals.{special, sum_rounded, reported, finite_total, without_nan}
use Rattle.totals_spec.specs.sums.Totals.{accepted, sum_refusal, sum_accepted, sum_answer}
use Rattle.totals_spec.specs.sums.Totals.{dot_refusal, dot_place, dot_accepted, dot_answer}
use Rattle.std.specs.Float.Ieee.{size}
use Rattle.std.specs.Prelude.{T as Holds}
use Rattle.promises.specs.SpecialRows.{with_rules, rows_agree, special_rows, Special-agree}

computed : Holds (rows_agree special_rows)
unfolding
    with_rules rows_agree special_rows
    difference raised valid_format bias lift exponent_range depth origin fall grid rise valid_settings precision_of
    decode is_subnormal operand single product item pair_item plus_sum minus_sum top_of
    lost_end look_at half wrapped decide sum_of pass run chain size
    dropped rounded_at overflows largest overflow number_of finished tiny_sum round_to round encode leans_of side_of default_nan_of select_all
    special sum_rounded reported finite_total without_nan accepted sum_refusal sum_accepted sum_answer
    dot_refusal dot_place dot_accepted dot_answer
computed = tt

pub special-agree : Special-agree
special-agree = computed
