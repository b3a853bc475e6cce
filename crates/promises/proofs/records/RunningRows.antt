-- The rows of a running total of squares, computed.
use Rattle.std.specs.Prelude.{T as Holds}
use Rattle.totals_spec.specs.Basics.{difference, raised}
use Rattle.totals_spec.specs.formats.Format.{binary64, valid_format, bias, lift, exponent_range}
use Rattle.totals_spec.specs.formats.Format.{depth, origin, fall, grid, rise}
use Rattle.totals_spec.specs.formats.Settings.{with_rounding, valid_settings, precision_of}
use Rattle.totals_spec.specs.formats.Decode.{decode, is_subnormal, operand}
use Rattle.totals_spec.specs.terms.Terms.{single, product, item, plus_sum, minus_sum}
use Rattle.totals_spec.specs.rounding.Round.{dropped, rounded_at, overflows, largest, overflow}
use Rattle.totals_spec.specs.rounding.Round.{number_of, finished, tiny_sum, round_to, round}
use Rattle.totals_spec.specs.formats.Encode.{encode}
use Rattle.totals_spec.specs.rounding.Side.{leans_of, side_of}
use Rattle.totals_spec.specs.sums.Totals.{special, sum_rounded}
use Rattle.std.specs.Float.Ieee.{size, span, climb}
use Rattle.totals_spec.specs.rounding.IntoFormat.{reading_with}
use Rattle.running_spec.specs.State.{seen, held, state_of, marks}
use Rattle.running_spec.specs.Finish.{finish_into, into_marks}
use Rattle.promises.specs.HeldRunningRows.{into_rows, Into-agree}

computed : Holds into_rows
unfolding
    into_rows binary64 reading_with with_rounding
    difference raised valid_format bias lift exponent_range depth origin fall grid rise valid_settings precision_of
    decode is_subnormal operand single product item plus_sum minus_sum
    dropped rounded_at overflows largest overflow number_of finished tiny_sum round_to round encode leans_of side_of
    special sum_rounded size span climb
    seen held state_of marks finish_into into_marks
computed = tt

pub into-agree : Into-agree
into-agree = computed
