-- The running choice among NaNs.
use Rattle.std.specs.Prelude.{Option, Some, None, false, cond}
use Rattle.totals_spec.specs.formats.Settings as env
use Rattle.totals_spec.specs.formats.Decode.{Unpacked, zero_of, nan, is_nan}
use Rattle.totals_spec.specs.sums.Nan as nans
use Rattle.binary.specs.declared.nan.Nan.{Nan}

-- the running choice: no NaN yet is a zero, as in `chosen_of`
abbrev pub nan_of : Option Nan → Unpacked
nan_of (Some n) = nan n.negative n.signaling n.payload
nan_of None = zero_of false

-- the choice among operands as the code holds it: where it is no NaN there is none yet
abbrev pub if_nan : Unpacked → Unpacked
if_nan value = cond (is_nan value) value (zero_of false)

-- the choice at the end, made quiet, as in `by_rule`
abbrev pub selected_by : env.Propagation → env.Settings → Unpacked → Unpacked
selected_by env.signaling_first settings value = nans.quiet value
selected_by env.first_operand settings value = nans.quiet value
selected_by env.larger_significand settings value = nans.quiet value
selected_by env.default_nan settings value = nans.default_nan_of settings

unfoldable pub selected_of : env.Settings → Unpacked → Unpacked
selected_of settings value = selected_by (env.propagation_of settings.nan_propagation) settings value
