-- The settings that the code's numbers of them are.
use Rattle.totals_spec.specs.formats.Settings as spec
use Rattle.format.specs.declared.settings.Settings.{Settings}

abbrev pub settings_of : Settings → spec.Settings
settings_of settings = record {
  rounding = settings.rounding;
  tininess = settings.tininess;
  nan_propagation = settings.nan_propagation;
  default_nan_sign = settings.default_nan_negative;
  flush_to_zero = settings.flush_to_zero;
  denormals_are_zero = settings.denormals_are_zero;
  saturate = settings.saturate;
  precision = settings.precision;
}
