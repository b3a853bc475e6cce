-- The settings are read alike.
use Rattle.std.proofs.Common.{◌∙◌}
use Rattle.format.specs.Settings.{settings_of}
use Rattle.as_given.proofs.Readings.{same_default}
use Rattle.as_given.proofs.operands.default_nan.Goals as goal

pub returns : goal.returns
returns c = c.default_nan.ensures ∙ same_default (settings_of c.args.settings) _ c.read_settings.ensures
