-- The settings are read alike.
use Rattle.std.proofs.Common.{◌∙◌}
use Rattle.format.specs.Settings.{settings_of}
use Rattle.binary.specs.Nans.{nan_of}
use Rattle.as_given.proofs.Readings.{same_selected}
use Rattle.as_given.proofs.operands.selected.Goals as goal

pub returns : goal.returns
returns c =
    c.selected.ensures ∙ same_selected (settings_of c.args.settings) _ c.read_settings.ensures (nan_of c.args.chosen)
