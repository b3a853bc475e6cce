-- The settings are read alike.
use Rattle.std.proofs.Common.{◌∙◌}
use Rattle.format.specs.Settings.{settings_of}
use Rattle.values.specs.Tens.{ten_of}
use Rattle.as_given.proofs.Readings.{same_extended}
use Rattle.as_given.proofs.tens.ten_operand.Goals as goal

pub returns : goal.returns
returns c = (
  c.operand.ensures.0 ∙ same_extended (settings_of c.args.settings) _ c.read_settings.ensures (ten_of c.args.ten),
  c.operand.ensures.1,
)
