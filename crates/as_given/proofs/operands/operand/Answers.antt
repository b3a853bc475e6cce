-- The settings are read alike.
use Rattle.std.proofs.Common.{◌∙◌}
use Rattle.format.specs.Settings.{settings_of}
use Rattle.format.specs.Layouts.{layout_of}
use Rattle.as_given.proofs.Readings.{same_operand}
use Rattle.as_given.proofs.operands.operand.Goals as goal

pub returns : goal.returns
returns c = (
  c.operand.ensures.0 ∙ same_operand (settings_of c.args.settings) _ c.read_settings.ensures (layout_of c.args.layout) c.args.bits,
  c.operand.ensures.1,
)
