-- The settings are read alike.
use Rattle.format.specs.Settings.{settings_of}
use Rattle.as_given.proofs.Readings.{same_decides}
use Rattle.as_given.proofs.scans.decided.Goals as goal

pub returns : goal.returns
returns c = (
  same_decides (settings_of c.args.settings) _ c.read_settings.ensures _ c.args.infinity_first c.args.scan.now c.decided.ensures.0,
  c.decided.ensures.1,
)
