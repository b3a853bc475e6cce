-- The settings are read alike.
use Rattle.format.specs.Settings.{settings_of}
use Rattle.format.specs.Layouts.{layout_of}
use Rattle.as_given.proofs.Readings.{same_pair}
use Rattle.as_given.proofs.terms.looked_pair.Goals as goal

pub returns : goal.returns
returns c =
    rw (← same_pair (settings_of c.args.settings) _ c.read_settings.ensures (layout_of c.args.layout) (c.args.left, c.args.right))
    c.looked_pair.ensures
