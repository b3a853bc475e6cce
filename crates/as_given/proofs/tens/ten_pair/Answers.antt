-- The settings are read alike.
use Rattle.format.specs.Settings.{settings_of}
use Rattle.values.specs.Tens.{ten_of}
use Rattle.as_given.proofs.Readings.{same_extended_pair}
use Rattle.as_given.proofs.tens.ten_pair.Goals as goal

pub returns : goal.returns
returns c =
    rw (← same_extended_pair (settings_of c.args.settings) _ c.read_settings.ensures (ten_of c.args.left, ten_of c.args.right))
    c.ten_pair.ensures
