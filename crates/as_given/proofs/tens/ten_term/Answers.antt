-- The settings and the summand are read alike.
use Rattle.format.specs.Settings.{settings_of}
use Rattle.values.specs.Tens.{ten_of}
use Rattle.binary.specs.Summands.{summand_in}
use Rattle.as_given.proofs.Readings.{same_extended_item}
use Rattle.as_given.proofs.tens.ten_term.Goals as goal

pub returns-clause-stands_for : goal.returns-clause-stands_for
returns-clause-stands_for c =
    let same =
    same_extended_item (settings_of c.args.settings) _ c.read_settings.ensures (summand_in c.read_summand.result)
    (ten_of c.args.ten) in
    rw (← c.read_summand.ensures, ← same) c.ten_term.ensures.stands_for
