-- The settings and the summand are read alike.
use Rattle.format.specs.Settings.{settings_of}
use Rattle.format.specs.Layouts.{layout_of}
use Rattle.binary.specs.Summands.{summand_in}
use Rattle.as_given.proofs.Readings.{same_item}
use Rattle.as_given.proofs.terms.element_term.Goals as goal

pub returns-clause-gives : goal.returns-clause-gives
returns-clause-gives c =
    let same =
    same_item (settings_of c.args.settings) _ c.read_settings.ensures (layout_of c.args.layout)
    (summand_in c.read_summand.result) c.args.bits in
    rw (← c.read_summand.ensures, ← same) c.element_term.ensures.gives
