-- Each half keeps that below low the sum is below the wanted total, and at high it is not.
use Rattle.std.proofs.Common.{◌-◌}
use Rattle.format.specs.Layouts.{layout_of}
use Rattle.format.specs.Environments.{env_of}
use Rattle.targets.specs.Contributions.{Halving}
use Rattle.targets.proofs.contribution.halved.Given as goal

abbrev pub invariant-loop-low : goal.invariant-loop-low
invariant-loop-low g l = Halving (layout_of l.layout) (env_of l.env) (g.E.Elements.list l.list) l.wanted l.low l.high

abbrev pub decreases-loop-low : goal.decreases-loop-low
decreases-loop-low g l = l.high - l.low
