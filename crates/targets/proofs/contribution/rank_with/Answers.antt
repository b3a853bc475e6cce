-- The plain sum of the longer list.
use Rattle.std.proofs.Common.{arith, [], ◌∷◌}
use lib.ListN.{length-append}
use Rattle.totals_spec.proofs.refusals.AcceptedCalls.{sum-accepts}
use Rattle.targets_spec.specs.contribution.Contribution.{rank_with}
use Rattle.targets.proofs.contribution.rank_with.Goals as goal

pub invariant_of-longer : goal.invariant_of-longer
invariant_of-longer g c =
    record { room = omega (arith, (sum-accepts _ _ _ _ c.requires).few, length-append (g.E.Elements.list c.args.list) (c.args.last ∷ [])) }

pub returns : goal.returns
unfolding rank_with
returns g c = rw (c.rank_of.ensures, ← c.unstrayed_sum.ensures)
