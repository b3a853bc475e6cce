-- The chain so far is that of the definitions, and each pass that goes on lowers its edge.
use Rattle.std.proofs.Common.{◌<◌}
use Rattle.totals_spec.specs.terms.Terms.{terms}
use Rattle.window.proofs.Walked.{Walked}
use Rattle.reduction.proofs.walk.within.Given as goal

abbrev pub invariant-loop-next : goal.invariant-loop-next
invariant-loop-next g l = Walked l.digits (terms (g.T.Terms.items l.list)) l.chain × (l.chain.passes < g.A.Allowance.allowed l.allowance)

abbrev pub decreases-loop-next : goal.decreases-loop-next
decreases-loop-next g l = l.chain.edge
