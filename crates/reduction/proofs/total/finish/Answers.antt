-- The record of what is left of the sum.
use Rattle.std.proofs.Common.{refl}
use Rattle.totals_spec.specs.chain.Settled.{settled}
use Rattle.window.specs.Chain.{outcome_of, run_of}
use Rattle.reduction.proofs.total.finish.Goals as goal

pub finish_left-requires : goal.finish_left-requires
finish_left-requires c = (
  c.requires.0,
  c.requires.1,
  record { sum = settled (outcome_of c.args.sum); left = rw c.digits.ensures at c.left-left.ensures },
  c.requires.2.edge,
)

pub returns : goal.returns
returns c = c.finish_left.ensures (settled (outcome_of c.args.sum)) (run_of c.args.sum) (rw c.digits.ensures at c.left-left.ensures) refl refl
