-- The examples, which the checker computes where they are defined.
use Rattle.totals_spec.specs.pence.Promises.{Sum-pence-agree}
use Rattle.totals_spec.specs.pence.Examples.{sum-pence-agree as sum-pence-rows}

pub sum-pence-agree : Sum-pence-agree
sum-pence-agree = sum-pence-rows
