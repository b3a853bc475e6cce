-- The examples, which the checker computes where they are defined.
use Rattle.figures_spec.specs.ranges.Promises.{Ranges-agree}
use Rattle.figures_spec.specs.ranges.Examples as tests-of-ranges

pub ranges-agree : Ranges-agree
ranges-agree = tests-of-ranges.ranges-agree
