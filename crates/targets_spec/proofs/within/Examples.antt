-- The examples, which the checker computes where they are defined.
use Rattle.targets_spec.specs.within.Promises.{Estimates-agree}
use Rattle.targets_spec.specs.within.Examples as tests-of-estimates

pub estimates-agree : Estimates-agree
estimates-agree = (tests-of-estimates.estimates-agree, tests-of-estimates.estimate-entries-agree)
