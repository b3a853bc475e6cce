-- The examples, which the checker computes where they are defined.
use Rattle.targets_spec.specs.several.Promises.{Targets-agree}
use Rattle.targets_spec.specs.several.Examples as tests-of-targets

pub targets-agree : Targets-agree
targets-agree = (tests-of-targets.targets-agree, tests-of-targets.target-entries-agree)
