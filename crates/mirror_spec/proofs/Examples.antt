-- The examples, which the checker computes where they are defined.
use Rattle.mirror_spec.specs.Promises.{Mirrors-agree}
use Rattle.mirror_spec.specs.Examples as tests-of-mirrors

pub mirrors-agree : Mirrors-agree
mirrors-agree = tests-of-mirrors.mirrors-agree
