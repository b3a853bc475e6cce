-- The examples, which the checker computes where they are defined.
use Rattle.totals_spec.specs.ten_bytes.Promises.{Extended-agree}
use Rattle.totals_spec.specs.ten_bytes.Examples as tests-of-extended

pub extended-agree : Extended-agree
extended-agree = (tests-of-extended.extended-agree, tests-of-extended.chains-agree)
