-- The examples, which the checker computes where they are defined.
use Rattle.totals_spec.specs.examples.Promises.{Careers-agree, Margins-agree, Sides-agree}
use Rattle.totals_spec.specs.examples.Promises.{Biases-agree, Examples-agree}
use Rattle.totals_spec.specs.examples.Careers as tests
use Rattle.totals_spec.specs.pence.Examples.{pence-agree as pence-rows}
use Rattle.totals_spec.specs.program.Examples.{program-agrees as program-rows}

pub careers-agree : Careers-agree
careers-agree = tests.careers-agree

pub margins-agree : Margins-agree
margins-agree = tests.margins-agree

pub sides-agree : Sides-agree
sides-agree = tests.sides-agree

pub biases-agree : Biases-agree
biases-agree = tests.biases-agree

pub examples-agree : Examples-agree
examples-agree = (tests.refusals-agree, tests.entry-agrees, pence-rows, program-rows)
