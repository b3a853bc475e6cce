-- The examples, which the checker computes where they are defined.
use Rattle.figures_spec.specs.tables.Promises.{Tables-agree}
use Rattle.figures_spec.specs.tables.Examples.{tables-agree as table-rows}

pub tables-agree : Tables-agree
tables-agree = table-rows
