-- The examples of sums and dots, as statements: the definitions give what is written there.
use Rattle.std.specs.Prelude.{[], ◌-◌, T as Holds}
use Rattle.totals_spec.specs.examples.Careers.{careers, margins, side_examples, biases, refusals}
use Rattle.totals_spec.specs.examples.Careers.{entry_example}
use Rattle.totals_spec.specs.examples.Rows.{all_agree}
use Rattle.totals_spec.specs.pence.Examples.{pence_examples}
use Rattle.totals_spec.specs.program.Examples.{program_runs, program_agrees}

-- C1 to C12
abbrev pub Careers-agree : Type 0
Careers-agree = Holds (all_agree careers)

-- rows at the margins of the passes' rules
abbrev pub Margins-agree : Type 0
Margins-agree = Holds (all_agree margins)

-- which way results lean: directed roundings, overflow, flush-to-zero and denormals-are-zero, of
-- sums of either sign
abbrev pub Sides-agree : Type 0
Sides-agree = Holds side_examples

-- named biases: the farthest, the kind's own, where 1 is no number of the format, and where the
-- grid of products lies below their unit
abbrev pub Biases-agree : Type 0
Biases-agree = Holds biases

-- the examples of the refusals, of a byte entry, of pence and of the program
abbrev pub Examples-agree : Type 0
Examples-agree = Holds refusals × Holds entry_example × Holds pence_examples
    × Holds (program_agrees program_runs)
