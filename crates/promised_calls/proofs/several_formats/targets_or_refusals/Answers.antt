use Rattle.format.specs.Formats.{format_of}
use Rattle.totals_spec.specs.entries.Bytes.{values_in}
use Rattle.promised_calls.proofs.Aimed.{or-refused}
use Rattle.promised_calls.proofs.several_formats.targets_or_refusals.Goals as goal

pub returns-clause-is : goal.returns-clause-is
returns-clause-is c = record { first = c.in_three.ensures.0; second = c.in_three.ensures.1; third = c.in_three.ensures.2 }

pub returns-clause-refusals : goal.returns-clause-refusals
returns-clause-refusals c =
    or-refused (format_of c.args.f) c.args.denormals_are_zero (values_in c.args.values.now) c.args.a c.args.b c.args.c c.in_three.result
    (record { first = c.in_three.ensures.0; second = c.in_three.ensures.1; third = c.in_three.ensures.2 })
