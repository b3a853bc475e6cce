use Rattle.format.specs.Formats.{format_of}
use Rattle.totals_spec.specs.entries.Bytes.{values_in}
use Rattle.promised_calls.proofs.Aimed.{all-alike}
use Rattle.promised_calls.proofs.several_formats.targets_of_both.Goals as goal

pub returns-clause-first : goal.returns-clause-first
returns-clause-first c = record { first = c.in_three-first.ensures.0; second = c.in_three-first.ensures.1; third = c.in_three-first.ensures.2 }

pub returns-clause-second : goal.returns-clause-second
returns-clause-second c = record { first = c.in_three-second.ensures.0; second = c.in_three-second.ensures.1; third = c.in_three-second.ensures.2 }

pub returns-clause-alike : goal.returns-clause-alike
returns-clause-alike c =
    all-alike (format_of c.args.f) c.args.denormals_are_zero (values_in c.args.one.now) c.args.a c.args.b c.args.c c.in_three-first.result (record { first = c.in_three-first.ensures.0; second = c.in_three-first.ensures.1; third = c.in_three-first.ensures.2 })
    (values_in c.args.other.now) c.in_three-second.result (record { first = c.in_three-second.ensures.0; second = c.in_three-second.ensures.1; third = c.in_three-second.ensures.2 })
