use Rattle.format.specs.Formats.{format_of}
use Rattle.format.specs.Settings.{settings_of}
use Rattle.targets.specs.Estimates.{estimate_in}
use Rattle.promised_calls.proofs.Allowed.{sum-alike}
use Rattle.promised_calls.proofs.within.sums_within.Goals as goal

pub returns-clause-alike : goal.returns-clause-alike
returns-clause-alike c =
    sum-alike (format_of c.args.f) (settings_of c.args.c) c.args.u c.args.one.now c.args.allowance (estimate_in c.sum_within-first.result) c.sum_within-first.ensures.answer
    c.args.other.now (estimate_in c.sum_within-second.result) c.sum_within-second.ensures.answer
