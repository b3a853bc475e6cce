use Rattle.format.specs.Formats.{format_of}
use Rattle.format.specs.Settings.{settings_of}
use Rattle.targets.specs.Estimates.{estimate_in}
use Rattle.promised_calls.proofs.Allowed.{dot-alike}
use Rattle.promised_calls.proofs.within.dots_within.Goals as goal

pub returns-clause-alike : goal.returns-clause-alike
returns-clause-alike c =
    dot-alike (format_of c.args.f) (settings_of c.args.c) c.args.left.now c.args.right.now c.args.allowance (estimate_in c.dot_within-first.result) c.dot_within-first.ensures.answer
    c.args.moved_left.now c.args.moved_right.now (estimate_in c.dot_within-second.result) c.dot_within-second.ensures.answer
