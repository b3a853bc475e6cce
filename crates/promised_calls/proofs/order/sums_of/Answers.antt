use Rattle.format.specs.Formats.{format_of}
use Rattle.format.specs.Settings.{settings_of}
use Rattle.totals.specs.Asked.{answer_in}
use Rattle.promised_calls.proofs.Calls.{sum-alike, same-total}
use Rattle.promised_calls.proofs.order.sums_of.Goals as goal

pub returns-clause-alike : goal.returns-clause-alike
returns-clause-alike c =
    λ h r n. same-total c.sum-first.result c.sum-second.result r
    (sum-alike (format_of c.args.f) (settings_of c.args.c) c.args.u c.args.one.now (answer_in c.sum-first.result) c.sum-first.ensures c.args.other.now
    (answer_in c.sum-second.result) c.sum-second.ensures h r n)
