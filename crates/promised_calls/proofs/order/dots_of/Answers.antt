use Rattle.format.specs.Formats.{format_of}
use Rattle.format.specs.Settings.{settings_of}
use Rattle.totals.specs.Asked.{answer_in}
use Rattle.promised_calls.proofs.Calls.{dot-alike, same-total}
use Rattle.promised_calls.proofs.order.dots_of.Goals as goal

pub returns-clause-alike : goal.returns-clause-alike
returns-clause-alike c =
    λ h r n m. same-total c.dot-first.result c.dot-second.result r
    (dot-alike (format_of c.args.f) (settings_of c.args.c) c.args.left.now c.args.right.now (answer_in c.dot-first.result) c.dot-first.ensures
    c.args.moved_left.now c.args.moved_right.now (answer_in c.dot-second.result) c.dot-second.ensures h r n m)
