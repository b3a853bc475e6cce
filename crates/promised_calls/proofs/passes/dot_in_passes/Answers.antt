use Rattle.format.specs.Formats.{format_of}
use Rattle.format.specs.Settings.{settings_of}
use Rattle.promised_calls.proofs.Calls.{dot-passes, dot-of-doubles}
use Rattle.totals.specs.Asked.{answer_in}
use Rattle.promised_calls.proofs.passes.dot_in_passes.Goals as goal

pub returns-clause-limit : goal.returns-clause-limit
returns-clause-limit c = dot-passes (format_of c.args.f) (settings_of c.args.c) c.args.left.now c.args.right.now (answer_in c.dot.result) c.dot.ensures

pub returns-clause-of_doubles : goal.returns-clause-of_doubles
returns-clause-of_doubles c = dot-of-doubles (format_of c.args.f) (settings_of c.args.c) c.args.left.now c.args.right.now (answer_in c.dot.result) c.dot.ensures
