use Rattle.format.specs.Formats.{format_of}
use Rattle.format.specs.Settings.{settings_of}
use Rattle.promised_calls.proofs.Exacts.{sum-once, sum-cancels, sum-of-zeros, sum-sided}
use Rattle.totals.specs.Asked.{answer_in}
use Rattle.promised_calls.proofs.rounded.sum_rounded_once.Goals as goal

pub returns-clause-once : goal.returns-clause-once
returns-clause-once c = sum-once (format_of c.args.f) (settings_of c.args.c) c.args.u c.args.values.now (answer_in c.sum.result) c.sum.ensures

pub returns-clause-cancelled : goal.returns-clause-cancelled
returns-clause-cancelled c = sum-cancels (format_of c.args.f) (settings_of c.args.c) c.args.u c.args.values.now (answer_in c.sum.result) c.sum.ensures

pub returns-clause-zeros : goal.returns-clause-zeros
returns-clause-zeros c = sum-of-zeros (format_of c.args.f) (settings_of c.args.c) c.args.u c.args.values.now (answer_in c.sum.result) c.sum.ensures

pub returns-clause-side : goal.returns-clause-side
returns-clause-side c = sum-sided (format_of c.args.f) (settings_of c.args.c) c.args.u c.args.values.now (answer_in c.sum.result) c.sum.ensures
