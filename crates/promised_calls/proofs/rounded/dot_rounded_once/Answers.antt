use Rattle.format.specs.Formats.{format_of}
use Rattle.format.specs.Settings.{settings_of}
use Rattle.promised_calls.proofs.Exacts.{dot-once, dot-cancels, dot-of-zeros, dot-sided}
use Rattle.totals.specs.Asked.{answer_in}
use Rattle.promised_calls.proofs.rounded.dot_rounded_once.Goals as goal

pub returns-clause-once : goal.returns-clause-once
returns-clause-once c = dot-once (format_of c.args.f) (settings_of c.args.c) c.args.left.now c.args.right.now (answer_in c.dot.result) c.dot.ensures

pub returns-clause-cancelled : goal.returns-clause-cancelled
returns-clause-cancelled c = dot-cancels (format_of c.args.f) (settings_of c.args.c) c.args.left.now c.args.right.now (answer_in c.dot.result) c.dot.ensures

pub returns-clause-zeros : goal.returns-clause-zeros
returns-clause-zeros c = dot-of-zeros (format_of c.args.f) (settings_of c.args.c) c.args.left.now c.args.right.now (answer_in c.dot.result) c.dot.ensures

pub returns-clause-side : goal.returns-clause-side
returns-clause-side c = dot-sided (format_of c.args.f) (settings_of c.args.c) c.args.left.now c.args.right.now (answer_in c.dot.result) c.dot.ensures
