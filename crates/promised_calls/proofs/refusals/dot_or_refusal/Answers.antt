use Rattle.format.specs.Formats.{format_of}
use Rattle.format.specs.Settings.{settings_of}
use Rattle.promised_calls.proofs.Calls.{dot-exactly, dot-nothing-else, dot-placed}
use Rattle.totals.specs.Asked.{answer_in}
use Rattle.promised_calls.proofs.refusals.dot_or_refusal.Goals as goal

pub returns-clause-exactly : goal.returns-clause-exactly
returns-clause-exactly c = dot-exactly (format_of c.args.f) (settings_of c.args.c) c.args.left.now c.args.right.now (answer_in c.dot.result) c.dot.ensures

pub returns-clause-nothing_else : goal.returns-clause-nothing_else
returns-clause-nothing_else c = dot-nothing-else (format_of c.args.f) (settings_of c.args.c) c.args.left.now c.args.right.now (answer_in c.dot.result) c.dot.ensures

pub returns-clause-place : goal.returns-clause-place
returns-clause-place c = dot-placed (format_of c.args.f) (settings_of c.args.c) c.args.left.now c.args.right.now (answer_in c.dot.result) c.dot.ensures
