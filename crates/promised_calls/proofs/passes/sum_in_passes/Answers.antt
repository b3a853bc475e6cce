use Rattle.format.specs.Formats.{format_of}
use Rattle.format.specs.Settings.{settings_of}
use Rattle.promised_calls.proofs.Calls.{sum-passes, sum-of-doubles, squares-of-doubles}
use Rattle.totals.specs.Asked.{answer_in}
use Rattle.promised_calls.proofs.passes.sum_in_passes.Goals as goal

pub returns-clause-limit : goal.returns-clause-limit
returns-clause-limit c = sum-passes (format_of c.args.f) (settings_of c.args.c) c.args.u c.args.values.now (answer_in c.sum.result) c.sum.ensures

pub returns-clause-sums_of_doubles : goal.returns-clause-sums_of_doubles
returns-clause-sums_of_doubles c = sum-of-doubles (format_of c.args.f) (settings_of c.args.c) c.args.u c.args.values.now (answer_in c.sum.result) c.sum.ensures

pub returns-clause-squares_of_doubles : goal.returns-clause-squares_of_doubles
returns-clause-squares_of_doubles c = squares-of-doubles (format_of c.args.f) (settings_of c.args.c) c.args.u c.args.values.now (answer_in c.sum.result) c.sum.ensures
