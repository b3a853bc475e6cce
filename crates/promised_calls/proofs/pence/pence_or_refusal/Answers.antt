use Rattle.format.specs.Formats.{format_of}
use Rattle.promised_calls.proofs.Figures.{exactly, nothing-else, placed}
use Rattle.totals.specs.PenceRecord.{figure_in}
use Rattle.promised_calls.proofs.pence.pence_or_refusal.Goals as goal

pub returns-clause-exactly : goal.returns-clause-exactly
returns-clause-exactly c = exactly (format_of c.args.f) c.args.values.now (figure_in c.pence_of_sum.result) c.pence_of_sum.ensures

pub returns-clause-nothing_else : goal.returns-clause-nothing_else
returns-clause-nothing_else c = nothing-else (format_of c.args.f) c.args.values.now (figure_in c.pence_of_sum.result) c.pence_of_sum.ensures

pub returns-clause-place : goal.returns-clause-place
returns-clause-place c = placed (format_of c.args.f) c.args.values.now (figure_in c.pence_of_sum.result) c.pence_of_sum.ensures
