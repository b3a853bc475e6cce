use Rattle.format.specs.Formats.{format_of}
use Rattle.promised_calls.proofs.Figures.{one-exactly, one-nothing-else, one-placed}
use Rattle.totals.specs.PenceRecord.{figure_in}
use Rattle.promised_calls.proofs.pence.one_pence_or_refusal.Goals as goal

pub returns-clause-exactly : goal.returns-clause-exactly
returns-clause-exactly c = one-exactly (format_of c.args.f) c.args.b (figure_in c.pence_of.result) c.pence_of.ensures

pub returns-clause-nothing_else : goal.returns-clause-nothing_else
returns-clause-nothing_else c = one-nothing-else (format_of c.args.f) c.args.b (figure_in c.pence_of.result) c.pence_of.ensures

pub returns-clause-place : goal.returns-clause-place
returns-clause-place c = one-placed (format_of c.args.f) c.args.b (figure_in c.pence_of.result) c.pence_of.ensures
