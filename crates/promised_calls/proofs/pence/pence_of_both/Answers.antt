use Rattle.format.specs.Formats.{format_of}
use Rattle.promised_calls.proofs.Figures.{alike}
use Rattle.totals.specs.PenceRecord.{figure_in}
use Rattle.promised_calls.proofs.pence.pence_of_both.Goals as goal

pub returns-clause-alike : goal.returns-clause-alike
returns-clause-alike c =
    alike (format_of c.args.f) c.args.one.now (figure_in c.pence_of_sum-first.result) c.pence_of_sum-first.ensures c.args.other.now (figure_in c.pence_of_sum-second.result)
    c.pence_of_sum-second.ensures
