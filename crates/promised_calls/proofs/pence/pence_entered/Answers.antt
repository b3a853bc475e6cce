use Rattle.format.specs.Formats.{format_of}
use Rattle.promised_calls.proofs.Lent.{pence-alike, pence-kept}
use Rattle.promised_calls.proofs.pence.pence_entered.Goals as goal

pub returns-clause-alike : goal.returns-clause-alike
returns-clause-alike c =
    pence-alike (format_of c.args.format) c.args.one.now c.args.figure.now c.enter_pence-first.result c.enter_pence-first.new.figure c.enter_pence-first.ensures
    c.args.other.now c.args.again.now c.enter_pence-second.result c.enter_pence-second.new.figure c.enter_pence-second.ensures

pub returns-clause-rest : goal.returns-clause-rest
returns-clause-rest c = (
  pence-kept (format_of c.args.format) c.args.one.now c.args.figure.now c.enter_pence-first.result c.enter_pence-first.new.figure
      c.enter_pence-first.ensures,
  pence-kept (format_of c.args.format) c.args.other.now c.args.again.now c.enter_pence-second.result c.enter_pence-second.new.figure
      c.enter_pence-second.ensures,
)
