use Rattle.promises.proofs.roundings.RaisedAmounts.{total-rises}
use Rattle.promises.proofs.rounded_totals.total_rises.Goals as goal

pub returns : goal.returns
returns c = total-rises
