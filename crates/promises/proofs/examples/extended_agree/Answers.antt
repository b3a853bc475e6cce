use Rattle.totals_spec.proofs.ten_bytes.Examples.{extended-agree}
use Rattle.promises.proofs.examples.extended_agree.Goals as goal

pub returns : goal.returns
returns c = extended-agree
