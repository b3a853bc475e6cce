use Rattle.promises.proofs.records.WithoutAPassRows.{special-agree}
use Rattle.promises.proofs.examples.special_agree.Goals as goal

pub returns : goal.returns
returns c = special-agree
