use Rattle.promises.proofs.roundings.IeeeDecoding.{decodes-alike}
use Rattle.promises.proofs.ieee_model.decodes_alike.Goals as goal

pub returns : goal.returns
returns c = decodes-alike
