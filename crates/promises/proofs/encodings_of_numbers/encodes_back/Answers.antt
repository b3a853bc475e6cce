use Rattle.promises.proofs.roundings.EncodedNumbers.{encodes-back}
use Rattle.promises.proofs.encodings_of_numbers.encodes_back.Goals as goal

pub returns : goal.returns
returns c = encodes-back
