use Rattle.promises.proofs.roundings.EncodedNumbers.{encodings-are-numbers}
use Rattle.promises.proofs.encodings_of_numbers.encodings_are_numbers.Goals as goal

pub returns : goal.returns
returns c = encodings-are-numbers
