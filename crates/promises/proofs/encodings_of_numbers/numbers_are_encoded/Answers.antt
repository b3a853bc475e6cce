use Rattle.promises.proofs.roundings.EncodedNumbers.{numbers-are-encoded}
use Rattle.promises.proofs.encodings_of_numbers.numbers_are_encoded.Goals as goal

pub returns : goal.returns
returns c = numbers-are-encoded
