use Rattle.promises.proofs.records.OnlyZeros.{numbers-name}
use Rattle.promises.proofs.encodings_of_numbers.numbers_name.Goals as goal

pub returns : goal.returns
returns c = numbers-name
