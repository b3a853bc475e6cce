-- The element at the index is the code.
use Rattle.reduction.proofs.Instances.{field-in}
use Rattle.reduction.proofs.numbers.EncodedNumbers.plain_field.Goals as goal

pub returns : goal.returns
returns g c = rw c.at.ensures at (field-in c.args.self.now.layout _ _ c.plain_field.ensures)
