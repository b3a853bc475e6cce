-- The elements at the index are the codes.
use Rattle.reduction.proofs.Instances.{fields-in}
use Rattle.reduction.proofs.numbers.EncodedNumbers.plain_fields.Goals as goal

pub returns : goal.returns
returns g c = rw (c.at.ensures, c.at-2.ensures) at (fields-in c.args.self.now.layout _ _ _ c.plain_fields.ensures)
