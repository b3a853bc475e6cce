use Rattle.std.proofs.Common.{arith}
use Rattle.values.proofs.elements.bytes_in.Goals as goal

pub returns-clause-fit : goal.returns-clause-fit
returns-clause-fit c i = omega (arith, c.type_inv.bytes i)
