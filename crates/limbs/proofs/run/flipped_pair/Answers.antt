use Rattle.std.proofs.Common.{arith, rules}
use Rattle.limbs.proofs.Masked.{masked-pair}
use Rattle.limbs.proofs.run.flipped_pair.Goals as goal

pub returns : goal.returns
returns c = masked-pair c.args.negative c.args.pair c.from.result _ (search rules) (omega arith) (omega arith) (search rules)
