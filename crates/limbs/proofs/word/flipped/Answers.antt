use Rattle.std.proofs.Common.{arith, rules}
use Rattle.limbs.proofs.Masked.{masked}
use Rattle.limbs.proofs.word.flipped.Goals as goal

pub returns : goal.returns
returns c = masked c.args.negative c.args.word c.from.result _ (search rules) (omega arith) (omega arith) (search rules)
