use Rattle.std.proofs.Common.{◌*◌, ◌^◌, rules}
use Rattle.limbs.specs.Value.{value}
use Rattle.limbs.proofs.Built.{built}
use Rattle.limbs.proofs.window.shl.Goals as goal

pub returns : goal.returns
returns c = built _ _ _ (value c.args.window * 2 ^ c.args.count) (λ i y q k. search rules) c.from_fn.ensures.items
