use Rattle.window.proofs.Left.{ends-roundable, left-of}
use Rattle.reduction.proofs.total.left.Goals as goal

pub left-requires : goal.left-requires
left-requires c = ends-roundable c.args.digits c.args.sum.outcome c.requires.0 c.requires.1.ends

pub returns : goal.returns
returns c = left-of c.args.digits c.args.sum.outcome _ c.requires.0 c.requires.1.ends c.left.ensures
