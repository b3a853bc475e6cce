use Rattle.std.proofs.Common.{rules}
use Rattle.format.proofs.Shapes.{own_unnamed, bias_below_none, bias_above}
use Rattle.format.proofs.shape.Shape.bias_above.Goals as goal

pub returns-in-None-clause-value : goal.returns-in-None-clause-value
returns-in-None-clause-value c = own_unnamed c.args.self _ c.own_bias.ensures.value c.in-None.is

pub returns-then-b-lt0-clause-value : goal.returns-then-b-lt0-clause-value
returns-then-b-lt0-clause-value c = bias_below_none c.args.self c.in-Some.b (search rules) c.in-Some.is c.if-b-lt0.true

pub returns-else-b-lt0-clause-value : goal.returns-else-b-lt0-clause-value
returns-else-b-lt0-clause-value c =
    (bias_above c.args.self c.in-Some.b (search rules) c.in-Some.is _ c.unsigned_abs.ensures.value c.if-b-lt0.false).0

pub returns-else-b-lt0-clause-bound : goal.returns-else-b-lt0-clause-bound
returns-else-b-lt0-clause-bound c =
    (bias_above c.args.self c.in-Some.b (search rules) c.in-Some.is _ c.unsigned_abs.ensures.value c.if-b-lt0.false).1
