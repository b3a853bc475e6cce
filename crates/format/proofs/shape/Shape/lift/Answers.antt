use Rattle.std.proofs.Common.{rules}
use Rattle.format.proofs.Shapes.{no_lift_unnamed, lift_above_none, lift_below}
use Rattle.format.proofs.shape.Shape.lift.Goals as goal

pub returns-in-None-clause-value : goal.returns-in-None-clause-value
returns-in-None-clause-value c = no_lift_unnamed c.args.self c.in-None.is

pub returns-then-b-lt0-clause-value : goal.returns-then-b-lt0-clause-value
returns-then-b-lt0-clause-value c =
    (lift_below c.args.self c.in-Some.b (search rules) c.in-Some.is _ c.unsigned_abs.ensures.value c.if-b-lt0.true).0

pub returns-then-b-lt0-clause-bound : goal.returns-then-b-lt0-clause-bound
returns-then-b-lt0-clause-bound c =
    (lift_below c.args.self c.in-Some.b (search rules) c.in-Some.is _ c.unsigned_abs.ensures.value c.if-b-lt0.true).1

pub returns-else-b-lt0-clause-value : goal.returns-else-b-lt0-clause-value
returns-else-b-lt0-clause-value c = lift_above_none c.args.self c.in-Some.b (search rules) c.in-Some.is c.if-b-lt0.false
