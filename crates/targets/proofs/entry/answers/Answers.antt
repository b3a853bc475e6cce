-- Each target by its own, or each refused as the list is.
use Rattle.std.proofs.Common.{refl}
use Rattle.targets.proofs.TargetWritten.{three-named, three-misnamed}
use Rattle.targets.proofs.entry.answers.Goals as goal

pub returns-in-Ok : goal.returns-in-Ok
returns-in-Ok c =
    let (named, is) = c.in-Ok.ensures in
    let (x, y, z) = c.into_three.ensures in
    three-named _ _ c.args.denormals_are_zero _ _ _ named _ is _ _ _ c.target_at.ensures c.target_at-in-Ok.ensures c.target_at-in-Ok-2.ensures x y z

pub returns-in-Err : goal.returns-in-Err
returns-in-Err c = let (bad, is) = c.in-Err.ensures in three-misnamed _ _ c.args.denormals_are_zero _ _ _ bad _ is refl refl refl
