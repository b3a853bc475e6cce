use Rattle.std.proofs.Common.{ap, ◌∙◌}
use Rattle.limbs.specs.Flipped.{flip}
use Rattle.limbs.proofs.Within.{settles}
use Rattle.limbs.proofs.term.settle_single.Goals as goal

pub returns : goal.returns
returns c =
    let l = c.lay_single.ensures in
    let t = c.turned.ensures in
    (settles l.0 t t.second, t.third ∙ ap (flip c.args.negative) l.1)
