-- By where the chain ends or stops.
use Rattle.std.proofs.Common.{◌∙◌}
use Rattle.format.proofs.Layouts.{layout_bounds}
use Rattle.reduction.proofs.Widths.{narrow}
use Rattle.targets.proofs.Shown.{full-shown, stopped-shown, boundary-near}
use Rattle.targets.proofs.estimate.told.Goals as goal

pub unfinished-requires : goal.unfinished-requires
unfinished-requires c =
    let s = (rw c.in-Err.is at c.requires.within).0 in
    (s.edge, boundary-near _ _ c.in-Err.at.boundary s.bound s.small)

pub returns-in-Ok-clause-answer : goal.returns-in-Ok-clause-answer
returns-in-Ok-clause-answer c = λ t ts h. full-shown _ c.args.products ts _ t (narrow _ (layout_bounds c.args.layout)) _ (rw c.in-Ok.is at h)

pub returns-in-Err-clause-answer : goal.returns-in-Err-clause-answer
returns-in-Err-clause-answer c = λ t ts h. c.unfinished.ensures.answer ∙ stopped-shown _ c.args.products ts _ t _ (rw c.in-Err.is at h)
