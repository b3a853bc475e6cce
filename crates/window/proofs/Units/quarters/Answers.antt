use Rattle.std.proofs.Common.{refl, ◌∙◌}
use Rattle.limbs.proofs.Words.{words}
use Rattle.exact.proofs.Narrow.{two-words}
use Rattle.window.proofs.Units.quarters.Goals as goal

pub returns : goal.returns
returns c =
    let w = c.args.count in
    record { sign = refl; sticky = refl; position = refl; is = c.joined.ensures ∙ two-words w (words 12 w _ c.well_formed.1.0).fit c.requires.1 }
