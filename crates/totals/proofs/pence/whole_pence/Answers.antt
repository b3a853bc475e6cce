-- Where nothing is left the figure is 0, and else that of the magnitude, with its sign.
use Rattle.std.proofs.Common.{sym, ap, ◌∙◌, eqb-true}
use Rattle.totals_spec.specs.pence.Hundredfold.{whole_figure}
use Rattle.totals_spec.proofs.pence.NearestWhole.{figure-none}
use Rattle.format.specs.Shapes.{shape_of}
use Rattle.totals.proofs.pence.whole_pence.Goals as goal

pub returns-then-is_nothing : goal.returns-then-is_nothing
returns-then-is_nothing c x l =
    let f = shape_of c.args.shape in
    sym (figure-none f) ∙ ap (whole_figure f) (sym (l.none (eqb-true _ 0 (sym c.is_nothing.ensures ∙ c.if-is_nothing.true))))
