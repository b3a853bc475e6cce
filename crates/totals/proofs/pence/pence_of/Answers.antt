-- By the format, and by whether the encoding has a stray bit.
use Rattle.std.proofs.Common.{◌∙◌}
use Rattle.std.proofs.lemmas.Result.{err_from_is_err_and}
use borrow.Author.Tests.{ltb-true, ltb-false}
use Rattle.totals_spec.specs.pence.Pence.{figure_of}
use Rattle.format.proofs.Layouts.{layout_bounds}
use Rattle.totals.proofs.Search.{stray-is, stray-not}
use Rattle.totals.proofs.Figures.{bad-format, stray-bit, no-stray-bit, decode-bounded}
use Rattle.totals.proofs.pence.pence_of.Goals as goal

pub returns-in_err-layout : goal.returns-in_err-layout
returns-in_err-layout c =
    let p = err_from_is_err_and c.from_residual.result c.from_residual.ensures.1 in
    let (is, bad) = c.in_err-layout.ensures in
    rw (p.1, p.2, is) (bad-format _ _ bad)

pub returns-in_err-refuse_if : goal.returns-in_err-refuse_if
returns-in_err-refuse_if c =
    let p = err_from_is_err_and c.from_residual-in_err-refuse_if.result c.from_residual-in_err-refuse_if.ensures.1 in
    let (above, is) = c.in_err-refuse_if.ensures {u = tt} in
    rw (p.1, p.2, is) (stray-bit _ _ c.in_ok-layout.ensures.valid (stray-is _ _ _ c.ones.ensures (ltb-true _ _ above)))

pub figure_of-requires : goal.figure_of-requires
figure_of-requires c = (c.lift.ensures.bound, decode-bounded _ _ (layout_bounds c.in_ok-layout.layout) _ c.decode.ensures)

pub returns : goal.returns
returns c =
    let l = c.in_ok-layout.ensures in
    let within = ltb-false _ _ (c.in_ok-refuse_if.ensures {u = tt}) in
    c.figure_of.ensures
    ∙ (λ i. figure_of (c.depth.ensures.value i) (c.lift.ensures.value i) (c.decode.ensures i))
    ∙ rw l.is (no-stray-bit _ _ l.valid (stray-not _ _ _ c.ones.ensures within))
