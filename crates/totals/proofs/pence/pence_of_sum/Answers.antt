-- By the format, the count and the search for a stray bit, and then by the list.
use Rattle.std.proofs.Common.{◌∙◌, ap}
use Rattle.std.proofs.lemmas.Result.{err_from_is_err_and}
use borrow.Author.Tests.{ltb-true, ltb-false}
use Rattle.totals_spec.specs.formats.Format.{Format}
use Rattle.totals_spec.specs.pence.Pence.{sum_pence}
use Rattle.totals.proofs.Counted.{no-format, too_many, pence-strayed, pence-unstrayed}
use Rattle.totals.proofs.pence.pence_of_sum.Goals as goal

pub returns-in_err-layout : goal.returns-in_err-layout
returns-in_err-layout c =
    let p = err_from_is_err_and c.from_residual.result c.from_residual.ensures.1 in
    let (is, bad) = c.in_err-layout.ensures in
    rw (p.1, p.2, is) (no-format _ _ bad)

pub returns-in_err-refuse_if : goal.returns-in_err-refuse_if
returns-in_err-refuse_if c =
    let p = err_from_is_err_and c.from_residual-in_err-refuse_if.result c.from_residual-in_err-refuse_if.ensures.1 in
    let (many, is) = c.in_err-refuse_if.ensures {u = tt} in
    rw (p.1, p.2, is) (too_many _ _ c.in_ok-layout.ensures.valid (ltb-true _ _ many))

pub returns-in_err-no_stray : goal.returns-in_err-no_stray
returns-in_err-no_stray c =
    let p = err_from_is_err_and c.from_residual-in_err-no_stray.result c.from_residual-in_err-no_stray.ensures.1 in
    let l = c.in_ok-layout.ensures in
    let v = c.args.values.now in
    let few = ltb-false _ _ (c.in_ok-refuse_if.ensures {u = tt}) in
    let (some, is) = c.in_err-no_stray.ensures {u = tt} in
    rw (p.1, p.2, is) (pence-strayed _ v (rw l.is l.valid) few some ∙ ap (λ (g : Format). sum_pence g v) l.is)

pub returns : goal.returns
returns c =
    let l = c.in_ok-layout.ensures in
    let v = c.args.values.now in
    let few = ltb-false _ _ (c.in_ok-refuse_if.ensures {u = tt}) in
    c.hundredfold.ensures
    ∙ pence-unstrayed _ v (rw l.is l.valid) few (c.in_ok-no_stray.ensures {u = tt})
    ∙ ap (λ (g : Format). sum_pence g v) l.is
