-- Test by test.
use Rattle.std.proofs.Common.{sym, ◌∙◌}
use Rattle.std.proofs.lemmas.Result.{err_from_is_err_and}
use borrow.Author.Tests.{leb-true, leb-false, not-true, not-false}
use Rattle.targets.proofs.Contributed.{kind-told, kept-told, no-format, other-kind, out-of-range, flushing, too-long, short}
use Rattle.targets.proofs.contribution.contribution_refusal.Goals as goal

pub returns-in_err-layout : goal.returns-in_err-layout
returns-in_err-layout c =
    let p = err_from_is_err_and c.from_residual.result c.from_residual.ensures.1 in
    let (is, bad) = c.in_err-layout.ensures in
    rw (p.1, p.2, is) (no-format _ _ _ bad)

pub returns-in_err-refuse_if : goal.returns-in_err-refuse_if
returns-in_err-refuse_if c =
    let p = err_from_is_err_and c.from_residual-in_err-refuse_if.result c.from_residual-in_err-refuse_if.ensures.1 in
    let (other, is) = c.in_err-refuse_if.ensures {u = tt} in
    let l = c.in_ok-layout.ensures in
    rw (p.1, p.2, is) (other-kind _ _ _ l.valid (kind-told c.in_ok-layout.layout _ l.is ∙ not-true _ (sym c.ne.ensures ∙ other)))

pub returns-in_err-env : goal.returns-in_err-env
returns-in_err-env c =
    let p = err_from_is_err_and c.from_residual-in_err-env.result c.from_residual-in_err-env.ensures.1 in
    let l = c.in_ok-layout.ensures in
    let (is, bad) = c.in_err-env.ensures in
    rw (p.1, p.2, is) (out-of-range _ _ _ l.valid
    (kind-told c.in_ok-layout.layout _ l.is ∙ not-false _ (sym c.ne.ensures ∙ c.in_ok-refuse_if.ensures {u = tt})) (rw l.is at bad))

pub returns-in_err-refuse_if-2 : goal.returns-in_err-refuse_if-2
returns-in_err-refuse_if-2 c =
    let p = err_from_is_err_and c.from_residual-in_err-refuse_if-2.result c.from_residual-in_err-refuse_if-2.ensures.1 in
    let (set, is) = c.in_err-refuse_if-2.ensures {u = tt} in
    let l = c.in_ok-layout.ensures in
    let e = c.in_ok-env.ensures in
    rw (p.1, p.2, is) (flushing _ _ _ l.valid
    (kind-told c.in_ok-layout.layout _ l.is ∙ not-false _ (sym c.ne.ensures ∙ c.in_ok-refuse_if.ensures {u = tt})) (rw l.is at e.valid)
    (kept-told c.in_ok-env.env _ e.is ∙ rw (sym c.flushes.ensures ∙ set)))

pub returns-in_err-refuse_if-3 : goal.returns-in_err-refuse_if-3
returns-in_err-refuse_if-3 c =
    let p = err_from_is_err_and c.from_residual-in_err-refuse_if-3.result c.from_residual-in_err-refuse_if-3.ensures.1 in
    let (many, is) = c.in_err-refuse_if-3.ensures {u = tt} in
    let l = c.in_ok-layout.ensures in
    let e = c.in_ok-env.ensures in
    rw (p.1, p.2, is) (too-long _ _ _ l.valid
    (kind-told c.in_ok-layout.layout _ l.is ∙ not-false _ (sym c.ne.ensures ∙ c.in_ok-refuse_if.ensures {u = tt})) (rw l.is at e.valid)
    (kept-told c.in_ok-env.env _ e.is ∙ rw (sym c.flushes.ensures ∙ c.in_ok-refuse_if-2.ensures {u = tt})) (leb-true _ _ many))

pub returns : goal.returns
returns c =
    let l = c.in_ok-layout.ensures in
    let e = c.in_ok-env.ensures in (
      l.is,
      e.is,
      short _ _ _ l.valid
          (kind-told c.in_ok-layout.layout _ l.is ∙ not-false _ (sym c.ne.ensures ∙ c.in_ok-refuse_if.ensures {u = tt})) (rw l.is at e.valid)
          (kept-told c.in_ok-env.env _ e.is ∙ rw (sym c.flushes.ensures ∙ c.in_ok-refuse_if-2.ensures {u = tt}))
          (leb-false _ _ (c.in_ok-refuse_if-3.ensures {u = tt})),
    )
