-- By the formats, and then by the settings for the target's digits.
use Rattle.std.proofs.Common.{refl}
use Rattle.std.proofs.lemmas.Result.{err_from_is_err_and}
use Rattle.targets.proofs.several.aimed.Goals as goal

pub returns-in_err-list : goal.returns-in_err-list
returns-in_err-list c =
    let p = err_from_is_err_and c.from_residual.result c.from_residual.ensures.1 in
    let (is, bad) = c.in_err-list.ensures in
    rw (p.1, p.2, is, bad) refl

pub returns-in_err-layout : goal.returns-in_err-layout
returns-in_err-layout c =
    let p = err_from_is_err_and c.from_residual-in_err-layout.result c.from_residual-in_err-layout.ensures.1 in
    let (is, bad) = c.in_err-layout.ensures in
    rw (p.1, p.2, is, c.in_ok-list.ensures.valid, bad) refl

pub returns-in_err-env : goal.returns-in_err-env
returns-in_err-env c =
    let p = err_from_is_err_and c.from_residual-in_err-env.result c.from_residual-in_err-env.ensures.1 in
    let l = c.in_ok-layout.ensures in
    let (is, bad) = c.in_err-env.ensures in
    rw (p.1, p.2, is, c.in_ok-list.ensures.valid, l.valid, rw l.is at bad) refl

pub returns : goal.returns
returns c =
    let list = c.in_ok-list.ensures in
    let l = c.in_ok-layout.ensures in
    let e = c.in_ok-env.ensures in
    (list.is, l.is, e.is, rw (list.valid, l.valid, rw l.is at e.valid) refl)
