-- By the lengths, the refusal, and the total.
use Rattle.std.proofs.lemmas.Result.{err_from_is_err_and}
use Rattle.totals.proofs.Tens.{dot-asked, dot-turned, dot-refused, dot_fits, dot-written}
use Rattle.totals.proofs.entry.tens_dot.Goals as goal

pub returns-in_err-lengths : goal.returns-in_err-lengths
returns-in_err-lengths c =
    let p = err_from_is_err_and c.from_residual.result c.from_residual.ensures.1 in
    rw (p.1, p.2) (dot-turned _ _ c.args.left.now _ _ _ (rw c.either_cut.ensures at (c.in_err-lengths.ensures {u = tt})))

pub returns-in_err-env : goal.returns-in_err-env
returns-in_err-env c =
    let p = err_from_is_err_and c.from_residual-in_err-env.result c.from_residual-in_err-env.ensures.1 in
    rw (p.1, p.2) (dot-refused _ _ _ _ _ (rw c.either_cut.ensures at (c.in_ok-lengths.ensures {u = tt})) _ c.in_err-env.ensures)

pub dot-requires : goal.dot-requires
dot-requires c = let (env, passed) = c.in_ok-env.ensures in rw env (dot-asked _ _ _ _ passed)

pub enter_tens-requires : goal.enter_tens-requires
enter_tens-requires c =
    let (env, passed) = c.in_ok-env.ensures in
    dot_fits _ _ _ _ _ (rw c.either_cut.ensures at (c.in_ok-lengths.ensures {u = tt})) passed (rw env at c.dot.ensures)

pub returns : goal.returns
returns c =
    let (env, passed) = c.in_ok-env.ensures in
    dot-written _ _ _ _ _ (rw c.either_cut.ensures at (c.in_ok-lengths.ensures {u = tt})) passed (rw env at c.dot.ensures) _ c.enter_tens.ensures
