-- By the lengths, the refusal, and the total.
use Rattle.std.proofs.lemmas.Result.{err_from_is_err_and}
use Rattle.totals.proofs.Refusals.{summand-is}
use Rattle.totals.proofs.Tens.{sum-asked, sum-turned, sum-refused, sum_fits, sum-written}
use Rattle.totals.proofs.entry.tens_sum.Goals as goal

pub returns-in_err-lengths : goal.returns-in_err-lengths
returns-in_err-lengths c =
    let p = err_from_is_err_and c.from_residual.result c.from_residual.ensures.1 in
    rw (p.1, p.2) (sum-turned _ _ _ c.args.values.now _ _ (c.in_err-lengths.ensures {u = tt}))

pub returns-in_err-env : goal.returns-in_err-env
returns-in_err-env c =
    let p = err_from_is_err_and c.from_residual-in_err-env.result c.from_residual-in_err-env.ensures.1 in
    rw (p.1, p.2) (sum-refused _ _ _ _ _ (c.in_ok-lengths.ensures {u = tt}) _ c.in_err-env.ensures)

pub sum-requires : goal.sum-requires
sum-requires c =
    let (env, summand, passed) = c.in_ok-env.ensures in
    rw (env, summand) (sum-asked _ _ _ _ passed)

pub enter_tens-requires : goal.enter_tens-requires
enter_tens-requires c =
    let (env, summand, passed) = c.in_ok-env.ensures in
    sum_fits _ _ _ _ _ (c.in_ok-lengths.ensures {u = tt}) passed (rw (env, ← summand-is c.in_ok-env.summand, summand) at c.sum.ensures)

pub returns : goal.returns
returns c =
    let (env, summand, passed) = c.in_ok-env.ensures in
    sum-written _ _ _ _ _ (c.in_ok-lengths.ensures {u = tt}) passed (rw (env, ← summand-is c.in_ok-env.summand, summand) at c.sum.ensures)
    _ c.enter_tens.ensures
