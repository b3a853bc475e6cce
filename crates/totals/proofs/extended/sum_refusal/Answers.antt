-- Test by test.
use Rattle.std.proofs.Common.{ap, sym, ◌∙◌, subst, ◌≤◌, ℕ}
use Rattle.std.proofs.lemmas.Result.{err_from_is_err_and}
use Rattle.totals_spec.proofs.ten_bytes.Calls.{tens-values}
use Rattle.totals.specs.Refusal.{number_of}
use Rattle.totals.proofs.Refusals.{summand-le}
use Rattle.totals.proofs.Tens.{sum_first, sum-summand, sum-few}
use Rattle.totals.proofs.extended.sum_refusal.Goals as goal

pub returns-in_err-env : goal.returns-in_err-env
returns-in_err-env c =
    let p = err_from_is_err_and c.from_residual.result c.from_residual.ensures.1 in
    rw (p.1, p.2) (sum_first _ _ _ c.in_err-env.ensures c.args.summand _)

pub returns-in_err-summand : goal.returns-in_err-summand
returns-in_err-summand c =
    let p = err_from_is_err_and c.from_residual-in_err-summand.result c.from_residual-in_err-summand.ensures.1 in
    let (is, large) = c.in_err-summand.ensures in
    rw (p.1, p.2) (ap number_of is ∙ sum-summand _ _ (sym c.in_ok-env.ensures.1) c.args.summand _ large)

pub returns-in_err-few : goal.returns-in_err-few
returns-in_err-few c =
    let p = err_from_is_err_and c.from_residual-in_err-few.result c.from_residual-in_err-few.ensures.1 in
    let le = subst (λ (m : ℕ). m ≤ 2) c.in_ok-summand.ensures (summand-le c.in_ok-summand.summand) in
    let long = (tens-values c.args.values.now).0 in
    rw (p.1, p.2) (c.in_err-few.ensures {u = tt} ∙ sum-few _ _ (sym c.in_ok-env.ensures.1) c.args.summand _ _ long le)

pub returns : goal.returns
returns c =
    let a = c.in_ok-env.ensures in
    let le = subst (λ (m : ℕ). m ≤ 2) c.in_ok-summand.ensures (summand-le c.in_ok-summand.summand) in
    let long = (tens-values c.args.values.now).0 in
    (a.0, c.in_ok-summand.ensures, sym (sum-few _ _ (sym a.1) c.args.summand _ _ long le) ∙ sym (c.in_ok-few.ensures {u = tt}))
