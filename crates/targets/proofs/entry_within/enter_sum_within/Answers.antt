-- By the tests before the total, the format's name, and the total.
use Rattle.totals.proofs.Refusals.{number-some}
use Rattle.targets.proofs.EstimateWritten.{sum-refused, sum-misnamed, sum-asks, sum-entered}
use Rattle.targets.proofs.entry_within.enter_sum_within.Goals as goal

pub returns-in-Err : goal.returns-in-Err
returns-in-Err c = rw c.number.ensures (sum-refused c.args.format _ _ _ _ _ (rw c.cut_short-cut.ensures at c.in-Err.ensures) (number-some _))

pub returns-in_default-format : goal.returns-in_default-format
returns-in_default-format c =
    let named = c.in_default-format.ensures.0 in
    rw c.number-in_default-format.ensures (sum-misnamed c.args.format _ _ _ _ _ (rw c.cut_short-cut.ensures at (c.in_default.ensures {u = tt})) named)

pub enter_estimate-requires : goal.enter_estimate-requires
enter_estimate-requires c =
    let (named, is) = c.in-Ok.ensures in
    sum-asks c.args.format _ _ _ _ _ (rw c.cut_short-cut.ensures at (c.in_default.ensures {u = tt}))
    (rw is at c.sum_bytes_within-estimate.ensures.answer)

pub returns : goal.returns
returns c =
    let (named, is) = c.in-Ok.ensures in
    sum-entered c.args.format _ _ _ _ _ (rw c.cut_short-cut.ensures at (c.in_default.ensures {u = tt}))
    (rw is at c.sum_bytes_within-estimate.ensures.answer) named _ _ c.enter_estimate.ensures
